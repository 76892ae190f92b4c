-- Gates that a burst can't change.
use Rattle.std.specs.Prelude.{ℕ}
use Rattle.device.specs.Disk.{Image}
use Rattle.layout.specs.sealed.GateLaws.{IsWhole}
use Rattle.layout.specs.sealed.Opening.{gate_sector}

-- the gate of slot k is whole, as each gate is unless a crash tore it
abbrev pub HasWholeGate : Image → ℕ → Type 0
HasWholeGate image k = IsWhole (image (gate_sector k))
