-- The gate of a header.
use Rattle.std.specs.Prelude.{ℕ, ◌==◌, if◌then◌else◌, Bool, List, ◌∷◌, slice_index}
use Rattle.layout.specs.declared.gate.Gate.{Gate}
use Rattle.layout.specs.declared.gate.Gate.TheVariants.{Closed, Open}
use Rattle.layout.specs.Bytes.{zeros}

-- the sector of a gate: its first byte is 1 if the gate is open, and the rest are zeros
abbrev pub gate_bytes : Gate → List ℕ
gate_bytes Closed = 0 ∷ zeros 511
gate_bytes Open = 1 ∷ zeros 511

-- a gate is open exactly if its first byte is 1
abbrev pub is_open : List ℕ → Bool
is_open bytes = slice_index bytes 0 == 1

abbrev pub gate_of : List ℕ → Gate
gate_of bytes = if is_open bytes then Open else Closed
