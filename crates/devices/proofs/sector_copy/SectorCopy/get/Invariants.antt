use Rattle.devices.proofs.Names.{ℕ, image_of}
use Rattle.std.proofs.Common.{◌≡◌, ◌<◌, ◌+◌}
use Rattle.devices.proofs.sector_copy.SectorCopy.get.Given as goal

abbrev pub invariant-loop-i : goal.invariant-loop-i
invariant-loop-i l = (j : ℕ) → j < l.i → image_of l.into j ≡ image_of l.self (l.at + j)
