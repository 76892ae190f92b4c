use Rattle.devices.proofs.Names.{ℕ, All, length, Elsewhere, image_of}
use Rattle.std.proofs.Common.{◌≡◌, ◌<◌, ◌+◌}
use Rattle.devices.proofs.sector_copy.SectorCopy.put.Given as goal

abbrev pub invariant-loop-i : goal.invariant-loop-i
invariant-loop-i l = record {
  written : (j : ℕ) → j < l.i → image_of l.from j ≡ image_of l.self (l.at + j);
  elsewhere : Elsewhere l.at l.i (image_of l.fn.self) (image_of l.self);
  length : length l.self ≡ length l.fn.self;
  fits : All (λ b. b < 256) l.self;
}
