use Rattle.description.proofs.Names.{length}
use Rattle.std.proofs.Common.{◌≡◌}
use Rattle.description.proofs.SeenNumbers.{AreSeen}
use Rattle.description.proofs.numbers.first_twice.Given as goal

-- the numbers before this place are marked, and they are distinct
abbrev pub invariant-loop-place : goal.invariant-loop-place
invariant-loop-place l = (length l.seen ≡ l.count) × AreSeen l.seen l.numbers l.place
