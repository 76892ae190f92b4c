use Rattle.layout.proofs.Extents.{ApartBelow}
use Rattle.layout.proofs.extent.are_apart.Given as goal

abbrev pub invariant-loop-i : goal.invariant-loop-i
invariant-loop-i l = ApartBelow l.extents l.i
