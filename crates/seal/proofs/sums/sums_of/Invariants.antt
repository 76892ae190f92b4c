use Rattle.seal.proofs.Summing.{IsSummed}
use Rattle.seal.proofs.sums.sums_of.Given as goal

abbrev pub invariant-loop-i : goal.invariant-loop-i
invariant-loop-i l = IsSummed l.row l.i l.sums
