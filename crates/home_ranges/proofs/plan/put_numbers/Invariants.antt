use Rattle.home_ranges.proofs.LaidAgain.{NumbersTo}
use Rattle.home_ranges.proofs.plan.put_numbers.Given as goal

abbrev pub invariant-loop-i : goal.invariant-loop-i
invariant-loop-i l = NumbersTo l.ranges l.into l.i
