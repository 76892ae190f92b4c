use Rattle.home_ranges.proofs.Laying.{LaidTo}
use Rattle.home_ranges.proofs.plan.lay_ranges.Given as goal

abbrev pub invariant-loop-i : goal.invariant-loop-i
invariant-loop-i l = LaidTo l.version l.geometry l.ranges l.into l.i l.next
