use Rattle.description.proofs.Ranges.{GoneTo}
use Rattle.description.proofs.limits.bad_range.Given as goal

abbrev pub invariant-loop-index : goal.invariant-loop-index
invariant-loop-index l = GoneTo l.geometry l.ranges l.index l.next
