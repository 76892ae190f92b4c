use Rattle.layout.proofs.Extents.{CoveredTo}
use Rattle.layout.proofs.superblock.do_cover.Given as goal

abbrev pub invariant-loop-range : goal.invariant-loop-range
invariant-loop-range l = CoveredTo l.geometry l.ranges l.range-index l.next
