use Rattle.layout.proofs.Superblocks.{RangesRead}
use Rattle.layout.proofs.superblock.read_ranges.Given as goal

abbrev pub invariant-loop-i : goal.invariant-loop-i
invariant-loop-i l = RangesRead l.bytes l.into l.i
