use Rattle.vezhnake_images.proofs.Infos.{ArePut}
use Rattle.vezhnake_images.proofs.raw_info.raw_ranges.Given as goal

abbrev pub invariant-loop-index : goal.invariant-loop-index
invariant-loop-index l = ArePut l.index l.ranges l.raw
