use Rattle.std.proofs.Common.{◌≡◌, take, map}
use Rattle.layout.specs.Superblock.{range_extent}
use Rattle.layout.proofs.extent.fill_extents.Given as goal

abbrev pub invariant-loop-i : goal.invariant-loop-i
invariant-loop-i l = take l.i l.into ≡ map (range_extent l.version l.geometry) (take l.i l.ranges)
