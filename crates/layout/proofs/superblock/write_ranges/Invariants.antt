use Rattle.layout.proofs.Names.{take, ranges_bytes}
use Rattle.std.proofs.Common.{◌≡◌, ◌*◌}
use Rattle.layout.proofs.superblock.write_ranges.Given as goal

abbrev pub invariant-loop-i : goal.invariant-loop-i
invariant-loop-i l = take (24 * l.i) l.into ≡ ranges_bytes (take l.i l.ranges)
