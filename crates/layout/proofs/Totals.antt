-- The total of sectors in a superblock's bytes.
use Rattle.layout.proofs.Names.{drop, ap, arith, number, Plan, IsPlan, superblock_bytes, ranges_bytes, total_in}
use Rattle.std.proofs.Common.{◌≡◌, ◌++◌}
use Rattle.layout.proofs.FrameReaders.{reported}
use Rattle.layout.proofs.Superblocks.{eight_ranges, end_of, plan_stream}

-- the total is read back from the bytes of a superblock
pub total_reported : (p : Plan) → IsPlan p → total_in (superblock_bytes p) ≡ p.total
unfolding number
total_reported p is =
    reported p.total (ranges_bytes (eight_ranges p.ranges) ++ end_of p) (drop 56 (superblock_bytes p)) (omega (arith, is.total))
    (ap (drop 56) (plan_stream p is.few))
