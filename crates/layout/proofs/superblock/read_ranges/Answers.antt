use Rattle.std.proofs.Common.{rules}
use Rattle.layout.proofs.Superblocks.{none_read, range_read}
use Rattle.layout.proofs.superblock.read_ranges.Goals as goal

pub loop-i-init : goal.loop-i-init
loop-i-init c = none_read c.args.bytes.now c.args.into.now

pub loop-i-preserved : goal.loop-i-preserved
loop-i-preserved c = search (rules, range_read)
