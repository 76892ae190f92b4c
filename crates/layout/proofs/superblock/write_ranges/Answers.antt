use Rattle.layout.proofs.Names.{rules, get_or_default}
use Rattle.layout.proofs.Superblocks.{range_written}
use Rattle.layout.proofs.superblock.write_ranges.Goals as goal

pub loop-i-preserved : goal.loop-i-preserved
loop-i-preserved c = search (rules, range_written, get_or_default)
