use Rattle.description.proofs.Names.{common_steps, arith}
use Rattle.description.proofs.Ranges.{gone_on}
use Rattle.description.proofs.limits.bad_range.Goals as goal

pub loop-index-preserved : goal.loop-index-preserved
loop-index-preserved c = grind (arith, common_steps, gone_on)
