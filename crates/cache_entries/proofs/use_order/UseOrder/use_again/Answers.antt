use Rattle.cache_entries.proofs.Names.{common_steps, arith, take_more}
use Rattle.cache_entries.proofs.Turns.{all_at_end, listed_more}
use Rattle.cache_entries.proofs.use_order.UseOrder.use_again.Goals as goal

pub loop-number-preserved : goal.loop-number-preserved
loop-number-preserved c = grind (arith, common_steps, all_at_end, take_more, listed_more)
