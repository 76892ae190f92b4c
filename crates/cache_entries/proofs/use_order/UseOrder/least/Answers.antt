use Rattle.cache_entries.proofs.Logs.{full_before}
use Rattle.cache_entries.proofs.use_order.UseOrder.least.Goals as goal

pub find_least-requires-clause-full : goal.find_least-requires-clause-full
find_least-requires-clause-full c = full_before c.self.inside.log c.self.inside.order c.self.invariant c.self.view_is c.requires
