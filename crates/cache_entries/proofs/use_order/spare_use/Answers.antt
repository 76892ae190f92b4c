use Rattle.cache_entries.proofs.Logs.{settled_members}
use Rattle.cache_entries.proofs.use_order.spare_use.Goals as goal

pub returns-then-is_full-clause-members : goal.returns-then-is_full-clause-members
returns-then-is_full-clause-members c = settled_members c.args.log.now c.args.order.now c.requires c.settle.new.order c.settle.ensures.order
