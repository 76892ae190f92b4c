use Rattle.object_cache.proofs.Objects.{bounded_seen}
use Rattle.object_cache.proofs.store.Store.len.Goals as goal

pub returns-clause-bounded : goal.returns-clause-bounded
returns-clause-bounded g c = bounded_seen g.D.Device.disk c.self.view_is c.self.invariant c.len.ensures.ordered
