use Rattle.object_cache.proofs.Objects.{entry_some}
use Rattle.object_cache.proofs.Caching.{apart_next}
use Rattle.object_cache.proofs.store.Store.keep_apart.Goals as goal

pub keep_apart-requires : goal.keep_apart-requires
keep_apart-requires g c = entry_some g.D.Device.disk c.self.view_is c.self.invariant c.requires.fetched

pub invariant_of-self : goal.invariant_of-self
invariant_of-self g c = rw c.keep_apart.ensures (apart_next g.D.Device.disk c.self.view_is c.self.invariant c.requires.fetched
    c.requires.shared).is

pub returns : goal.returns
returns g c = rw c.keep_apart.ensures (apart_next g.D.Device.disk c.self.view_is c.self.invariant c.requires.fetched c.requires.shared).view
