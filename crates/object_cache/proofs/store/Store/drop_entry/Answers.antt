use Rattle.object_cache.proofs.Caching.{dropped_next}
use Rattle.object_cache.proofs.store.Store.drop_entry.Goals as goal
use Rattle.object_cache.proofs.Objects.{entry_some}

pub remove-requires : goal.remove-requires
remove-requires g c = entry_some g.D.Device.disk c.self.view_is c.self.invariant c.requires.fetched

pub invariant_of-self : goal.invariant_of-self
invariant_of-self g c =
    rw c.remove.ensures
    (dropped_next g.D.Device.disk c.self.view_is c.self.invariant c.requires.fetched c.requires.clean c.requires.frozen_state
    c.requires.masked c.requires.some).is

pub returns : goal.returns
returns g c =
    rw c.remove.ensures
    (dropped_next g.D.Device.disk c.self.view_is c.self.invariant c.requires.fetched c.requires.clean c.requires.frozen_state
    c.requires.masked c.requires.some).view
