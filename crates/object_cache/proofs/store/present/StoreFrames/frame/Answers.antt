use Rattle.object_cache.proofs.Names.{content_behind}
use Rattle.object_cache.proofs.Objects.{entry_some, entry_holds}
use Rattle.object_cache.proofs.store.present.StoreFrames.frame.Goals as goal

pub present-requires : goal.present-requires
present-requires g c = entry_some g.D.Device.disk c.self.view_is c.self.invariant c.requires

pub returns : goal.returns
returns g c = entry_holds g.D.Device.disk c.self.view_is c.self.invariant c.requires (content_behind c.present.result) c.present.ensures
