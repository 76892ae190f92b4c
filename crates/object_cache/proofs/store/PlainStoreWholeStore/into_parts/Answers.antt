use Rattle.object_cache.proofs.Names.{refl}
use Rattle.object_cache.proofs.Objects.{all_copied}
use Rattle.object_cache.proofs.store.PlainStoreWholeStore.into_parts.Goals as goal

pub copy_objects-objects-requires : goal.copy_objects-objects-requires
copy_objects-objects-requires g c = c.self.invariant.whole refl

pub returns-clause-objects : goal.returns-clause-objects
returns-clause-objects g c =
    all_copied g.D.Device.disk c.self.view_is c.self.invariant _ refl c.copy_objects-objects.result c.copy_objects-objects.ensures.headers
    c.copy_objects-objects.ensures.count c.copy_objects-objects.ensures.bodies
