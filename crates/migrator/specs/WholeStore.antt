-- A store with all objects in memory, over a durable store.
use Rattle.migrator.specs.Names.{length, Disk, Parts, View}
use Rattle.std.specs.Prelude.{◌≡◌}
use Rattle.migrator.specs.declared.whole_store.AllObjects.{AllObjects}
use Rattle.migrator.specs.Durable.{DurableState, is_sound, stored_of}

-- these are the present objects of a store: its headers, and a content for each
pub record AreObjectsOf (p : Parts) (os : AllObjects) : Type 0 where
  pub headers_are : os.headers.items ≡ p.headers
  pub contents : os.contents.items ≡ p.contents
  pub each : length p.contents ≡ length p.headers

-- a store saves what its durable store does, over the same device
pub record IsOver {D : Type 0} (disk : D → Disk) (v : View D) (d : DurableState D) : Type 0 where
  pub beneath : v.beneath ≡ d.beneath
  pub saved : v.snapshots.saved ≡ (stored_of disk d).saved
  pub sound : v.usable → is_sound disk d
