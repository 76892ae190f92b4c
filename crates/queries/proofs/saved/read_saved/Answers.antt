use Rattle.queries.proofs.DescribedImages.{frames_are, no_memory, reads_saved, sound, state_of}
use Rattle.queries.proofs.saved.read_saved.Goals as goal

pub read-read-requires : goal.read-read-requires
read-read-requires g c = record {
  usable = (g.met.S.ObjectStore.usable_is _).1 c.in-Ok.ensures.opened.up.store;
  saved = frames_are g.met.D.Device.seen_left g.S.WholeStore.durable g.met.S.WholeStore.is_over c.in-Ok.ensures.opened;
  sound = sound g.met.D.Device.seen_left g.S.WholeStore.durable g.met.S.WholeStore.is_over c.in-Ok.ensures.opened;
}

pub returns-in-Ok-read-clause-read : goal.returns-in-Ok-read-clause-read
returns-in-Ok-read-clause-read g c = (
  state_of g.met.D.Device.seen_left g.S.WholeStore.durable g.met.S.WholeStore.is_over c.in-Ok.ensures.opened,
  reads_saved g.met.D.Device.seen_left g.S.WholeStore.durable g.met.S.WholeStore.is_over c.in-Ok.ensures.opened c.read-read.new.store _
      c.read-read.ensures.same c.into_device-device.ensures,
  c.in-Ok-read.ensures.part,
)

pub returns-clause-refused : goal.returns-clause-refused
returns-clause-refused g c = no_memory g.D.Device.disk _ _ (reads_saved g.met.D.Device.seen_left g.S.WholeStore.durable
    g.met.S.WholeStore.is_over
    c.in-Ok.ensures.opened c.read-read.new.store _ c.read-read.ensures.same c.into_device-device.ensures)
