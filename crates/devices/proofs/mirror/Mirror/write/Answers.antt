use Rattle.devices.proofs.Names.{ap, length, rewritten}
use Rattle.std.proofs.Common.{◌∙◌}
use Rattle.devices.proofs.Keeps.{sound_written}
use Rattle.devices.proofs.mirror.Mirror.write.Goals as goal

pub invariant_of-self : goal.invariant_of-self
invariant_of-self c =
    let s = c.args.self.now.sound in
    let same = c.put.auto.sectors ∙ ap length c.deref_mut.ensures.value in
    record {
      sound = rw (rewritten c.args.self.now.present.len c.put.new.sectors c.args.self.now.present.items c.args.self.now.present.ok.0 same)
          (sound_written _ _ _ _ _ _ s c.put.new.sectors c.args.from.now c.note_writes.new.entries.items c.args.at same c.put.ensures.fits
          c.requires.inside
          c.put.ensures.written
          (rw c.deref_mut.ensures.value at c.put.ensures.elsewhere) c.note_writes.ensures.items);
    }
