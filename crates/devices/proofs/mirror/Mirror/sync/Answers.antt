use Rattle.devices.proofs.Names.{ap, length, take_rest, rewritten}
use Rattle.std.proofs.Common.{◌∙◌}
use Rattle.devices.proofs.Keeps.{sound_synced}
use Rattle.devices.proofs.mirror.Mirror.sync.Goals as goal

pub invariant_of-self : goal.invariant_of-self
invariant_of-self c =
    let s = c.args.self.now.sound in
    let same = c.copy_written.auto.into ∙ ap length c.deref_mut.ensures.value in
    let patched = rw (take_rest, c.deref-2.ensures.value, c.deref.ensures.value, c.deref_mut.ensures.value) at
    c.copy_written.ensures.patched in
    let fits = rw c.deref_mut.ensures.value at c.copy_written.ensures.fits in
    record {
      sound = rw (
        rewritten c.args.self.now.synced.len c.copy_written.new.into c.args.self.now.synced.items c.args.self.now.synced.ok.0 same,
        c.len-self.ensures,
        c.note.new.entries.ok.0,
      )
          (sound_synced _ _ _ _ _ _ s c.copy_written.new.into c.note.new.entries.items same (fits s.synced_fits) patched
          c.note.ensures.items);
    }
