use Rattle.devices.proofs.Names.{ap, length, arith, take_rest, rewritten}
use Rattle.std.proofs.Common.{◌∙◌}
use Rattle.devices.proofs.Keeps.{sound_cut, cut_left, left_sound}
use Rattle.devices.proofs.Entries.{length-marked}
use Rattle.devices.proofs.mirror.Mirror.power_cut.Goals as goal

pub invariant_of-self : goal.invariant_of-self
invariant_of-self c =
    let s = c.args.self.now.sound in
    let present_same = c.settle.auto.present ∙ ap length c.deref_mut.ensures.value in
    let synced_same = c.settle.auto.synced ∙ ap length c.deref_mut-2.ensures.value in
    let left = rw (take_rest, c.deref.ensures.value, c.deref_mut.ensures.value, c.deref_mut-2.ensures.value) at c.settle.ensures.left in
    let present_fits = rw c.deref_mut.ensures.value at c.settle.ensures.present_fits in
    let synced_fits = rw c.deref_mut-2.ensures.value at c.settle.ensures.synced_fits in
    record {
      sound = rw (
        rewritten c.args.self.now.present.len c.settle.new.present c.args.self.now.present.items c.args.self.now.present.ok.0 present_same,
        rewritten c.args.self.now.synced.len c.settle.new.synced c.args.self.now.synced.items c.args.self.now.synced.ok.0 synced_same,
        c.len-self.ensures,
        c.mark.new.entries.ok.0,
      )
          (sound_cut _ _ _ _ _ _ s c.settle.new.present c.settle.new.synced c.mark.new.entries.items c.args.outcome present_same synced_same
          (present_fits s.present_fits) (synced_fits s.synced_fits)
          c.settle.ensures.same (λ i. left i ∙ left_sound _ _ _ _ _ _ s c.args.outcome i) c.mark.ensures.items);
    }

pub returns-clause-entries : goal.returns-clause-entries
returns-clause-entries c =
    omega (
      arith,
      c.mark.new.entries.ok.0,
      c.args.self.now.entries.ok.0,
      ap length c.mark.ensures.items,
      length-marked c.args.outcome c.args.self.now.entries.items,
    )

pub returns-clause-left : goal.returns-clause-left
returns-clause-left c =
    let s = c.args.self.now.sound in
    let present_same = c.settle.auto.present ∙ ap length c.deref_mut.ensures.value in
    let synced_same = c.settle.auto.synced ∙ ap length c.deref_mut-2.ensures.value in
    let left = rw (take_rest, c.deref.ensures.value, c.deref_mut.ensures.value, c.deref_mut-2.ensures.value) at c.settle.ensures.left in
    let present_fits = rw c.deref_mut.ensures.value at c.settle.ensures.present_fits in
    let synced_fits = rw c.deref_mut-2.ensures.value at c.settle.ensures.synced_fits in
    cut_left _ _ _ _ _ _ s c.settle.new.present c.settle.new.synced c.mark.new.entries.items c.args.outcome present_same synced_same
    (present_fits s.present_fits) (synced_fits s.synced_fits)
    c.settle.ensures.same (λ i. left i ∙ left_sound _ _ _ _ _ _ s c.args.outcome i) c.mark.ensures.items
