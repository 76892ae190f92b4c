use Rattle.image_builder.proofs.Names.{IsWhole, IsOpenedFrom, subst, sym, ap, SavedFrames, IsSoundSaved, OnlyReads, saved_by}
use Rattle.std.proofs.Common.{◌∙◌}
use Rattle.image_builder.proofs.Upgrades.{seen_encodes}
use Rattle.image_builder.proofs.upgrading.OldImage.open.Goals as goal

pub invariant_of-result : goal.invariant_of-result
invariant_of-result g c =
    let disk = g.D.Device.disk in
    let s = c.in-Ok.live.store in
    let beneath = (g.S.WholeStore.durable s).beneath in
    let over = g.met.S.WholeStore.is_over s in
    let w = c.in-Ok.ensures.opened in
    subst (λ (x : g.row.S.Denot). IsWhole disk (g.S.Frames.parts x) (g.S.WholeStore.durable x)) (sym c.into_store.ensures)
    record {
      saves = (over.sound w.up.store (disk beneath).seen (g.met.D.Device.seen_left beneath)).0;
      sound = subst (λ (x : SavedFrames). IsSoundSaved x.geometry x) over.saved w.up.sound.saved;
      present = w.frames ∙ ap (λ (x : SavedFrames). x.frames) over.saved;
    }

pub returns-in-Ok-clause-opened : goal.returns-in-Ok-clause-opened
returns-in-Ok-clause-opened g c =
    let disk = g.D.Device.disk in
    let s = c.in-Ok.live.store in
    let beneath = (g.S.WholeStore.durable s).beneath in
    let over = g.met.S.WholeStore.is_over s in
    let w = c.in-Ok.ensures.opened in
    let reads = subst (λ (d : g.row.D.Denot). OnlyReads (disk c.args.old) (disk d)) over.beneath w.only_reads in
    subst (λ (x : g.row.S.Denot). IsOpenedFrom disk c.args.old (g.S.WholeStore.durable x)) (sym c.into_store.ensures)
    record {
      saves = seen_encodes (disk c.args.old) (disk beneath) (saved_by disk (g.S.WholeStore.durable s)) (λ x left.
          (over.sound w.up.store x left).0)
          (g.met.D.Device.seen_left beneath) reads.seen reads.size;
      only_reads = reads;
      failures = ap (λ (d : g.row.D.Denot). (disk d).failures) (sym over.beneath) ∙ w.failures;
    }
