use Rattle.vezhnake_images.proofs.Names.{ap, sym, headers_in, keepable_roles, SavedFrames, saved_by, headers}
use Rattle.std.proofs.Common.{◌∙◌}
use Rattle.vezhnake_images.proofs.Infos.{info_saved}
use Rattle.vezhnake_images.proofs.raw_info.RawInfoSavedPart.read.Goals as goal

pub returns-clause-part : goal.returns-clause-part
returns-clause-part g c =
    let store = c.args.store.now in
    let parts = g.S.Frames.parts store in
    let saved = (g.met.S.WholeStore.is_over store).saved in
    c.info_about.ensures ∙ info_saved _ _ (saved_by g.D.Device.disk (g.S.WholeStore.durable store)) _ c.superblock.ensures
    (c.saved.ensures.generation ∙ ap (λ (x : SavedFrames). x.generation) saved)
    (c.saved.ensures.age ∙ ap (λ (x : SavedFrames). x.age) saved)
    (c.saved.ensures.entries ∙ ap (λ (x : SavedFrames). x.entries) saved)
    (c.headers.ensures ∙ c.table.ensures ∙ sym (headers_in parts.headers parts.contents) ∙ ap headers c.requires.saved)
    (keepable_roles _ _ _ c.requires.sound.keepable)
