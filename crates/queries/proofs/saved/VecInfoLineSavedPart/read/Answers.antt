use Rattle.queries.proofs.Names.{IfOk, List, subst, ap, sym, InfoLine, SavedFrames, headers, headers_in, keepable_roles, saved_by}
use Rattle.std.proofs.Common.{◌∙◌, ◌≡◌}
use Rattle.queries.proofs.InfoImages.{lines_saved}
use Rattle.queries.proofs.saved.VecInfoLineSavedPart.read.Goals as goal

pub returns-clause-part : goal.returns-clause-part
returns-clause-part g c =
    let store = c.args.store.now in
    let parts = g.S.Frames.parts store in
    let saved = (g.met.S.WholeStore.is_over store).saved in
    subst (λ (ls : List InfoLine). IfOk c.lines_about.result (λ lines. lines.items ≡ ls))
    (lines_saved _ _ (saved_by g.D.Device.disk (g.S.WholeStore.durable store)) _ c.superblock.ensures
    (c.saved.ensures.generation ∙ ap (λ (x : SavedFrames). x.generation) saved)
    (c.saved.ensures.age ∙ ap (λ (x : SavedFrames). x.age) saved)
    (c.saved.ensures.entries ∙ ap (λ (x : SavedFrames). x.entries) saved)
    (c.headers.ensures ∙ c.table.ensures ∙ sym (headers_in parts.headers parts.contents) ∙ ap headers c.requires.saved)
    (keepable_roles _ _ _ c.requires.sound.keepable)) c.lines_about.ensures
