use Rattle.capability.proofs.Names.{List, ap, Cap, ObjectHeader, held_at, with_slot_in, live_cap, with_held}
use Rattle.std.proofs.Common.{◌∙◌}
use Rattle.capability.proofs.Edits.{edited, slot_edit}
use Rattle.capability.proofs.objects.set_slot.Goals as goal

pub returns : goal.returns
returns g c =
    let F = g.F.Frames in
    let s = c.args.store.now in
    let n = c.args.number in
    let at = g.met.F.PresentFrames.known_announced s n c.requires.announced in
    let held = c.live_cap-held.ensures ∙ ap (λ (hs : List ObjectHeader). live_cap hs c.args.capability) c.table.ensures in
    edited F.parts F.IsFetched g.F.PresentFrames.IsAnnounced F.ContinuesTo s _ n _ _ _ c.set_slot.ensures
    (slot_edit (F.parts s) _ n at.0 at.1 c.args.slot c.args.capability
    (c.set_slot.ensures.parts_are ∙ ap (λ (h : Cap). with_held (F.parts s) n (with_slot_in (held_at (F.parts s).contents n) c.args.slot h))
    held))
