use Rattle.capability.proofs.Names.{rules, List, ap, refl, length, get_or, [], Cap, ObjectHeader, held_at, live_cap, with_slots_in, with_held, Capability, Void}
use Rattle.capability.proofs.Names.{map, arith}
use Rattle.std.proofs.Common.{◌≡◌, ◌∙◌, ◌∷◌}
use Rattle.capability.proofs.Edits.{edited, slots_edit}
use Rattle.capability.proofs.objects.set_last_slots.Goals as goal

-- mapping a list of four items maps each of them
four : (f : Capability → Cap) (cs : List Capability) → length cs ≡ 4 → map f cs
    ≡ f (get_or cs 0 Void) ∷ f (get_or cs 1 Void) ∷ f (get_or cs 2 Void) ∷ f (get_or cs 3 Void) ∷ []
four f [] size = absurd (omega arith)
four f (a ∷ []) size = absurd (omega arith)
four f (a ∷ b ∷ []) size = absurd (omega arith)
four f (a ∷ b ∷ c ∷ []) size = absurd (omega arith)
four f (a ∷ b ∷ c ∷ d ∷ []) size = refl
four f (a ∷ b ∷ c ∷ d ∷ e ∷ cs) size = absurd (omega arith)

pub returns : goal.returns
returns g c =
    let F = g.F.Frames in
    let s = c.args.store.now in
    let n = c.args.number in
    let at = g.met.F.PresentFrames.known_announced s n c.requires.announced in
    let caps = c.args.message.now.capabilities in
    let size : length caps ≡ 4 = search rules in
    let live = λ (hs : List ObjectHeader). map (live_cap hs) caps in
    let held : c.live_cap.result ∷ c.live_cap-2.result ∷ c.live_cap-3.result ∷ c.live_cap-4.result ∷ [] ≡ live c.table-table.result.now =
    search four in
    edited F.parts F.IsFetched g.F.PresentFrames.IsAnnounced F.ContinuesTo s _ n _ _ _ c.set_last_slots.ensures
    (slots_edit (F.parts s) _ n at.0 at.1 28 (omega arith) caps
    (c.set_last_slots.ensures.parts_are ∙ ap (λ (cs : List Cap). with_held (F.parts s) n
    (with_slots_in (held_at (F.parts s).contents n) 28 cs))
    (held ∙ ap live c.table-table.ensures)))
