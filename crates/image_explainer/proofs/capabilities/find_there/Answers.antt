use Rattle.image_explainer.proofs.Names.{[], ap, caps_in, frames_of, holds_none, content_read, content_behind, ContentRef, not_annex, not_node, not_root}
use Rattle.std.proofs.Common.{◌∷◌}
use Rattle.image_explainer.proofs.Naming.{held_there, none_there, nothing_there}
use Rattle.image_explainer.proofs.capabilities.find_there.Goals as goal

pub find_in-requires-clause-held : goal.find_in-requires-clause-held
find_in-requires-clause-held g c =
    let p = g.F.Frames.parts c.args.store.now in
    let known = (g.met.F.Frames.known_fetched c.args.store.now c.args.number c.requires.fetched).0 in
    let held = content_behind c.frame.result in
    held_there (frames_of p) held c.args.number (content_read p c.args.number held known c.frame.ensures) c.in-Node.slots.now
    (ap (λ (r : ContentRef). caps_in (content_behind r)) c.in-Node.is)

pub find_in-requires-in-Root-clause-held : goal.find_in-requires-in-Root-clause-held
find_in-requires-in-Root-clause-held g c =
    let p = g.F.Frames.parts c.args.store.now in
    let known = (g.met.F.Frames.known_fetched c.args.store.now c.args.number c.requires.fetched).0 in
    let held = content_behind c.frame.result in
    held_there (frames_of p) held c.args.number (content_read p c.args.number held known c.frame.ensures) (c.in-Root.root.now.space ∷ [])
    (ap (λ (r : ContentRef). caps_in (content_behind r)) c.in-Root.is)

pub find_in-requires-in-Annex-clause-held : goal.find_in-requires-in-Annex-clause-held
find_in-requires-in-Annex-clause-held g c =
    let p = g.F.Frames.parts c.args.store.now in
    let known = (g.met.F.Frames.known_fetched c.args.store.now c.args.number c.requires.fetched).0 in
    let held = content_behind c.frame.result in
    held_there (frames_of p) held c.args.number (content_read p c.args.number held known c.frame.ensures) c.in-Annex.registers.now
    (ap (λ (r : ContentRef). caps_in (content_behind r)) c.in-Annex.is)

pub returns-in-Node-clause-none : goal.returns-in-Node-clause-none
returns-in-Node-clause-none g c =
    let p = g.F.Frames.parts c.args.store.now in
    let known = (g.met.F.Frames.known_fetched c.args.store.now c.args.number c.requires.fetched).0 in
    let held = content_behind c.frame.result in
    none_there (frames_of p) held c.args.number (content_read p c.args.number held known c.frame.ensures) c.in-Node.slots.now
    c.find_in.result
    (ap (λ (r : ContentRef). caps_in (content_behind r)) c.in-Node.is) c.find_in.ensures.none

pub returns-in-Root-clause-none : goal.returns-in-Root-clause-none
returns-in-Root-clause-none g c =
    let p = g.F.Frames.parts c.args.store.now in
    let known = (g.met.F.Frames.known_fetched c.args.store.now c.args.number c.requires.fetched).0 in
    let held = content_behind c.frame.result in
    none_there (frames_of p) held c.args.number (content_read p c.args.number held known c.frame.ensures) (c.in-Root.root.now.space ∷ [])
    c.find_in-in-Root.result
    (ap (λ (r : ContentRef). caps_in (content_behind r)) c.in-Root.is) c.find_in-in-Root.ensures.none

pub returns-in-Annex-clause-none : goal.returns-in-Annex-clause-none
returns-in-Annex-clause-none g c =
    let p = g.F.Frames.parts c.args.store.now in
    let known = (g.met.F.Frames.known_fetched c.args.store.now c.args.number c.requires.fetched).0 in
    let held = content_behind c.frame.result in
    none_there (frames_of p) held c.args.number (content_read p c.args.number held known c.frame.ensures) c.in-Annex.registers.now
    c.find_in-in-Annex.result
    (ap (λ (r : ContentRef). caps_in (content_behind r)) c.in-Annex.is) c.find_in-in-Annex.ensures.none

pub returns-in_default-clause-none : goal.returns-in_default-clause-none
returns-in_default-clause-none g c =
    let p = g.F.Frames.parts c.args.store.now in
    let known = (g.met.F.Frames.known_fetched c.args.store.now c.args.number c.requires.fetched).0 in
    let held = content_behind c.frame.result in
    nothing_there (frames_of p) held c.args.number (content_read p c.args.number held known c.frame.ensures)
    (holds_none held (not_node c.frame.result c.in_default.not-Node) (not_root c.frame.result c.in_default.not-Root)
    (not_annex c.frame.result c.in_default.not-Annex))
