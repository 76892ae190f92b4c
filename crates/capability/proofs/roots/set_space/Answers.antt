use Rattle.capability.proofs.Names.{arith, ap, sym, subst, List, Capability, ObjectHeader, Root, IsCurrent, IsKeptCap, IsSpace, changed_root, live_cap}
use Rattle.capability.proofs.Names.{with_space}
use Rattle.std.proofs.Common.{◌∙◌}
use Rattle.capability.proofs.Edits.{edited, root_edit, space_kept, space_through}
use Rattle.capability.specs.declared.present.RootChange.TheVariants as change
use Rattle.capability.proofs.roots.set_space.Goals as goal

pub returns : goal.returns
returns g c =
    let F = g.F.Frames in
    let s = c.args.store.now in
    let n = c.args.process in
    let at = g.met.F.PresentFrames.known_announced s n c.requires.announced in
    let held = c.live_cap-held.ensures ∙ ap (λ (hs : List ObjectHeader). live_cap hs c.args.capability) c.table.ensures in
    edited F.parts F.IsFetched g.F.PresentFrames.IsAnnounced F.ContinuesTo s _ n _ _ _ c.change_root.ensures
    (root_edit (F.parts s) _ n at.0 at.1 (changed_root (change.Space c.live_cap-held.result))
    (λ (r : Root Capability). with_space r c.args.capability)
    (λ age. IsKeptCap (F.parts s).geometry age (live_cap (F.parts s).headers c.args.capability) × IsSpace c.args.capability)
    (space_through (F.parts s).headers c.args.capability c.live_cap-held.result held)
    (λ r current. subst (IsCurrent (F.parts s).headers) (sym held) (omega arith))
    (λ age may. space_kept (F.parts s).geometry age (F.parts s).headers c.args.capability c.live_cap-held.result held may.0 may.1)
    c.requires.process
    c.change_root.ensures.parts_are)
