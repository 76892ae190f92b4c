use Rattle.capability.proofs.Names.{refl, sym, subst, List, Capability, Object, Root, changed_root, objects_in}
use Rattle.capability.proofs.Edits.{IsEdit, edited, root_edit, state_is}
use Rattle.capability.specs.declared.present.RootChange.TheVariants as change
use Rattle.capability.proofs.roots.set_state.Goals as goal

pub returns : goal.returns
returns g c =
    let F = g.F.Frames in
    let s = c.args.store.now in
    let n = c.args.process in
    let at = g.met.F.PresentFrames.known_announced s n c.requires.announced in
    edited F.parts F.IsFetched g.F.PresentFrames.IsAnnounced F.ContinuesTo s _ n _ _ _ c.change_root.ensures
    (subst (λ (after : List Object). IsEdit (F.parts s) (F.parts c.change_root.new.self) after (λ age. Unit {0}))
    (sym (state_is (objects_in (F.parts s)) n c.args.state))
    (root_edit (F.parts s) _ n at.0 at.1 (changed_root (change.State c.args.state))
    (λ (r : Root Capability). record r { state = c.args.state })
    (λ age. Unit {0})
    (λ r. refl) (λ r current. current)
    (λ age may r k. k) c.requires.process
    c.change_root.ensures.parts_are))
