use Rattle.capability.proofs.Names.{refl, Capability, Root, Running, changed_root}
use Rattle.capability.proofs.Edits.{edited, root_edit}
use Rattle.capability.specs.declared.present.RootChange.TheVariants as change
use Rattle.capability.proofs.objects.set_message.Goals as goal

pub returns : goal.returns
returns g c =
    let F = g.F.Frames in
    let s = c.args.store.now in
    let n = c.args.process in
    let at = g.met.F.PresentFrames.known_announced s n c.requires.announced in
    edited F.parts F.IsFetched g.F.PresentFrames.IsAnnounced F.ContinuesTo s _ n _ _ _ c.change_root.ensures
    (root_edit (F.parts s) _ n at.0 at.1 (changed_root (change.Message c.args.words c.args.key))
    (λ (r : Root Capability). record r { state = Running; words = c.args.words; key = c.args.key }) (λ age. Unit {0})
    (λ r. refl) (λ r current. current)
    (λ age may r k. (c.are_root_words.ensures, c.ranges.key.fits, k.2, k.3, k.4)) c.requires.process
    c.change_root.ensures.parts_are)
