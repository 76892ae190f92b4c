use Rattle.capability.proofs.Names.{refl, Capability, Root, changed_root, with_root_word}
use Rattle.capability.proofs.Edits.{edited, root_edit, word_kept}
use Rattle.capability.specs.declared.present.RootChange.TheVariants as change
use Rattle.capability.proofs.roots.set_word.Goals as goal

pub returns : goal.returns
returns g c =
    let F = g.F.Frames in
    let s = c.args.store.now in
    let n = c.args.process in
    let at = g.met.F.PresentFrames.known_announced s n c.requires.announced in
    edited F.parts F.IsFetched g.F.PresentFrames.IsAnnounced F.ContinuesTo s _ n _ _ _ c.change_root.ensures
    (root_edit (F.parts s) _ n at.0 at.1 (changed_root (change.Word c.args.index c.args.word))
    (λ (r : Root Capability). with_root_word r c.args.index c.args.word) (λ age. Unit {0})
    (λ r. refl) (λ r current. current)
    (λ age may r k. (word_kept c.args.index c.args.word r.words c.ranges.word.fits k.0, k.1, k.2, k.3, k.4)) c.requires.process
    c.change_root.ensures.parts_are)
