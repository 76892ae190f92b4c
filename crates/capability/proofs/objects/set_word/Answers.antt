use Rattle.capability.proofs.Edits.{edited, word_edit}
use Rattle.capability.proofs.objects.set_word.Goals as goal

pub returns : goal.returns
returns g c =
    let F = g.F.Frames in
    let s = c.args.store.now in
    let at = g.met.F.PresentFrames.known_announced s c.args.number c.requires.announced in
    edited F.parts F.IsFetched g.F.PresentFrames.IsAnnounced F.ContinuesTo s _ c.args.number _ _ _ c.set_word.ensures
    (word_edit (F.parts s) _ c.args.number at.0 at.1 c.args.index c.args.word c.ranges.word.fits c.set_word.ensures.parts_are)
