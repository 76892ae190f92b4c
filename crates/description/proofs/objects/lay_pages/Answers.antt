use Rattle.description.proofs.Names.{ap, rules, OfPage, words_of}
use Rattle.std.proofs.Common.{◌∙◌, ◌<◌, ◌^◌}
use Rattle.model.specs.declared.object.Content.TheVariants as content
use Rattle.description.proofs.LaidFrames.{all_laid, more_laid, put_same, split_at}
use Rattle.description.proofs.objects.lay_pages.Goals as goal

pub loop-page-preserved : goal.loop-page-preserved
loop-page-preserved c = more_laid OfPage _ _ _ _ _ _ (split_at _ _ _ c.loop-page-test.true c.page-item.is)
    (let owner : c.page-item.result.owner < 2 ^ 64 = search rules in (owner, (rw c.deref.ensures.value at c.in_ok-words.ensures.fits)))
    (put_same _ _ _ _ _ _ (ap content.Page c.in_ok-words.ensures.words ∙ ap (λ xs. content.Page (words_of xs)) c.deref.ensures.value)
    c.put.ensures)
    c.loop-page.invariant

pub returns : goal.returns
returns c = all_laid OfPage c.args.pages.now c.args.world.now c.loop-page.world c.loop-page.page-index c.loop-page-test.false
    c.loop-page.invariant
