use Rattle.description.proofs.Names.{ap, rules, OfAnnex, slots_of}
use Rattle.std.proofs.Common.{◌∙◌}
use Rattle.model.specs.declared.object.Content.TheVariants as content
use Rattle.description.proofs.LaidFrames.{all_laid, more_laid, put_same, split_at}
use Rattle.description.proofs.objects.lay_annexes.Goals as goal

pub loop-process-preserved : goal.loop-process-preserved
loop-process-preserved c = more_laid OfAnnex _ _ _ _ _ _ (split_at _ _ _ c.loop-process-test.true c.process-item.is) (search rules)
    (put_same _ _ _ _ _ _ (ap content.Annex c.in_ok-registers.ensures ∙ ap (λ xs. content.Annex (slots_of xs)) c.deref.ensures.value)
    c.put.ensures)
    c.loop-process.invariant

pub returns : goal.returns
returns c = all_laid OfAnnex _ _ _ _ c.loop-process-test.false c.loop-process.invariant
