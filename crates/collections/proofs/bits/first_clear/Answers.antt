use Rattle.collections.proofs.Marks.{clear_by_word}
use Rattle.collections.proofs.bits.first_clear.Goals as goal

pub returns-in-Some-clause-some : goal.returns-in-Some-clause-some
returns-in-Some-clause-some c = clear_by_word _ _ _ _ (c.type_inv.words c.loop-word.word).fits c.saturating_sub.ensures
    c.loop-word.auto.word
    c.loop-word.invariant _ c.in-Some.ensures.some
