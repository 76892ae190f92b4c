use Rattle.collections.proofs.Marks.{first_by_word}
use Rattle.collections.proofs.bits.first_set.Goals as goal

pub returns-in-Some-clause-some : goal.returns-in-Some-clause-some
returns-in-Some-clause-some c = first_by_word _ _ _ _ _ c.saturating_sub.ensures c.loop-word.auto.word c.loop-word.invariant
    c.in-Some.ensures.some
