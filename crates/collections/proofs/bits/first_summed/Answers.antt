use Rattle.std.proofs.Common.{rules}
use Rattle.std.proofs.Common.{refl, arith}
use Rattle.collections.proofs.Marks.{first_by_word, first_later, none_later}
use Rattle.collections.proofs.bits.first_summed.Goals as goal

pub returns-in-Some-clause-some : goal.returns-in-Some-clause-some
returns-in-Some-clause-some c = first_by_word _ _ _ _ _ (omega arith) (omega arith) (λ m past before. absurd (omega arith))
    c.in-Some.ensures.some

pub returns-in_err-later-clause-none : goal.returns-in_err-later-clause-none
returns-in_err-later-clause-none c _ = none_later _ _ c.requires.summed _ (c.in_default.ensures.none refl)
    (c.in_err-later.ensures.none refl)

pub returns-clause-some : goal.returns-clause-some
returns-clause-some c = search (rules, first_later)
