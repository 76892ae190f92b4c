use Rattle.script.proofs.Names.{rules, None, Some, arith, first_word}
use Rattle.script.proofs.FirstWords.{word_length, word_reads}
use Rattle.script.proofs.Numbers.{decimal_no_zero, number_found, number_none}
use Rattle.script.proofs.number.number_in_front.Goals as goal
use Rattle.script.proofs.number.number_in_front.Goals.{else-front-gt1-via-then-front-gt1+else-text-eq48, else-front-gt1-via-else-front-gt1}

pub returns-in_err-front-clause-none : goal.returns-in_err-front-clause-none
returns-in_err-front-clause-none c = rw c.from_residual.ensures (number_none (first_word c.args.text.now) None c.in_err-front.ensures.none)

pub returns-then-text-eq48-clause-none : goal.returns-then-text-eq48-clause-none
returns-then-text-eq48-clause-none c = search (rules, decimal_no_zero, word_length, word_reads)

pub returns-clause-found : goal.returns-clause-found
returns-clause-found c =
    let long = word_length c.args.text.now in
    let some = word_reads c.args.text.now 0 (omega (arith, c.in_ok-front.ensures.size, c.if-front-eq0.false)) in
    number_found (first_word c.args.text.now) (Some c.in_ok-front.front.number) some.0
    (λ zero. elim c.else-front-gt1.branch [
      | else-front-gt1-via-then-front-gt1+else-text-eq48 w ↦ absurd (omega (arith, some.1, zero, w.if-text-eq48.false))
      | else-front-gt1-via-else-front-gt1 w ↦ omega (arith, some.0, long, c.in_ok-front.ensures.size, w.if-front-gt1.false)
    ]) c.in_ok-front.ensures.found
