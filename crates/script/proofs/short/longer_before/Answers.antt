use Rattle.script.proofs.Names.{arith}
use Rattle.script.proofs.ShortNumbers.{three_digits, two_digits}
use Rattle.script.proofs.short.longer_before.Goals as goal

pub returns-then-text-at-eq32 : goal.returns-then-text-at-eq32
returns-then-text-at-eq32 c = λ within.
    two_digits c.args.text.now c.args.at c.in-Some.first c.in-Some-digit_at.second _ c.requires c.in-Some.ensures
    (λ zero. omega (arith, zero, c.if-first-eq0.false, c.in-Some.ensures)) c.in-Some-digit_at.ensures c.if-text-at-eq32.true (omega arith)

pub returns-then-text-at-eq32-2 : goal.returns-then-text-at-eq32-2
returns-then-text-at-eq32-2 c = λ within.
    three_digits c.args.text.now c.args.at c.in-Some.first c.in-Some-digit_at.second _ _ (omega (arith, c.if-text-at.true))
    c.in-Some.ensures
    (λ zero. omega (arith, zero, c.if-first-eq0.false, c.in-Some.ensures)) c.in-Some-digit_at.ensures c.in-Some-digit_at-2.ensures
    c.if-text-at-eq32-2.true (omega arith)
