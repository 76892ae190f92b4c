use Rattle.script.proofs.Names.{arith}
use Rattle.script.proofs.ShortNumbers.{last_two, last_three}
use Rattle.script.proofs.short.last_longer.Goals as goal

pub returns-then-text-at : goal.returns-then-text-at
returns-then-text-at c = last_two _ _ _ _ _ c.if-text-at.true
    c.in_ok-first.ensures (λ zero. omega (arith, zero, c.if-first-eq0.false, c.in_ok-first.ensures)) c.in_ok-second.ensures (omega arith)

pub returns-then-text-at-2 : goal.returns-then-text-at-2
returns-then-text-at-2 c = last_three _ _ _ _ _ _ c.if-text-at-2.true
    c.in_ok-first.ensures (λ zero. omega (arith, zero, c.if-first-eq0.false, c.in_ok-first.ensures)) c.in_ok-second.ensures
    c.in_ok-number.ensures (omega arith)
