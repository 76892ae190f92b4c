use Rattle.recovery.proofs.Trees.{owned_whole}
use Rattle.recovery.proofs.consistency.banks.find_unowned.Goals as goal

pub returns : goal.returns
returns g c =
    owned_whole (g.F.Frames.parts c.args.store.now) c.table.result.now c.count-number-end.result c.loop-number.number c.table.ensures
    c.count-number-end.ensures
    c.loop-number-test.false (c.has_prime_bank.ensures.0 c.if-not-has_prime_bank.false) (λ m less. (c.loop-number.invariant m less).0)
    (λ m less. (c.loop-number.invariant m less).1)
