use Rattle.devices.proofs.Names.{ℕ, nat_tests, arith, ap, length, replicate, sym}
use Rattle.std.proofs.Common.{◌≡◌, ◌∙◌}
use Rattle.devices.proofs.sector_copy.store.Goals as goal

pub returns-then-not-are_zeros-clause-zeros : goal.returns-then-not-are_zeros-clause-zeros
returns-then-not-are_zeros-clause-zeros c none zeros =
    let all : c.args.sector.now ≡ replicate (length c.args.sector.now) 0 = zeros ∙ ap (λ (n : ℕ). replicate n 0) (sym c.requires.size) in
    let yes = c.are_zeros.ensures.1 all in
    grind (arith, nat_tests)
