use Rattle.command_line.proofs.Names.{rules, codes, refl, found_of, rows_of}
use Rattle.command_line.proofs.Lacking.{wrong_all}
use Rattle.command_line.proofs.requested.reach_with.Goals as goal

pub returns-in-None-clause-none : goal.returns-in-None-clause-none
returns-in-None-clause-none c =
    let gives = c.in_ok-trusted.ensures.none (search rules) in
    λ _. wrong_all (codes "reach") (codes "trust") (rows_of (found_of c.args.inner.now)) 0 18446744073709551615 gives.0 refl gives.1 gives.2
