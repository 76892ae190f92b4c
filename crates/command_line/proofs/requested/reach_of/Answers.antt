use Rattle.command_line.proofs.Names.{rules, codes, refl, found_of, rows_of}
use Rattle.command_line.proofs.Lacking.{wrong_all}
use Rattle.command_line.proofs.requested.reach_of.Goals as goal

pub returns-in-None-clause-none : goal.returns-in-None-clause-none
returns-in-None-clause-none c =
    let gives = c.in_ok-processes.ensures.none (search rules) in
    λ _. wrong_all (codes "reach") (codes "P") (rows_of (found_of c.args.inner.now)) 0 18446744073709551615 gives.0 refl gives.1 gives.2
