use Rattle.command_line.proofs.Names.{rules, subst, sym, IfOk, IsNone, IsNoJob, Text, found_of, rows_of, subcommand_name}
use Rattle.std.proofs.Common.{◌≡◌}
use Rattle.command_line.proofs.Lacking.{unknown}
use Rattle.command_line.proofs.requested.job_named.Goals as goal

pub returns-in-None-clause-none : goal.returns-in-None-clause-none
returns-in-None-clause-none c = λ _. unknown c.args.name.now (rows_of (found_of c.args.inner.now)) (search rules)

pub returns-in-Some-clause-none : goal.returns-in-Some-clause-none
returns-in-Some-clause-none c =
    let named : c.args.name.now ≡ subcommand_name c.in-Some.subcommand = search rules in
    subst (λ (name : Text). IfOk c.job_of.result (λ o. IsNone o → IsNoJob name (rows_of (found_of c.args.inner.now)))) (sym named)
    c.job_of.ensures.none
