use Rattle.command_line.proofs.Names.{rules, IfOk, IsNone, subst, sym, found_of, rows_of, NamesNone}
use Rattle.command_line.proofs.Getters.{met}
use Rattle.command_line.proofs.requested.requested.Goals as goal

pub returns-in-Some-clause-none : goal.returns-in-Some-clause-none
returns-in-Some-clause-none c =
    let is = met c.args.matches c.in-Some.name.now (rows_of (found_of c.in-Some.inner.now)) (search rules) (search rules) in
    subst (λ s. IfOk c.line_named.result (λ o. IsNone o → NamesNone s)) (sym is) c.line_named.ensures.none
