use Rattle.script.proofs.Names.{rules, refl, err_from_is_err_and, capability_lines}
use Rattle.script.proofs.Fronts.{line_fails, line_and}
use Rattle.script.proofs.shown.print_holder.Goals as goal

pub returns-in_err-print : goal.returns-in_err-print
returns-in_err-print g c =
    let p = err_from_is_err_and c.from_residual.result c.from_residual.ensures.1 in
    rw (p.1, p.2) (line_fails _ _ _ _ _ (capability_lines c.args.name.now c.args.capabilities.now) _ refl refl c.in_err-print.ensures)

pub returns : goal.returns
returns g c = search (rules, line_and)
