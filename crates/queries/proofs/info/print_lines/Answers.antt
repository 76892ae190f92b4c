use Rattle.queries.proofs.Names.{refl, err_from_is_err_and, line_of, place_fails, info_line}
use Rattle.queries.proofs.info.print_lines.Goals as goal

pub returns-in_err-print : goal.returns-in_err-print
returns-in_err-print g c =
    let p = err_from_is_err_and c.from_residual.result c.from_residual.ensures.1 in
    rw (p.1, p.2) (place_fails (λ l. line_of (info_line c.args.format l)) c.args.lines.now _ _ _ _ c.loop-line.line-index _ _ refl
    c.loop-line-test.true c.loop-line.invariant
    c.in_err-print.ensures)
