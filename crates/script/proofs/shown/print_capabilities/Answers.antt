use Rattle.script.proofs.Names.{subst, sym, arith, err_from_is_err_and, Wrote, Void, capability_line, capability_lines}
use Rattle.script.proofs.Fronts.{wrote_trans, writes_fail}
use Rattle.script.proofs.NumberedLines.{lines_split, lines_more, lines_all}
use Rattle.script.proofs.shown.print_capabilities.Goals as goal

pub returns-in_err-print_capability : goal.returns-in_err-print_capability
unfolding capability_lines
returns-in_err-print_capability g c =
    let p = err_from_is_err_and c.from_residual.result c.from_residual.ensures.1 in
    rw (p.1, p.2) (writes_fail _ _ _ _ _ _ _ _
    (lines_split (capability_line c.args.name.now) c.args.capabilities.now c.loop-index.index Void c.loop-index-test.true)
    c.loop-index.invariant c.in_err-print_capability.ensures)

pub loop-index-preserved : goal.loop-index-preserved
loop-index-preserved g c = subst (Wrote _ _) (sym (lines_more (capability_line c.args.name.now) _ _ Void c.loop-index-test.true))
    (wrote_trans _ _ _ _ _ c.loop-index.invariant c.in_ok-print_capability.ensures)

pub returns : goal.returns
unfolding capability_lines
returns g c = subst (Wrote _ _) (lines_all (capability_line c.args.name.now) c.args.capabilities.now c.loop-index.index (omega arith))
    c.loop-index.invariant
