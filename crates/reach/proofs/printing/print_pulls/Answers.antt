use Rattle.reach.proofs.Names.{subst, sym, wrote_trans, err_from_is_err_and, Wrote, Void, pull_line, writes_fail, lines_split, lines_more}
use Rattle.reach.proofs.printing.print_pulls.Goals as goal

pub returns-in_err-print_pull : goal.returns-in_err-print_pull
returns-in_err-print_pull g c =
    let p = err_from_is_err_and c.from_residual.result c.from_residual.ensures.1 in
    rw (p.1, p.2) (writes_fail _ _ _ _ _ _ _ _
    (lines_split (pull_line c.args.format c.args.name.now c.args.number c.args.place) c.args.capabilities.now c.loop-index.index Void
    c.loop-index-test.true)
    c.loop-index.invariant c.in_err-print_pull.ensures)

pub loop-index-preserved : goal.loop-index-preserved
loop-index-preserved g c = subst (Wrote _ _) (sym (lines_more (pull_line c.args.format c.args.name.now c.args.number c.args.place) _ _ Void
    c.loop-index-test.true))
    (wrote_trans _ _ _ _ _ c.loop-index.invariant c.in_ok-print_pull.ensures)
