use Rattle.reach.proofs.Names.{wrote_trans, err_from_is_err_and, member_pulls, writes_fail, lines_split, lines_more}
use Rattle.reach.proofs.printing.print_all_pulls.Goals as goal

pub returns-in_err-print_member_pulls : goal.returns-in_err-print_member_pulls
returns-in_err-print_member_pulls g c =
    let at = c.loop-number.number in
    let o = c.index-objects-number.result in
    let p = err_from_is_err_and c.from_residual.result c.from_residual.ensures.1 in
    rw (p.1, p.2) (writes_fail _ _ _ _ _ _ _ _ (lines_split (member_pulls c.args.format c.args.objects.now c.args.inside.now)
    c.args.objects.now at o c.loop-number-test.true)
    c.loop-number.invariant (rw (← c.index-objects-number.is) c.in_err-print_member_pulls.ensures))

pub loop-number-preserved : goal.loop-number-preserved
loop-number-preserved g c =
    let at = c.loop-number.number in
    let o = c.index-objects-number.result in
    rw (lines_more (member_pulls c.args.format c.args.objects.now c.args.inside.now) c.args.objects.now at o c.loop-number-test.true)
    (wrote_trans _ _ _ _ _ c.loop-number.invariant (rw (← c.index-objects-number.is) c.in_ok-print_member_pulls.ensures))
