use Rattle.reach.proofs.Names.{subst, arith, wrote_trans, err_from_is_err_and, Wrote, member_line, writes_fail, lines_split, lines_more, lines_all}
use Rattle.reach.proofs.printing.print_members.Goals as goal

pub returns-in_err-print_member : goal.returns-in_err-print_member
returns-in_err-print_member g c =
    let at = c.loop-number.number in
    let o = c.index-objects-number.result in
    let p = err_from_is_err_and c.from_residual.result c.from_residual.ensures.1 in
    rw (p.1, p.2) (writes_fail _ _ _ _ _ _ _ _ (lines_split (member_line c.args.format c.args.inside.now) c.args.objects.now at o
    c.loop-number-test.true)
    c.loop-number.invariant (rw (← c.index-objects-number.is) c.in_err-print_member.ensures))

pub loop-number-preserved : goal.loop-number-preserved
loop-number-preserved g c =
    let at = c.loop-number.number in
    let o = c.index-objects-number.result in
    rw (lines_more (member_line c.args.format c.args.inside.now) c.args.objects.now at o c.loop-number-test.true)
    (wrote_trans _ _ _ _ _ c.loop-number.invariant
    (rw (← c.index-objects-number.is) c.in_ok-print_member.ensures))

pub returns : goal.returns
returns g c = subst (Wrote _ _) (lines_all (member_line c.args.format c.args.inside.now) c.args.objects.now c.loop-number.number
    (omega arith)) c.loop-number.invariant
