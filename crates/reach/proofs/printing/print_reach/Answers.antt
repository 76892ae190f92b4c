use Rattle.reach.proofs.Names.{codes, refl, err_from_is_err_and, enumerate_from, flat_map, text_fails, writes_after, member_pulls, reach_text, counted_text}
use Rattle.reach.proofs.printing.print_reach.Goals as goal

pub returns-in_err-print_counted : goal.returns-in_err-print_counted
unfolding reach_text
returns-in_err-print_counted g c =
    let p = err_from_is_err_and c.from_residual.result c.from_residual.ensures.1 in
    let os = c.args.objects.now in
    let marks = c.args.inside.now in
    rw (p.1, p.2) (text_fails _ _ _ (counted_text c.args.format (codes "closed") os marks)
    (flat_map (member_pulls c.args.format os marks) (enumerate_from 0 os)) _ refl
    c.in_err-print_counted.ensures)

pub returns : goal.returns
unfolding reach_text
returns g c = writes_after _ _ _ _ _ _ c.in_ok-print_counted.ensures c.print_all_pulls.ensures
