use Rattle.reach.proofs.Names.{ℕ, ap, refl, err_from_is_err_and, enumerate_from, flat_map, line_of, number_line, text_fails, writes_after, member_line}
use Rattle.reach.proofs.Names.{count_by}
use Rattle.std.proofs.Common.{◌∙◌}
use Rattle.reach.proofs.printing.print_counted.Goals as goal

pub returns-in_err-print_members : goal.returns-in_err-print_members
returns-in_err-print_members g c =
    let p = err_from_is_err_and c.from_residual.result c.from_residual.ensures.1 in
    let marks = c.args.inside.now in
    rw (p.1, p.2) (text_fails _ _ _ (flat_map (member_line c.args.format marks) (enumerate_from 0 c.args.objects.now))
    (line_of (number_line c.args.format c.args.word.now (count_by (λ b. b) marks))) _ refl c.in_err-print_members.ensures)

pub returns : goal.returns
returns g c =
    let is = c.number_line.ensures.text ∙ ap (λ (n : ℕ). number_line c.args.format c.args.word.now n) c.count_members.ensures in
    writes_after _ _ _ _ _ _ c.in_ok-print_members.ensures (rw is at c.write_to.ensures)
