use Rattle.reach.proofs.Names.{refl, err_from_is_err_and, text_fails, line_of, object_at, flat_map, step_line, object_text}
use Rattle.reach.proofs.explaining.print_to.Goals as goal

pub returns-in_err-print_steps : goal.returns-in_err-print_steps
returns-in_err-print_steps g c =
    let p = err_from_is_err_and c.from_residual.result c.from_residual.ensures.1 in
    rw (p.1, p.2) (text_fails _ _ _ (flat_map (step_line c.args.format c.args.objects.now) c.args.steps.now)
    (line_of (object_text c.args.format c.args.object (object_at c.args.objects.now c.args.object))) _ refl c.in_err-print_steps.ensures)
