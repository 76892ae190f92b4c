use Rattle.reach.proofs.Names.{common_steps, arith, wrote_trans, err_from_is_err_and, writes_fail, step_line}
use Rattle.reach.specs.declared.step.Way.TheVariants as way
use Rattle.reach.proofs.TextLines.{plain_more, plain_split}
use Rattle.reach.proofs.explaining.print_steps.Goals as goal

pub returns-in_err-write_to : goal.returns-in_err-write_to
returns-in_err-write_to g c =
    let p = err_from_is_err_and c.from_residual.result c.from_residual.ensures.1 in
    rw (p.1, p.2) (writes_fail _ _ _ _ _ _ _ _
    (plain_split (step_line c.args.format c.args.objects.now) c.args.steps.now c.loop-step.step-index
    (record { from = 0; way = way.Annex; to = 0 }) c.loop-step-test.true)
    c.loop-step.invariant (rw (← c.line_of_step.ensures.text) c.in_err-write_to.ensures))

pub loop-step-preserved : goal.loop-step-preserved
loop-step-preserved g c = grind (arith, common_steps, plain_more, wrote_trans)
