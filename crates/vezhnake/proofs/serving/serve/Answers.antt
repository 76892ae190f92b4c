use Rattle.vezhnake.proofs.ServedLines.{line_served}
use Rattle.vezhnake.proofs.serving.serve.Goals as goal

pub returns : goal.returns
returns g c =
    line_served g.S.ObjectStore.view g.S.Frames.parts c.crashes_in_runs_are_survived.ensures c.args.kernel.now c.step_with_code.new.self
    c.args.command.now
    c.step_with_code.result c.can_be_spelt.ensures c.step_with_code.ensures.serves c.step_with_code.ensures.cause
    c.step_with_code.ensures.code
    c.step_with_code.ensures.memory
