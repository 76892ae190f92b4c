use Rattle.reach.proofs.Names.{take, flat_map, Wrote, step_line}
use Rattle.reach.proofs.explaining.print_steps.Given as goal

abbrev pub invariant-loop-step : goal.invariant-loop-step
invariant-loop-step g l = Wrote (g.W.Output.written l.fn.writer) (g.W.Output.written l.writer)
    (flat_map (step_line l.format l.objects) (take l.step-index l.steps))
