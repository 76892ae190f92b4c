use Rattle.vezhnake.proofs.Names.{rules}
use Rattle.vezhnake.proofs.ServedLines.{none_served}
use Rattle.vezhnake.proofs.serving.serve_one.Goals as goal

pub returns-in-None-clause-none : goal.returns-in-None-clause-none
returns-in-None-clause-none g c = (
  search rules,
  none_served g.S.ObjectStore.view g.S.Frames.parts c.crashes_in_runs_are_survived.ensures c.args.kernel.now,
)
