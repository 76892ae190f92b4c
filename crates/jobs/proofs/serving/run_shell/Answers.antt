use Rattle.jobs.proofs.serving.run_shell.Goals as goal

pub returns : goal.returns
returns g c = (
  c.open_and_serve-outcome.result.0,
  c.of_run.result,
  g.V.Output.written c.tell_unsaved.new.errors,
  rw c.report.ensures.device c.open_and_serve-outcome.ensures.serves,
  c.of_run.ensures,
  (c.report.ensures.status, c.report.ensures.fault),
  rw c.unsaved.ensures at c.tell_unsaved.ensures,
  c.report.ensures.reported,
)
