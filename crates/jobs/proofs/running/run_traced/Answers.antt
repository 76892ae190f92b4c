use Rattle.jobs.proofs.Names.{Option, sym, subst, Stop, HasStop, IsRunEnd}
use Rattle.jobs.proofs.Observed.{tracer_has_stop}
use Rattle.jobs.proofs.running.run_traced.Goals as goal

pub of_run-requires : goal.of_run-requires
of_run-requires g c =
    subst (λ (s : Option Stop). HasStop c.open_and_run-outcome.result.0 s) (sym c.stop.ensures)
    (tracer_has_stop g.D.Device.disk g.S.ObjectStore.view g.S.Frames.parts c.args.device c.open_and_run-outcome.result.1 g.T.Output.written
    c.args.tracer.now
    c.open_and_run-outcome.new.observer
    (g.R.Script.unread c.args.reader.now) (g.R.Script.unread c.open_and_run-outcome.new.reader) (g.W.Output.written c.args.writer.now)
    (g.W.Output.written c.open_and_run-outcome.new.writer) c.open_and_run-outcome.result.0 c.open_and_run-outcome.ensures)

pub returns : goal.returns
returns g c = (
  c.of_run.result,
  (c.report.ensures.status, c.report.ensures.fault),
  c.report.ensures.reported,
  rw c.report.ensures.device (
    c.open_and_run-outcome.result.0,
    subst (λ (s : Option Stop). IsRunEnd c.open_and_run-outcome.result.0 s c.of_run.result) c.stop.ensures c.of_run.ensures,
    c.open_and_run-outcome.ensures,
  ),
)
