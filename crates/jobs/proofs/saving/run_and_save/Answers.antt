use Rattle.jobs.proofs.Names.{HasStop, IsRunEnd, Option, Stop, subst, sym}
use Rattle.jobs.proofs.Observed.{saver_has_stop}
use Rattle.jobs.proofs.saving.run_and_save.Goals as goal

pub of_run-ran-requires : goal.of_run-ran-requires
of_run-ran-requires g c =
    subst (λ (s : Option Stop). HasStop c.open_run_and_save-outcome.result.0 s) (sym c.stop.ensures)
    (saver_has_stop g.D.Device.disk g.S.ObjectStore.view g.S.Frames.parts c.args.device c.open_run_and_save-outcome.result.2
    g.T.Output.written c.args.tracer.now
    c.open_run_and_save-outcome.new.tracer
    (g.R.Script.unread c.args.reader.now) (g.R.Script.unread c.open_run_and_save-outcome.new.reader) (g.W.Output.written c.args.writer.now)
    (g.W.Output.written c.open_run_and_save-outcome.new.writer) c.open_run_and_save-outcome.result.0 c.open_run_and_save-outcome.result.1
    c.open_run_and_save-outcome.ensures)

pub returns : goal.returns
returns g c = (
  c.end_of.result,
  (c.report.ensures.status, c.report.ensures.fault),
  c.report.ensures.reported,
  rw c.report.ensures.device (
    c.open_run_and_save-outcome.result.0,
    c.of_run-ran.result,
    c.open_run_and_save-outcome.result.1,
    subst (λ (s : Option Stop). IsRunEnd c.open_run_and_save-outcome.result.0 s c.of_run-ran.result) c.stop.ensures c.of_run-ran.ensures,
    c.open_run_and_save-outcome.ensures,
    c.end_of.ensures,
  ),
)
