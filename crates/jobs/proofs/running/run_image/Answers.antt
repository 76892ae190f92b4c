use Rattle.std.proofs.Common.{◌≡◌, true}
use Rattle.jobs.proofs.Observed.{needs_no_stop, runs_unseen}
use Rattle.jobs.proofs.running.run_image.Goals as goal

pub of_run-requires : goal.of_run-requires
of_run-requires g c =
    needs_no_stop g.D.Device.disk g.S.ObjectStore.view g.S.Frames.parts c.args.device c.open_and_run-outcome.result.1
    (λ g t old new on. on ≡ true)
    c.open_and_run-outcome.new.observer c.open_and_run-outcome.new.observer
    (g.R.Script.unread c.args.reader.now) (g.R.Script.unread c.open_and_run-outcome.new.reader) (g.W.Output.written c.args.writer.now)
    (g.W.Output.written c.open_and_run-outcome.new.writer) (λ g t old new on is. is) c.open_and_run-outcome.result.0
    c.open_and_run-outcome.ensures

pub returns : goal.returns
returns g c = (
  c.of_run.result,
  (c.report.ensures.status, c.report.ensures.fault),
  c.report.ensures.reported,
  rw c.report.ensures.device (runs_unseen g.D.Device.disk g.S.ObjectStore.view g.S.Frames.parts c.args.device
      c.open_and_run-outcome.result.1
      (λ g t old new on. on ≡ true) c.open_and_run-outcome.new.observer c.open_and_run-outcome.new.observer
      (g.R.Script.unread c.args.reader.now) (g.R.Script.unread c.open_and_run-outcome.new.reader) (g.W.Output.written c.args.writer.now)
      (g.W.Output.written c.open_and_run-outcome.new.writer) c.open_and_run-outcome.result.0 c.of_run.result c.of_run.ensures
      c.open_and_run-outcome.ensures),
)
