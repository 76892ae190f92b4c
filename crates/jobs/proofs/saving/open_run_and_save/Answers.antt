use Rattle.jobs.proofs.Names.{refl}
use Rattle.jobs.proofs.saving.open_run_and_save.Goals as goal

pub returns-in-Err-run_observed : goal.returns-in-Err-run_observed
returns-in-Err-run_observed g c = (
  c.in-Ok.kernel,
  c.run_observed.new.kernel,
  c.run_observed.new.kernel,
  c.in-Ok.ensures.opened,
  g.W.Output.written c.run_observed.new.writer,
  c.in-Err-run_observed.ensures.watched,
  (refl, refl, refl),
  c.into_device-in-Err-run_observed.ensures.is,
)
