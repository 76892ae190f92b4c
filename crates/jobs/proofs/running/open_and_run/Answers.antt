use Rattle.jobs.proofs.running.open_and_run.Goals as goal

pub returns : goal.returns
returns g c = (
  c.in-Ok.kernel,
  c.run_observed-outcome.new.kernel,
  c.in-Ok.ensures.opened,
  c.run_observed-outcome.ensures.watched,
  c.into_device.ensures.is,
)
