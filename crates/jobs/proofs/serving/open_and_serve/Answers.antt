use Rattle.jobs.proofs.Names.{refl}
use Rattle.jobs.proofs.Observed.{unstopped}
use Rattle.jobs.proofs.serving.open_and_serve.Goals as goal

pub returns-clause-serves : goal.returns-clause-serves
returns-clause-serves g c = (
  c.in-Ok.kernel,
  c.serve_all-outcome.new.kernel,
  c.in-Ok.ensures.opened,
  c.serve_all-outcome.ensures.served,
  c.into_device.ensures.is,
)

pub returns-clause-stop : goal.returns-clause-stop
returns-clause-stop g c = unstopped c.serve_all-outcome.result c.serve_all-outcome.ensures.unstopped
