use Rattle.confinement.proofs.TrustedRuns.{run_confined}
use Rattle.confinement.proofs.laws.run_is_confined.Goals as goal

pub returns : goal.returns
returns c = run_confined
