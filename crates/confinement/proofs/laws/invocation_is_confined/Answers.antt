use Rattle.confinement.proofs.TrustedRuns.{invocation_confined}
use Rattle.confinement.proofs.laws.invocation_is_confined.Goals as goal

pub returns : goal.returns
returns c = invocation_confined
