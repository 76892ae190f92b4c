use Rattle.model_laws.proofs.ConfinedGates.{invocation_confined}
use Rattle.model_laws.proofs.confinement.laws.invocation_is_confined.Goals as goal

pub returns : goal.returns
returns c = invocation_confined
