use Rattle.confinement.proofs.TrustedRuns.{turns_confined}
use Rattle.confinement.proofs.laws.turns_are_confined.Goals as goal

pub returns : goal.returns
returns c = turns_confined
