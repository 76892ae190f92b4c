use Rattle.queries.proofs.GrownImages.{grown_is_denoted}
use Rattle.queries.proofs.laws.grown_is_denoted.Goals as goal

pub returns : goal.returns
returns c = grown_is_denoted
