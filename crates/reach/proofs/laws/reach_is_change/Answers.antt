use Rattle.reach.proofs.Sources.{reach_is_change}
use Rattle.reach.proofs.laws.reach_is_change.Goals as goal

pub returns : goal.returns
returns c = reach_is_change
