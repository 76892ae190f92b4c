use Rattle.recovery.proofs.Denoted.{denoted_not_bad}
use Rattle.recovery.proofs.laws.denoted_is_not_bad.Goals as goal

pub returns : goal.returns
returns c = denoted_not_bad
