use Rattle.recovery.proofs.Denoted.{denoted_one_of}
use Rattle.recovery.proofs.laws.denoted_is_one_of.Goals as goal

pub returns : goal.returns
returns c = denoted_one_of
