use Rattle.recovery.proofs.Denoted.{denotes_one}
use Rattle.recovery.proofs.laws.denote_one_saved.Goals as goal

pub returns : goal.returns
returns c = denotes_one
