use Rattle.recovery.proofs.Unsound.{inconsistent_is_unsound}
use Rattle.recovery.proofs.consistency.laws.inconsistent_is_unsound.Goals as goal

pub returns : goal.returns
returns c = inconsistent_is_unsound
