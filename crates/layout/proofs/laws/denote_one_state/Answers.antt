use Rattle.layout.proofs.Images.{one_state}
use Rattle.layout.proofs.laws.denote_one_state.Goals as goal

pub returns : goal.returns
returns c = one_state
