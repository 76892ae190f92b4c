use Rattle.image_describer.proofs.GrownLaws.{grown_to_itself}
use Rattle.image_describer.proofs.laws.grown_to_itself.Goals as goal

pub returns : goal.returns
returns c = grown_to_itself
