use Rattle.damage_laws.proofs.Example.{example_good}
use Rattle.damage_laws.proofs.laws.good_images_exist.Goals as goal

pub returns : goal.returns
returns c = example_good
