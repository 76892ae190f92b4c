use Rattle.image_drawer.proofs.Arrows.{arrows_are_held}
use Rattle.image_drawer.proofs.laws.arrows_are_held.Goals as goal

pub returns : goal.returns
returns c = arrows_are_held
