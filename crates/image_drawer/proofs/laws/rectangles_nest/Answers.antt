use Rattle.image_drawer.proofs.Rectangles.{rectangles_nest}
use Rattle.image_drawer.proofs.laws.rectangles_nest.Goals as goal

pub returns : goal.returns
returns c = rectangles_nest
