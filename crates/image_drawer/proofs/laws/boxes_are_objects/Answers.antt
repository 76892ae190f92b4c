use Rattle.image_drawer.proofs.Boxes.{boxes_are_objects}
use Rattle.image_drawer.proofs.laws.boxes_are_objects.Goals as goal

pub returns : goal.returns
returns c = boxes_are_objects
