use Rattle.image_drawer.proofs.Boxes.{owners_are_owners}
use Rattle.image_drawer.proofs.laws.owners_are_owners.Goals as goal

pub returns : goal.returns
returns c = owners_are_owners
