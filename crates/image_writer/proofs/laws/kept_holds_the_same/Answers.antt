use Rattle.image_writer.proofs.OldImages.{kept_holds_the_same}
use Rattle.image_writer.proofs.laws.kept_holds_the_same.Goals as goal

pub returns : goal.returns
returns c = kept_holds_the_same
