use Rattle.image_describer.proofs.Plain.{described_is_same}
use Rattle.image_describer.proofs.laws.described_is_same.Goals as goal

pub returns : goal.returns
returns c = described_is_same
