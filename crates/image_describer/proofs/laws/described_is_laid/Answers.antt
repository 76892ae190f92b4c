use Rattle.image_describer.proofs.Plain.{described_is_laid}
use Rattle.image_describer.proofs.laws.described_is_laid.Goals as goal

pub returns : goal.returns
returns c = described_is_laid
