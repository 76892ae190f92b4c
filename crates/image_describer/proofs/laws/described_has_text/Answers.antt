use Rattle.image_describer.proofs.Short.{described_has_text}
use Rattle.image_describer.proofs.laws.described_has_text.Goals as goal

pub returns : goal.returns
returns c = described_has_text
