use Rattle.queries.proofs.DescribedImages.{described_is_denoted}
use Rattle.queries.proofs.laws.described_is_denoted.Goals as goal

pub returns : goal.returns
returns c = described_is_denoted
