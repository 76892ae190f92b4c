use Rattle.queries.proofs.AcceptedDescriptions.{described_is_accepted}
use Rattle.queries.proofs.laws.described_is_accepted.Goals as goal

pub returns : goal.returns
returns c = described_is_accepted
