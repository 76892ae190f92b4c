use Rattle.description.proofs.WholeProcesses.{whole}
use Rattle.description.proofs.wholeness.described_is_whole.Goals as goal

pub returns : goal.returns
returns c = λ d fs has fields is. whole d fs has is
