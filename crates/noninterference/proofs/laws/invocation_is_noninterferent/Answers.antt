use Rattle.noninterference.proofs.ReadRuns.{invocation_noninterferent}
use Rattle.noninterference.proofs.laws.invocation_is_noninterferent.Goals as goal

pub returns : goal.returns
returns c = invocation_noninterferent
