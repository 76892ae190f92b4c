use Rattle.noninterference.proofs.ReadRuns.{runs_noninterferent}
use Rattle.noninterference.proofs.laws.runs_are_noninterferent.Goals as goal

pub returns : goal.returns
returns c = runs_noninterferent
