use Rattle.model_laws.proofs.Revoking.{consumes_all}
use Rattle.model_laws.proofs.laws.consumes_all.Goals as goal

pub returns : goal.returns
returns c = consumes_all
