use Rattle.model_laws.proofs.Revoking.{rescinds_all}
use Rattle.model_laws.proofs.laws.rescinds_all.Goals as goal

pub returns : goal.returns
returns c = rescinds_all
