use Rattle.model_laws.proofs.Touching.{store_log_full_is_exact}
use Rattle.model_laws.proofs.laws.store_log_full_is_exact.Goals as goal

pub returns : goal.returns
returns c = store_log_full_is_exact
