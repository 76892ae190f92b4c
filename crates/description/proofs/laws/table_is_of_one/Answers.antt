use Rattle.description.proofs.Once.{description_once}
use Rattle.description.proofs.laws.table_is_of_one.Goals as goal

pub returns : goal.returns
returns c = description_once
