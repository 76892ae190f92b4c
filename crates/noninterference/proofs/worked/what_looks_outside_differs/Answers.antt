use Rattle.noninterference.proofs.ReadWorlds.{rows_right}
use Rattle.noninterference.proofs.worked.what_looks_outside_differs.Goals as goal

pub returns : goal.returns
returns c = rows_right
