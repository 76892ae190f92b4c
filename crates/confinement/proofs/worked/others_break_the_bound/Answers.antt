use Rattle.confinement.proofs.TrustedWorld.{rows_right}
use Rattle.confinement.proofs.worked.others_break_the_bound.Goals as goal

pub returns : goal.returns
returns c = rows_right
