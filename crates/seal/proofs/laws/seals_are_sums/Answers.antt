use Rattle.seal.proofs.Damaged.{bodies_decide, sums_small, zeros_sealed}
use Rattle.seal.proofs.laws.seals_are_sums.Goals as goal

pub returns-clause-size : goal.returns-clause-size
returns-clause-size c = sums_small

pub returns-clause-zeros : goal.returns-clause-zeros
returns-clause-zeros c = zeros_sealed

pub returns-clause-body : goal.returns-clause-body
returns-clause-body c = bodies_decide
