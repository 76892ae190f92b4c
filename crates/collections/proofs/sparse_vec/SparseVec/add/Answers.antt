use Rattle.std.proofs.Common.{length-set, rules}
use Rattle.collections.proofs.Positions.{added, added_positions}
use Rattle.collections.proofs.sparse_vec.SparseVec.add.Goals as goal

pub invariant_of-self : goal.invariant_of-self
invariant_of-self g c = search (rules, added_positions, length-set)

pub returns : goal.returns
returns g c = search (rules, added)
