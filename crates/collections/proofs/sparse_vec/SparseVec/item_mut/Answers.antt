use Rattle.std.proofs.Common.{rules}
use Rattle.collections.proofs.Positions.{item_read, changed}
use Rattle.collections.proofs.sparse_vec.SparseVec.item_mut.Goals as goal

pub returns : goal.returns
returns g c = search (rules, changed, item_read)
