use Rattle.std.proofs.Common.{rules}
use Rattle.collections.proofs.Positions.{item_read}
use Rattle.collections.proofs.sparse_vec.SparseVec.item.Goals as goal

pub returns : goal.returns
returns g c = search (rules, item_read)
