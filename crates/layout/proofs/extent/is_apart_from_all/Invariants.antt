use Rattle.layout.proofs.Names.{ℕ, get_or, Extent, IsApart}
use Rattle.std.proofs.Common.{◌<◌}
use Rattle.layout.proofs.extent.is_apart_from_all.Given as goal

abbrev pub invariant-loop-other : goal.invariant-loop-other
invariant-loop-other l = (k : ℕ) (d : Extent) → k < l.other-index → IsApart l.extent (get_or l.others k d)
