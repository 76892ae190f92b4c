use Rattle.image_explainer.proofs.Names.{ℕ, HoldsCap}
use Rattle.std.proofs.Common.{◌<◌}
use Rattle.image_explainer.proofs.sectors.frame.find_slot.Given as goal

abbrev pub invariant-loop-k : goal.invariant-loop-k
invariant-loop-k l = (j : ℕ) → j < l.k → HoldsCap l.geometry l.age l.bytes j
