use Rattle.image_explainer.proofs.Names.{ℕ, IsAmong}
use Rattle.std.proofs.Common.{◌<◌}
use Rattle.image_explainer.proofs.sectors.directory.bad_entry.Given as goal

abbrev pub invariant-loop-index : goal.invariant-loop-index
invariant-loop-index l = (k : ℕ) → k < l.index → IsAmong l.geometry l.entries k
