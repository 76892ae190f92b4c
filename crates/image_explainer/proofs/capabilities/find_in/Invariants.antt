use Rattle.image_explainer.proofs.Names.{ℕ, slice_index_or, Cap, frames_of, IsNamed}
use Rattle.std.proofs.Common.{◌<◌}
use Rattle.image_explainer.proofs.capabilities.find_in.Given as goal

abbrev pub invariant-loop-index : goal.invariant-loop-index
invariant-loop-index g l =
    (k : ℕ) (d : Cap) → k < l.index → IsNamed (frames_of (g.F.Frames.parts l.store)) (slice_index_or l.held k d)
