use Rattle.recovery.proofs.Names.{ℕ, slice_index_or, Cap, frames_of, IsNamed}
use Rattle.std.proofs.Common.{◌<◌}
use Rattle.recovery.proofs.consistency.capabilities.are_all_named.Given as goal

abbrev pub invariant-loop-capability : goal.invariant-loop-capability
invariant-loop-capability g l =
    (k : ℕ) (d : Cap) → k < l.capability-index → IsNamed (frames_of (g.F.Frames.parts l.store)) (slice_index_or l.held k d)
