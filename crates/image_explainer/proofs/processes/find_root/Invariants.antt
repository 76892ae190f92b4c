use Rattle.image_explainer.proofs.Names.{ℕ, frames_of, IsMatched}
use Rattle.std.proofs.Common.{◌<◌}
use Rattle.image_explainer.proofs.processes.find_root.Given as goal

abbrev pub invariant-loop-root : goal.invariant-loop-root
invariant-loop-root g l = (p : ℕ) → p < l.root → IsMatched (frames_of (g.F.Frames.parts l.store)) p
