use Rattle.image_explainer.proofs.Names.{ℕ, frames_of, HasRoot}
use Rattle.std.proofs.Common.{◌<◌}
use Rattle.image_explainer.proofs.processes.find_annex.Given as goal

abbrev pub invariant-loop-annex : goal.invariant-loop-annex
invariant-loop-annex g l = (a : ℕ) → a < l.annex → HasRoot (frames_of (g.F.Frames.parts l.store)) a
