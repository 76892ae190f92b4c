use Rattle.image_explainer.proofs.Names.{ℕ, Some, annex_noted}
use Rattle.std.proofs.Common.{◌≡◌, ◌<◌, ◌≤◌}
use Rattle.image_explainer.proofs.processes.root_of.Given as goal

abbrev pub invariant-loop-root : goal.invariant-loop-root
invariant-loop-root l = (p : ℕ) → l.from ≤ p → p < l.root → annex_noted l.notes p ≡ Some l.annex → ⊥
