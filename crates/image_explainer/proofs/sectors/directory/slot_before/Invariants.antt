use Rattle.image_explainer.proofs.Names.{ℕ, entry_at}
use Rattle.std.proofs.Common.{◌≡◌, ◌<◌}
use Rattle.image_explainer.proofs.sectors.directory.slot_before.Given as goal

abbrev pub invariant-loop-j : goal.invariant-loop-j
invariant-loop-j l = (k : ℕ) → k < l.j → (entry_at l.entries k).slot ≡ l.slot → ⊥
