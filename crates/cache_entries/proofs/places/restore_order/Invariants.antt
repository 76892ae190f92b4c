use Rattle.cache_entries.proofs.Names.{ℕ, keys_of, IsFilled}
use Rattle.cache_entries.proofs.places.restore_order.Given as goal

abbrev pub invariant-loop-place : goal.invariant-loop-place
invariant-loop-place l = (count : ℕ) → IsFilled (keys_of l.fn.order.entries) count → IsFilled (keys_of l.order.entries) count
