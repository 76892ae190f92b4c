use Rattle.object_cache.proofs.Names.{ℕ, Shared, frozen_state_at}
use Rattle.std.proofs.Common.{◌≡◌, ◌≢◌, ◌<◌, slice_index_or}
use Rattle.object_cache.proofs.store.Store.keep_all_apart.Given as goal

abbrev pub invariant-loop-number : goal.invariant-loop-number
invariant-loop-number g l =
    ((k : ℕ) → k < l.number-index → frozen_state_at l.self.frozen_state (slice_index_or l.written k 0) ≢ Shared)
    × (l.self ≡ record l.fn.self { frozen_state = l.self.frozen_state })
