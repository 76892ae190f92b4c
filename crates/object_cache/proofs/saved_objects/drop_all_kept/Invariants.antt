use Rattle.object_cache.proofs.Names.{ℕ, length, entry_at, IsUnkept}
use Rattle.std.proofs.Common.{◌≡◌, ◌<◌}
use Rattle.object_cache.proofs.saved_objects.drop_all_kept.Given as goal

abbrev pub invariant-loop-number : goal.invariant-loop-number
invariant-loop-number l = record {
  each : length l.entries.at ≡ l.count;
  most : l.entries.most ≡ l.fn.entries.most;
  unkept : (n : ℕ) → n < l.number → IsUnkept (entry_at l.entries.at n);
}
