use Rattle.cache_entries.proofs.Names.{keys_of, non_zero_usize_get, IsFilled}
use Rattle.std.proofs.Common.{◌≡◌}
use Rattle.cache_entries.proofs.places.all_places.Given as goal

abbrev pub invariant-loop-place : goal.invariant-loop-place
invariant-loop-place l = record {
  filled : IsFilled (keys_of l.order.entries) l.place;
  most : l.order.cap ≡ non_zero_usize_get l.fn.most;
}
