use Rattle.cache_entries.proofs.Names.{length, used_all, IsLogOf}
use Rattle.std.proofs.Common.{◌≡◌, ◌≤◌}
use Rattle.cache_entries.proofs.use_order.find_least.Given as goal

abbrev pub invariant-loop : goal.invariant-loop
invariant-loop l = record {
  same : used_all l.log.uses l.order ≡ used_all l.fn.log.uses l.fn.order;
  log : IsLogOf l.log l.order;
  full : l.order.most ≤ length l.order.numbers;
}
