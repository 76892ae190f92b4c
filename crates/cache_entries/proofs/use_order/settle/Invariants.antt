use Rattle.cache_entries.proofs.Names.{ℕ, true, drop, is_member, used_all}
use Rattle.std.proofs.Common.{◌≡◌}
use Rattle.cache_entries.proofs.use_order.settle.Given as goal

abbrev pub invariant-loop-index : goal.invariant-loop-index
invariant-loop-index l = record {
  same : used_all (drop l.index l.log.uses) l.order ≡ used_all l.fn.log.uses l.fn.order;
  listed : (n : ℕ) → is_member l.log.uses n ≡ true → is_member l.order.numbers n ≡ true;
}
