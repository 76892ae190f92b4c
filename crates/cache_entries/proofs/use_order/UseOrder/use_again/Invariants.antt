use Rattle.cache_entries.proofs.Names.{ℕ, true, take, is_member, used_all}
use Rattle.std.proofs.Common.{◌≡◌}
use Rattle.cache_entries.proofs.use_order.UseOrder.use_again.Given as goal

abbrev pub invariant-loop-number : goal.invariant-loop-number
invariant-loop-number l = record {
  used : l.self ≡ used_all (take l.number-index l.numbers) l.fn.self;
  listed : (n : ℕ) → is_member (take l.number-index l.numbers) n ≡ true → is_member l.fn.self.numbers n ≡ true;
}
