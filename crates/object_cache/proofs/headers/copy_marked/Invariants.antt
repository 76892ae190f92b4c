use Rattle.object_cache.proofs.Names.{ℕ, true, length, header_at, mark_at}
use Rattle.std.proofs.Common.{◌≡◌, ◌-◌, ◌<◌}
use Rattle.object_cache.proofs.headers.copy_marked.Given as goal

abbrev pub invariant-loop-number : goal.invariant-loop-number
invariant-loop-number l = record {
  long : length l.frozen ≡ length l.initial.frozen;
  before : (k : ℕ) → k < l.from → mark_at l.marks k ≡ true → header_at l.frozen k ≡ header_at l.table k;
}

abbrev pub decreases-loop-number : goal.decreases-loop-number
decreases-loop-number l = length l.marks - l.from
