use Rattle.reach.proofs.Names.{ℕ, false, length, is_some, is_marked, found_at}
use Rattle.std.proofs.Common.{◌≡◌, ◌<◌, ◌≤◌}
use Rattle.reach.proofs.levels.Levels.numbers.Given as goal

abbrev pub invariant-loop-number : goal.invariant-loop-number
invariant-loop-number l = record {
  count : length l.inside ≡ length l.self.found.items;
  each : (n : ℕ) → n < l.number → is_marked l.inside n ≡ is_some (found_at l.self n);
  none : (n : ℕ) → l.number ≤ n → is_marked l.inside n ≡ false;
}
