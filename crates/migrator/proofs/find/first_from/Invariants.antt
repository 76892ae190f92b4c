use Rattle.migrator.proofs.Names.{ℕ, length, entry_at}
use Rattle.std.proofs.Common.{◌<◌, ◌≤◌, ◌-◌}
use Rattle.migrator.proofs.find.first_from.Given as goal

abbrev pub invariant-loop-low : goal.invariant-loop-low
invariant-loop-low l = (l.low ≤ l.high) × (l.high ≤ length l.entries) × ((i : ℕ) → i < l.low → (entry_at l.entries i).object < l.number) ×
    ((i : ℕ) → l.high ≤ i → i < length l.entries → l.number ≤ (entry_at l.entries i).object)

abbrev pub decreases-loop-low : goal.decreases-loop-low
decreases-loop-low l = l.high - l.low
