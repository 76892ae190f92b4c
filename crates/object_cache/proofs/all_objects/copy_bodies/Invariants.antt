use Rattle.object_cache.proofs.Names.{ℕ, Some, length, option_map, entry_at, present_of, held_at}
use Rattle.std.proofs.Common.{◌≡◌, ◌<◌}
use Rattle.object_cache.proofs.all_objects.copy_bodies.Given as goal

abbrev pub invariant-loop-number : goal.invariant-loop-number
invariant-loop-number l =
    (length l.bodies.items ≡ l.number)
    × ((n : ℕ) → n < l.number → option_map present_of (entry_at l.entries.at n) ≡ Some (held_at l.bodies.items n))
