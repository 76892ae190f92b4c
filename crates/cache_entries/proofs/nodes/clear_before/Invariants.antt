use Rattle.cache_entries.proofs.Names.{ℕ, length, get_or, AreVoidFrom, void_held}
use Rattle.std.proofs.Common.{◌≡◌, ◌<◌}
use Rattle.cache_entries.proofs.nodes.clear_before.Given as goal

-- the slots before the index are void, and those from `end` on
abbrev pub invariant-loop-index : goal.invariant-loop-index
invariant-loop-index l =
    ((i : ℕ) → i < l.index → get_or l.slots i void_held ≡ void_held) × AreVoidFrom l.end l.slots × (length l.slots ≡ 32)
