use Rattle.cache_entries.proofs.Names.{slots_from, take}
use Rattle.std.proofs.Common.{◌≡◌}
use Rattle.cache_entries.proofs.nodes.put_last.Given as goal

abbrev pub invariant-loop-i : goal.invariant-loop-i
invariant-loop-i l = l.slots ≡ slots_from l.fn.slots 28 (take l.i l.held)
