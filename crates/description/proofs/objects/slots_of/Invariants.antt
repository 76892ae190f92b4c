use Rattle.description.proofs.Names.{drop, replicate, void_held, set_each, slot_held}
use Rattle.std.proofs.Common.{◌≡◌}
use Rattle.description.proofs.objects.slots_of.Given as goal

abbrev pub invariant-loop-entry : goal.invariant-loop-entry
invariant-loop-entry l =
    set_each (λ s. s.index) slot_held (drop l.entry-index l.entries) l.slots
    ≡ set_each (λ s. s.index) slot_held l.entries (replicate 32 void_held)
