use Rattle.header_slots.specs.Committed.{slots_of}
use Rattle.header_slots.proofs.Finding.{IsGreatestBelow}
use Rattle.header_slots.proofs.deciding.committed.Given as goal

abbrev pub invariant-loop-i : goal.invariant-loop-i
invariant-loop-i l = IsGreatestBelow (slots_of l.slots) l.i l.greatest
