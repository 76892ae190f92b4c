use Rattle.layout.proofs.SlotLists.{AreRead}
use Rattle.layout.proofs.slots.decode_slots.Given as goal

abbrev pub invariant-loop-i : goal.invariant-loop-i
invariant-loop-i l = AreRead l.geometry l.age l.bytes l.into l.i
