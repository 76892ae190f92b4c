use Rattle.capability.proofs.Names.{length, map, take, conveyed}
use Rattle.std.proofs.Common.{◌≡◌}
use Rattle.capability.proofs.view.conveyed_slots.Given as goal

abbrev pub invariant-loop-i : goal.invariant-loop-i
invariant-loop-i l = record {
  whole : length l.slots ≡ 32;
  front : take l.i l.slots ≡ map (conveyed l.table) (take l.i l.held);
}
