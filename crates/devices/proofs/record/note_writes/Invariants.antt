use Rattle.devices.proofs.Names.{vec_capacity, entries_of}
use Rattle.std.proofs.Common.{◌≡◌, ◌≤◌, ◌++◌}
use Rattle.devices.proofs.record.note_writes.Given as goal

abbrev pub invariant-loop-i : goal.invariant-loop-i
invariant-loop-i l = record {
  items : l.entries.items ≡ l.initial.entries.items ++ entries_of l.at l.i l.from;
  capacity : vec_capacity l.initial.entries ≤ vec_capacity l.entries;
}
