use Rattle.migrator.proofs.Names.{drop, length, vec_capacity, entries_from, entries_of}
use Rattle.std.proofs.Common.{◌≡◌, ◌++◌}
use Rattle.migrator.proofs.table.list_entries.Given as goal

abbrev pub invariant-loop : goal.invariant-loop
invariant-loop l = record {
  entries : entries_of l.places ≡ l.into.items ++ entries_from l.from (drop l.from l.places);
  count : length l.into.items ≡ l.counter;
  room : vec_capacity l.into ≡ vec_capacity l.initial.into;
}
