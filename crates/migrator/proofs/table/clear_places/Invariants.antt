use Rattle.std.proofs.Common.{◌≡◌, ◌+◌, map}
use Rattle.migrator.specs.Table.{is_held, taken_count}
use Rattle.migrator.proofs.table.clear_places.Given as goal

abbrev pub invariant-loop : goal.invariant-loop
invariant-loop l = record {
  held : l.held ≡ map is_held l.places;
  count : l.counter + taken_count l.places ≡ l.taken;
}
