use Rattle.object_cache.proofs.Names.{take, touching, touched_count}
use Rattle.std.proofs.Common.{◌≡◌, ◌+◌, ◌≤◌}
use Rattle.object_cache.proofs.number_sets.count_missing.Given as goal

abbrev pub invariant-loop-i : goal.invariant-loop-i
invariant-loop-i l = record {
  counted : touched_count l.marks + l.missing ≡ touched_count (touching l.marks (take l.i l.numbers));
  few : l.missing ≤ l.i;
}
