use Rattle.object_cache.proofs.Names.{length, take, touching, touched_count}
use Rattle.std.proofs.Common.{◌≡◌, ◌+◌, ◌≤◌}
use Rattle.object_cache.proofs.number_sets.add_all.Given as goal

abbrev pub invariant-loop-number : goal.invariant-loop-number
invariant-loop-number l = record {
  marked : l.marks ≡ touching l.initial.marks (take l.number-index l.numbers);
  counted : touched_count l.initial.marks + l.fresh ≡ touched_count l.marks;
  few : l.fresh ≤ l.number-index;
  each : length l.marks ≡ length l.initial.marks;
}
