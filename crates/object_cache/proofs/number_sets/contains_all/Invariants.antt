use Rattle.object_cache.proofs.Names.{take, touching}
use Rattle.std.proofs.Common.{◌≡◌}
use Rattle.object_cache.proofs.number_sets.contains_all.Given as goal

abbrev pub invariant-loop-number : goal.invariant-loop-number
invariant-loop-number l = touching l.marks (take l.number-index l.numbers) ≡ l.marks
