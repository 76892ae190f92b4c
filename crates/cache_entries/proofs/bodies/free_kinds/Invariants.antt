use Rattle.cache_entries.proofs.Names.{replicate}
use Rattle.std.proofs.Common.{◌≡◌}
use Rattle.cache_entries.specs.declared.bodies.Kind.TheVariants as kind
use Rattle.cache_entries.proofs.bodies.free_kinds.Given as goal

abbrev pub invariant-loop : goal.invariant-loop
invariant-loop l = l.kinds.items ≡ replicate l.counter kind.Free
