use Rattle.object_cache.proofs.Names.{PutsBy}
use Rattle.std.proofs.Common.{◌≡◌}
use Rattle.object_cache.proofs.store.Store.put_some.Given as goal

abbrev pub invariant-loop : goal.invariant-loop
invariant-loop g l = PutsBy g.D.Device.disk l.fn.self l.self l.counter ×
    ((g.D.Device.disk l.self.durable.beneath).failures ≡ (g.D.Device.disk l.fn.self.durable.beneath).failures)
