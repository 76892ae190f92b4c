use Rattle.object_cache.proofs.Names.{sym, subst, is_sound, rules, stored_of}
use Rattle.std.proofs.Common.{◌≡◌}
use Rattle.object_cache.proofs.Exits.{same_seen}
use Rattle.object_cache.proofs.Homes.{moved_next}
use Rattle.object_cache.proofs.store.durable.StoreObjectStore.migrate.Goals as goal

pub invariant_of-self : goal.invariant_of-self
invariant_of-self g c =
    (moved_next g.D.Device.disk c.self.view_is c.self.invariant c.migrate.new.self c.args.count c.migrate.result c.migrate.ensures.moved
    c.migrate.ensures.unmoved).0.is

pub returns : goal.returns
returns g c =
    let next = moved_next g.D.Device.disk c.self.view_is c.self.invariant c.migrate.new.self c.args.count c.migrate.result
    c.migrate.ensures.moved
    c.migrate.ensures.unmoved in
    let s = c.args.self.now in
    let geometry : (stored_of g.D.Device.disk c.migrate.new.self).saved.geometry ≡ (stored_of g.D.Device.disk s.durable).saved.geometry =
    search rules in
    search (rules, same_seen g.D.Device.disk s _ next.0.view geometry, next.1)

pub migrate-requires : goal.migrate-requires
migrate-requires g c = record { sound = subst (λ t. is_sound g.D.Device.disk t.durable) (sym c.self.view_is) c.requires.usable }
