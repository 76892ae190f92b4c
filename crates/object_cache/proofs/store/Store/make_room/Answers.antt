use Rattle.object_cache.proofs.Names.{rules, None, sym, ap, length, subst, OnOk, header_at, held_at, IsKeepable, most, stored_of, on_device_with, keepable_at}
use Rattle.object_cache.proofs.Names.{IsFetchedIn, Moves, cache_of, on_device, parts_of, without_cached, memory_of, refl}
use Rattle.std.proofs.Common.{◌∙◌, ◌≡◌, ◌≤◌}
use Rattle.object_cache.proofs.Exits.{moves_none}
use Rattle.object_cache.proofs.FrozenStates.{evicted, is_least, some_least}
use Rattle.object_cache.proofs.store.Store.make_room.Goals as goal

pub unreachable-requires : goal.unreachable-requires
unreachable-requires g c =
    let full : c.args.self.now.capacity ≤ length c.args.self.now.order = search rules in
    some_least g.D.Device.disk c.self.view_is c.self.invariant c.least.ensures.ordered full (sym c.in_default.is ∙ c.least.ensures.least)

pub write_and_evict-requires : goal.write_and_evict-requires
write_and_evict-requires g c =
    let i = c.self.inside in
    let seen = ap (λ e. cache_of g.D.Device.disk i.durable (memory_of i.table i.frozen_headers i.touched i.dirty i.pending e.at i.staging)
    i.left e.order e.most) c.least.ensures.same ∙ c.self.view_is in
    let full : c.args.self.now.capacity ≤ length c.args.self.now.order = search rules in
    let least = is_least g.D.Device.disk c.self.view_is c.self.invariant c.least.ensures.ordered full c.in-Some.oldest
    (sym c.in-Some.is ∙ c.least.ensures.least) in
    record {
      fetched = subst (λ t. IsFetchedIn t c.in-Some.oldest) (sym seen) least.fetched;
      keepable =
          subst (λ t. IsKeepable (stored_of g.D.Device.disk t.durable).saved.geometry most c.in-Some.oldest
          (record { header = header_at t.headers c.in-Some.oldest; content = held_at t.contents c.in-Some.oldest })) (sym seen)
          (keepable_at (stored_of g.D.Device.disk c.args.self.now.durable).saved.geometry most (parts_of g.D.Device.disk c.args.self.now)
          c.in-Some.oldest
          least.known c.requires.keepable);
      some = c.requires.some;
    }

pub returns-then-is_full : goal.returns-then-is_full
returns-then-is_full g c =
    let i = c.self.inside in
    let seen = ap (λ e. cache_of g.D.Device.disk i.durable (memory_of i.table i.frozen_headers i.touched i.dirty i.pending e.at i.staging)
    i.left e.order e.most) c.least.ensures.same ∙ c.self.view_is in
    let full : c.args.self.now.capacity ≤ length c.args.self.now.order = search rules in
    let r = c.write_and_evict.result in
    let u = c.write_and_evict.new.self in
    let said = c.write_and_evict.ensures in
    let away = subst (λ t. OnOk r (u ≡ without_cached c.in-Some.oldest (on_device t u))) seen said.away in
    let now = evicted r c.args.self.now u c.in-Some.oldest
    (is_least g.D.Device.disk c.self.view_is c.self.invariant c.least.ensures.ordered full c.in-Some.oldest
    (sym c.in-Some.is ∙ c.least.ensures.least)) away in
    record {
      room = now.0;
      uncached = now.1;
      least = now.2;
      empty = subst (λ t. t.staging ≡ None → u.staging ≡ None) seen said.empty;
      moves = subst (λ t. Moves g.D.Device.disk on_device_with t u r) seen said.moves;
    }

pub returns-clause-uncached : goal.returns-clause-uncached
returns-clause-uncached g c = λ n none. none

pub returns-clause-empty : goal.returns-clause-empty
returns-clause-empty g c = λ empty. empty

pub returns-clause-moves : goal.returns-clause-moves
returns-clause-moves g c = moves_none g.met.D.Device.only_now c.args.self.now refl
