use Rattle.object_cache.proofs.Names.{on_ok_weaker, ok_counts, refl, false, true≢false, sym, ap, most, stored_of, keepable_at, parts_of, continues_same}
use Rattle.object_cache.proofs.Names.{cached_at}
use Rattle.std.proofs.Common.{◌∙◌}
use Rattle.object_cache.proofs.Exits.{continues_some, fetches_only}
use Rattle.object_cache.proofs.FrozenStates.{fetched_by, uncached_by}
use Rattle.object_cache.proofs.Marking.{set_there}
use Rattle.object_cache.proofs.store.durable.StoreObjectStore.evict.Goals as goal

pub write_and_evict-requires : goal.write_and_evict-requires
write_and_evict-requires g c = record {
  fetched = fetched_by g.D.Device.disk c.self.view_is c.self.invariant c.args.number c.requires.known
      (sym c.holds.ensures ∙ c.if-holds.true);
  keepable =
      keepable_at (stored_of g.D.Device.disk c.args.self.now.durable).saved.geometry most (parts_of g.D.Device.disk c.args.self.now)
      c.args.number
      c.requires.known c.requires.may.keepable;
  some = sym c.KEEPS_ALL.ensures ∙ c.if-KEEPS_ALL.false;
}

pub returns-then-KEEPS_ALL : goal.returns-then-KEEPS_ALL
returns-then-KEEPS_ALL g c =
    let all = sym c.KEEPS_ALL.ensures ∙ c.if-KEEPS_ALL.true in
    record {
      gone = λ some. absurd (true≢false (sym all ∙ some));
      away = λ some. absurd (true≢false (sym all ∙ some));
      none = λ none. refl;
      all = λ all. refl;
      same = λ stayed. refl;
      continues = continues_same g.D.Device.disk g.P.Policy.KEEPS_ALL g.met.D.Device.only_now c.args.self.now;
      cause = ok_counts refl;
    }

pub returns-then-holds : goal.returns-then-holds
returns-then-holds g c =
    let some = sym c.KEEPS_ALL.ensures ∙ c.if-KEEPS_ALL.false in
    let n = c.args.number in
    let s = c.args.self.now in
    let u = c.write_and_evict.new.self in
    let r = c.write_and_evict.result in
    let said = c.write_and_evict.ensures in
    let there = fetched_by g.D.Device.disk c.self.view_is c.self.invariant n c.requires.known (sym c.holds.ensures ∙ c.if-holds.true) in
    record {
      gone = on_ok_weaker r (λ away some. ap (λ t. cached_at t.cached n) away ∙ set_there s.cached n false) said.away;
      away = on_ok_weaker r (λ away some there. away) said.away;
      none = λ none. absurd (true≢false (sym there.cached ∙ none));
      all = λ all. absurd (true≢false (sym all ∙ some));
      same = (fetches_only some said.moves).same;
      continues = continues_some some said.moves.continues;
      cause = said.moves.cause;
    }

pub returns : goal.returns
returns g c =
    let none = uncached_by g.D.Device.disk c.self.view_is c.self.invariant c.args.number (sym c.holds.ensures ∙ c.if-holds.false) in
    record {
      gone = λ some. none;
      away = λ some there. absurd (true≢false (sym there ∙ none));
      none = λ none. refl;
      all = λ all. refl;
      same = λ stayed. refl;
      continues = continues_same g.D.Device.disk g.P.Policy.KEEPS_ALL g.met.D.Device.only_now c.args.self.now;
      cause = ok_counts refl;
    }
