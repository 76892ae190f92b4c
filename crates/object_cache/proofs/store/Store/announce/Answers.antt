use Rattle.object_cache.proofs.Names.{rules, arith, length, sym, ap, subst, ℕ, All-contains, Contains, touched_count, touching, stored_of, GoesOnIn}
use Rattle.object_cache.proofs.Names.{IsAnnouncedIn, IsFetchedIn}
use Rattle.std.proofs.Common.{◌≡◌, ◌+◌, ◌<◌, ◌≤◌}
use Rattle.object_cache.proofs.Marks.{mark_stands, mark_seen, marked_announced, mark_continues}
use Rattle.object_cache.proofs.store.Store.announce.Goals as goal

pub invariant_of-self : goal.invariant_of-self
invariant_of-self g c =
    let i = c.self.inside in
    let few : i.touched_count + c.add_all.result ≤ (stored_of g.D.Device.disk i.durable).saved.geometry.log = search rules in
    let counted : i.touched_count + c.add_all.result ≡ touched_count (touching i.touched c.args.written.now) =
    omega (arith, c.add_all.ensures.counted, ap touched_count c.add_all.ensures.marked, c.self.invariant.counted) in
    rw (c.add_all.ensures.marked, c.add_all-2.ensures.marked) (mark_stands g.D.Device.disk c.self.view_is c.self.invariant
    c.args.written.now
    (λ n has. All-contains (λ k. k < length c.args.self.now.headers) c.args.written.now n c.requires.known has) c.requires.apart
    (i.touched_count + c.add_all.result) counted few)

pub returns : goal.returns
returns g c =
    let s = c.args.self.now in
    let ns = c.args.written.now in
    let known : (n : ℕ) → Contains ns n → n < length s.headers = λ n has. All-contains (λ k. k < length s.headers) ns n c.requires.known has
    in
    let seen = mark_seen g.D.Device.disk c.self.view_is c.self.invariant ns known c.requires.apart in
    let grows : touched_count s.touched ≤ touched_count (touching s.touched ns) =
    omega (
      arith,
      c.add_all.ensures.counted,
      ap touched_count c.add_all.ensures.marked,
      ap (λ t. touched_count t.touched) c.self.view_is,
      ap (λ t. touched_count (touching t.touched ns)) c.self.view_is,
    ) in
    record {
      marked = rw (c.add_all.ensures.marked, c.add_all-2.ensures.marked) seen;
      unchanged = search rules;
      announced = rw (c.add_all.ensures.marked, c.add_all-2.ensures.marked)
          (λ n has. subst (λ t. IsAnnouncedIn t n) (sym seen) (marked_announced g.D.Device.disk c.self.view_is c.self.invariant ns n
          (known n has) has));
      fetched = rw (c.add_all.ensures.marked, c.add_all-2.ensures.marked)
          (λ n there. subst (λ t. IsFetchedIn t n) (sym seen) (record {
            header = there.header;
            content = there.content;
            cached = there.cached;
          }));
      within = search rules;
      continues = rw (c.add_all.ensures.marked, c.add_all-2.ensures.marked) (subst (GoesOnIn g.D.Device.disk s) (sym seen)
          (mark_continues g.D.Device.disk g.met.D.Device.only_now s (touching s.touched ns) (touching s.dirty ns) grows));
      full = search rules;
      cause = search rules;
      refusals = search rules;
    }
