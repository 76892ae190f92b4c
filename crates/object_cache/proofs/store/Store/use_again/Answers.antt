use Rattle.object_cache.proofs.Names.{length, sym, ap, subst, All-contains, memory_of, used_in_turn, StoreState, GoesOnIn, IsFetchedIn, cache_of, goes_on_same}
use Rattle.object_cache.proofs.Names.{take}
use Rattle.std.proofs.Common.{◌<◌, ◌∙◌}
use Rattle.object_cache.proofs.Outcomes.{continues_with}
use Rattle.object_cache.proofs.FrozenStates.{fetched_by}
use Rattle.object_cache.proofs.Objects.{contents_each}
use Rattle.object_cache.proofs.store.Store.use_again.Goals as goal

pub returns : goal.returns
returns g c =
    let i = c.self.inside in
    let s = c.args.self.now in
    let e = c.use_again.new.self in
    let seen = ap (λ f. cache_of g.D.Device.disk i.durable (memory_of i.table i.frozen_headers i.touched i.dirty i.pending f.at i.staging)
    i.left f.order f.most) c.use_again.ensures.rest
    ∙ ap (λ (t : StoreState g.row.D.Denot). record t { order = e.order }) c.self.view_is in
    let first = c.use_again.ensures.prefix in
    record {
      fetched = λ all n has.
          let known = All-contains (λ k. k < length s.headers) c.args.numbers.now n c.requires has in
          let there = fetched_by g.D.Device.disk c.self.view_is c.self.invariant n known (c.use_again.ensures.held all n has) in
          subst (λ t. IsFetchedIn t n) (sym seen) (record { header = there.header; content = there.content; cached = there.cached });
      used = λ all. c.use_again.ensures.used all ∙ ap (λ t. used_in_turn c.args.numbers.now t.order) c.self.view_is;
      prefix = (first.0, first.1 ∙ ap (λ t. used_in_turn (take first.0 c.args.numbers.now) t.order) c.self.view_is);
      few = c.use_again.ensures.ordered.few;
      least = c.use_again.ensures.ordered.least;
      each = contents_each g.D.Device.disk c.self.view_is c.self.invariant;
      rest = seen;
      continues =
          subst (GoesOnIn g.D.Device.disk s) (sym seen)
          (continues_with g.D.Device.disk s.cached s.frozen_state e.order s.staging
          (goes_on_same g.D.Device.disk g.met.D.Device.only_now s));
    }
