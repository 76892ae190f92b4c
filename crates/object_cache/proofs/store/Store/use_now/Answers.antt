use Rattle.object_cache.proofs.Names.{sym, ap, stored_of, memory_of, used_now, without, StoreState, IsCache}
use Rattle.std.proofs.Common.{◌∷◌, ◌∙◌}
use Rattle.object_cache.proofs.Outcomes.{whichever}
use Rattle.object_cache.proofs.FrozenStates.{fetched_by, uncached_by}
use Rattle.object_cache.proofs.Objects.{bounded_seen}
use Rattle.object_cache.proofs.store.Store.use_now.Goals as goal

pub invariant_of-self : goal.invariant_of-self
invariant_of-self g c =
    let i = c.self.inside in
    whichever c.promote.result
    (λ e. IsCache g.P.Policy.KEEPS_ALL (stored_of g.D.Device.disk i.durable)
    (memory_of i.table i.frozen_headers i.touched i.dirty i.pending e.at i.staging)
    i.left i.touched_count)
    c.promote.new.self (used_now c.args.number i.entries) i.entries c.promote.ensures.used c.promote.ensures.unchanged c.self.invariant
    c.self.invariant

pub returns : goal.returns
returns g c = record {
  fetched = λ held. fetched_by g.D.Device.disk c.self.view_is c.self.invariant c.args.number c.requires (sym c.promote.ensures.held ∙ held);
  uncached = λ none. uncached_by g.D.Device.disk c.self.view_is c.self.invariant c.args.number (sym c.promote.ensures.held ∙ none);
  used =
      λ held. rw (c.promote.ensures.used held)
      (ap (λ (s : StoreState g.row.D.Denot). record s { order = c.args.number ∷ without c.args.number s.order }) c.self.view_is);
  unchanged = λ none. rw (c.promote.ensures.unchanged none) c.self.view_is;
  bounded = bounded_seen g.D.Device.disk c.self.view_is c.self.invariant c.promote.ensures.ordered;
}
