use Rattle.object_cache.proofs.Names.{content_behind, option_map, sym, some_map}
use Rattle.std.proofs.Common.{◌∙◌}
use Rattle.object_cache.proofs.FrozenStates.{fetched_by, frozen_state_with, frozen_state_without}
use Rattle.object_cache.proofs.store.Store.frozen_state.Goals as goal

pub returns-then-holds : goal.returns-then-holds
returns-then-holds g c = record {
  fetched = λ some. fetched_by g.D.Device.disk c.self.view_is c.self.invariant c.args.number c.requires
      (sym c.holds.ensures ∙ c.if-holds.true);
  state = c.state_by.ensures ∙ frozen_state_with g.D.Device.disk c.self.view_is c.self.invariant c.args.number c.requires
      (option_map content_behind c.kept.result) c.kept.ensures _ _ _ c.contains-is_pending.ensures
      (c.is_some.ensures ∙ sym (some_map content_behind c.kept.result)) c.contains-is_touched.ensures;
}

pub returns-clause-state : goal.returns-clause-state
returns-clause-state g c =
    sym (frozen_state_without g.D.Device.disk c.self.view_is c.self.invariant c.args.number c.requires
    (sym c.holds.ensures ∙ c.if-holds.false))
