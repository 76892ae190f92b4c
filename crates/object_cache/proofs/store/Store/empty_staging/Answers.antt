use Rattle.object_cache.proofs.Names.{sym, ap, option_map, held_behind, on_ok_weaker, refl, released}
use Rattle.std.proofs.Common.{◌∙◌}
use Rattle.object_cache.proofs.PutsOut.{held_number}
use Rattle.object_cache.proofs.Exits.{moves_none, released_own}
use Rattle.object_cache.proofs.store.Store.empty_staging.Goals as goal

pub frozen_state-requires : goal.frozen_state-requires
frozen_state-requires g c =
    held_number g.D.Device.disk c.self.view_is c.self.invariant (held_behind c.in-Some.held)
    (sym c.get.ensures ∙ ap (option_map held_behind) c.in-Some.is)

pub put_held-requires : goal.put_held-requires
put_held-requires g c = (
  (held_behind c.in-Some.held),
  ap (λ t. t.staging) (sym c.self.view_is) ∙ sym c.get.ensures ∙
      ap (option_map held_behind) c.in-Some.is,
  sym c.frozen_state.ensures.state ∙ c.in-Nothing.is,
)

pub returns-in_default-clause-moves : goal.returns-in_default-clause-moves
returns-in_default-clause-moves g c = moves_none g.met.D.Device.only_now c.args.self.now refl

pub returns-in-Nothing : goal.returns-in-Nothing
returns-in-Nothing g c =
    let said = c.put_held.ensures in
    record { empty = said.empty; fewer = on_ok_weaker c.put_held.result (λ less some. less) said.fewer; moves = said.moves }

pub returns-in_default-frozen_state : goal.returns-in_default-frozen_state
returns-in_default-frozen_state g c =
    let r = c.put_own_frozen.result in
    let said = c.put_own_frozen.ensures in
    let held = held_behind c.in-Some.held in
    record {
      empty = on_ok_weaker r (λ is. ap (λ t. t.staging) is ∙ ap (released held.number)
          (ap (λ t. t.staging) (sym c.self.view_is) ∙ sym c.get.ensures ∙
          ap (option_map held_behind) c.in-Some.is) ∙ released_own held) said.put;
      fewer = on_ok_weaker r (λ less some. less) said.fewer;
      moves = said.moves;
    }
