use Rattle.object_cache.proofs.Names.{ap, frozen_state_at, sym, on_ok_weaker, arith, pending_count}
use Rattle.std.proofs.Common.{◌∙◌}
use Rattle.object_cache.proofs.Exits.{moves_err, no_ok, writes_on}
use Rattle.object_cache.proofs.Fetched.{pending_known}
use Rattle.object_cache.proofs.store.Store.put_pending.Goals as goal

pub frozen_state-requires : goal.frozen_state-requires
frozen_state-requires g c = pending_known g.D.Device.disk c.self.view_is c.self.invariant c.args.number c.requires.pending

pub put_held-requires : goal.put_held-requires
put_held-requires g c =
    let held = c.in_ok-take_below.ensures.held in (
      held.0,
      held.1,
      ap (λ t. frozen_state_at t.frozen_state held.0.number) c.take_below.ensures.rest
          ∙ ap (frozen_state_at c.args.self.now.frozen_state) held.2 ∙ sym c.frozen_state.ensures.state ∙ c.in-Nothing.is,
    )

pub returns-in-Nothing : goal.returns-in-Nothing
returns-in-Nothing g c =
    let taken = c.in_ok-take_below.ensures in
    record {
      fewer = on_ok_weaker c.put_held.result (λ less. omega (arith, less, ap (λ t. pending_count t) taken.rest)) c.put_held.ensures.fewer;
      moves = writes_on g.met.D.Device.counts_now taken.moves c.put_held.ensures.moves;
    }

pub returns-in_err-take_below : goal.returns-in_err-take_below
returns-in_err-take_below g c =
    let r = c.from_residual.result in
    let failed = c.from_residual.ensures.1 in
    record { fewer = no_ok r _ _ failed; moves = moves_err r _ failed c.in_err-take_below.ensures.moves }

pub returns : goal.returns
returns g c = record { fewer = c.put_own_frozen.ensures.fewer; moves = c.put_own_frozen.ensures.moves }
