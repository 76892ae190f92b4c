use Rattle.object_cache.proofs.Names.{ap, false, mark_at, refl}
use Rattle.std.proofs.Common.{◌∙◌}
use Rattle.object_cache.proofs.Exits.{moves_next, no_ok}
use Rattle.object_cache.proofs.Marking.{set_there}
use Rattle.object_cache.proofs.Outcomes.{counts_err, counts_ok}
use Rattle.object_cache.proofs.Puts.{kept_next, keepable_here, room_here, unput_next}
use Rattle.object_cache.proofs.store.Store.put_present.Goals as goal
use Rattle.object_cache.proofs.Objects.{entry_some}

pub present-requires : goal.present-requires
present-requires g c = entry_some g.D.Device.disk c.self.view_is c.self.invariant c.requires.fetched

pub put_working-requires-clause-keepable : goal.put_working-requires-clause-keepable
put_working-requires-clause-keepable g c =
    keepable_here g.D.Device.disk c.self.view_is c.self.invariant c.requires.fetched c.requires.dirty c.header-header.ensures
    c.present.ensures
    c.requires.keepable

pub put_working-requires-clause-room : goal.put_working-requires-clause-room
put_working-requires-clause-room g c = room_here g.D.Device.disk c.self.view_is c.self.invariant c.requires.fetched c.requires.dirty

pub invariant_of-self : goal.invariant_of-self
invariant_of-self g c =
    (unput_next g.D.Device.disk c.self.view_is c.self.invariant c.requires.fetched c.requires.dirty c.in_err-put_working.ensures.broken
    c.put_working.ensures.goes_on c.put_working.ensures.cause.never_falls).is

pub invariant_of-self-2 : goal.invariant_of-self-2
invariant_of-self-2 g c =
    (kept_next g.D.Device.disk c.self.view_is c.self.invariant c.requires.fetched c.requires.dirty c.header-header.ensures c.present.ensures
    c.set.ensures
    c.in_ok-put_working.ensures.put c.put_working.ensures.goes_on c.put_working.ensures.cause.never_falls).is

pub returns : goal.returns
returns g c =
    let next = kept_next g.D.Device.disk c.self.view_is c.self.invariant c.requires.fetched c.requires.dirty c.header-header.ensures
    c.present.ensures
    c.set.ensures c.in_ok-put_working.ensures.put c.put_working.ensures.goes_on c.put_working.ensures.cause.never_falls in
    record {
      clean = ap (λ t. mark_at t.dirty c.args.number) next.view ∙ set_there c.args.self.now.dirty c.args.number false;
      frozen_state = ap (λ t. t.frozen_state) next.view;
      staging = ap (λ t. t.staging) next.view;
      moves = moves_next next refl _ (counts_ok g.D.Device.disk c.self.view_is c.in_ok-put_working.ensures.cause);
    }

pub returns-in_err-put_working : goal.returns-in_err-put_working
returns-in_err-put_working g c =
    let r = c.from_residual.result in
    let failed = c.from_residual.ensures.1 in
    let next = unput_next g.D.Device.disk c.self.view_is c.self.invariant c.requires.fetched c.requires.dirty
    c.in_err-put_working.ensures.broken
    c.put_working.ensures.goes_on c.put_working.ensures.cause.never_falls in
    record {
      clean = no_ok r _ _ failed;
      frozen_state = ap (λ t. t.frozen_state) next.view;
      staging = ap (λ t. t.staging) next.view;
      moves = moves_next next refl r (counts_err g.D.Device.disk r _ c.self.view_is failed c.in_err-put_working.ensures.cause);
    }
