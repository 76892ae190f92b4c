use Rattle.object_cache.proofs.Names.{ap, refl, released}
use Rattle.std.proofs.Common.{◌∙◌}
use Rattle.object_cache.proofs.Exits.{moves_next, no_ok}
use Rattle.object_cache.proofs.Outcomes.{counts_err, counts_ok}
use Rattle.object_cache.proofs.PutsOut.{own_fewer, own_ready, own_torn, out_next}
use Rattle.object_cache.proofs.store.Store.put_own_frozen.Goals as goal
use Rattle.object_cache.proofs.Objects.{entry_some}

pub drop_kept-requires : goal.drop_kept-requires
drop_kept-requires g c = entry_some g.D.Device.disk c.self.view_is c.self.invariant c.requires.fetched

pub own_body-content-requires : goal.own_body-content-requires
own_body-content-requires g c = entry_some g.D.Device.disk c.self.view_is c.self.invariant c.requires.fetched

pub put_body-requires : goal.put_body-requires
put_body-requires g c =
    own_ready g.D.Device.disk c.self.view_is c.self.invariant c.requires.fetched c.requires.frozen_state c.own_body-content.ensures
    c.header-header.ensures

pub invariant_of-self-2 : goal.invariant_of-self-2
invariant_of-self-2 g c =
    (out_next g.D.Device.disk c.self.view_is c.self.invariant c.requires.fetched c.requires.frozen_state c.own_body-content.ensures
    c.header-header.ensures c.put_body.ensures.goes_on c.put_body.ensures.cause.never_falls c.set.ensures c.drop_kept.ensures
    c.release.ensures
    c.in_ok-put_body.ensures.put).is

pub returns : goal.returns
returns g c =
    let next = out_next g.D.Device.disk c.self.view_is c.self.invariant c.requires.fetched c.requires.frozen_state
    c.own_body-content.ensures
    c.header-header.ensures c.put_body.ensures.goes_on c.put_body.ensures.cause.never_falls c.set.ensures c.drop_kept.ensures
    c.release.ensures
    c.in_ok-put_body.ensures.put in
    record {
      put = next.view;
      fewer = own_fewer g.D.Device.disk c.self.view_is c.self.invariant c.requires.fetched c.requires.frozen_state c.set.ensures;
      empty = λ empty. ap (λ t. t.staging) next.view ∙ ap (released c.args.number) empty;
      moves = moves_next next refl _ (counts_ok g.D.Device.disk c.self.view_is c.in_ok-put_body.ensures.cause);
    }

pub returns-in_err-put_body : goal.returns-in_err-put_body
returns-in_err-put_body g c =
    let r = c.from_residual.result in
    let failed = c.from_residual.ensures.1 in
    let next = own_torn g.D.Device.disk c.self.view_is c.self.invariant c.requires.fetched c.requires.frozen_state
    c.put_body.ensures.goes_on
    c.put_body.ensures.cause.never_falls c.in_err-put_body.ensures.broken in
    record {
      put = no_ok r _ _ failed;
      fewer = no_ok r _ _ failed;
      empty = λ empty. ap (λ t. t.staging) next.view ∙ empty;
      moves = moves_next next refl r (counts_err g.D.Device.disk r _ c.self.view_is failed c.in_err-put_body.ensures.cause);
    }

pub invariant_of-self : goal.invariant_of-self
invariant_of-self g c =
    (own_torn g.D.Device.disk c.self.view_is c.self.invariant c.requires.fetched c.requires.frozen_state c.put_body.ensures.goes_on
    c.put_body.ensures.cause.never_falls c.in_err-put_body.ensures.broken).is
