use Rattle.object_cache.proofs.Names.{refl, sym, ap, none-some, option_map, held_behind}
use Rattle.std.proofs.Common.{◌∙◌}
use Rattle.object_cache.proofs.Exits.{moves_next}
use Rattle.object_cache.proofs.Outcomes.{counts_err, counts_ok}
use Rattle.object_cache.proofs.PutsOut.{held_fewer, held_frozen, held_in_marks, held_ready, held_torn, settled_next}
use Rattle.object_cache.proofs.store.Store.put_held.Goals as goal

pub header-header-requires : goal.header-header-requires
header-header-requires g c =
    held_frozen g.D.Device.disk c.self.view_is c.self.invariant (held_behind c.in-Some.held)
    (sym c.get.ensures ∙ ap (option_map held_behind) c.in-Some.is)

pub put_body-requires : goal.put_body-requires
put_body-requires g c =
    held_ready g.D.Device.disk c.self.view_is c.self.invariant (held_behind c.in-Some.held)
    (sym c.get.ensures ∙ ap (option_map held_behind) c.in-Some.is)
    c.requires c.header-header.ensures

pub invariant_of-self : goal.invariant_of-self
invariant_of-self g c =
    (held_torn g.D.Device.disk c.self.view_is c.self.invariant (held_behind c.in-Some.held)
    (sym c.get.ensures ∙ ap (option_map held_behind) c.in-Some.is)
    c.requires c.put_body.ensures.goes_on c.put_body.ensures.cause.never_falls c.in_err-put_body.ensures.broken).is

pub set-requires : goal.set-requires
set-requires g c =
    held_in_marks g.D.Device.disk c.self.view_is c.self.invariant (held_behind c.in-Some.held)
    (sym c.get.ensures ∙ ap (option_map held_behind) c.in-Some.is)

pub invariant_of-self-2 : goal.invariant_of-self-2
invariant_of-self-2 g c =
    (settled_next g.D.Device.disk c.self.view_is c.self.invariant (held_behind c.in-Some.held)
    (sym c.get.ensures ∙ ap (option_map held_behind) c.in-Some.is)
    c.requires c.put_body.ensures.goes_on c.put_body.ensures.cause.never_falls c.set.ensures c.clear.ensures c.header-header.ensures
    c.in_ok-put_body.ensures.put).is

pub returns : goal.returns
returns g c =
    let next = settled_next g.D.Device.disk c.self.view_is c.self.invariant (held_behind c.in-Some.held)
    (sym c.get.ensures ∙ ap (option_map held_behind) c.in-Some.is)
    c.requires c.put_body.ensures.goes_on c.put_body.ensures.cause.never_falls c.set.ensures c.clear.ensures c.header-header.ensures
    c.in_ok-put_body.ensures.put in
    record {
      empty = c.clear.ensures;
      fewer =
          held_fewer g.D.Device.disk c.self.view_is c.self.invariant (held_behind c.in-Some.held)
          (sym c.get.ensures ∙ ap (option_map held_behind) c.in-Some.is) c.set.ensures;
      moves = moves_next next refl _ (counts_ok g.D.Device.disk c.self.view_is c.in_ok-put_body.ensures.cause);
    }

pub returns-in_err-put_body-clause-moves : goal.returns-in_err-put_body-clause-moves
returns-in_err-put_body-clause-moves g c =
    moves_next
    (held_torn g.D.Device.disk c.self.view_is c.self.invariant (held_behind c.in-Some.held)
    (sym c.get.ensures ∙ ap (option_map held_behind) c.in-Some.is)
    c.requires c.put_body.ensures.goes_on c.put_body.ensures.cause.never_falls c.in_err-put_body.ensures.broken) refl c.from_residual.result
    (counts_err g.D.Device.disk c.from_residual.result _ c.self.view_is c.from_residual.ensures.1 c.in_err-put_body.ensures.cause)

pub unreachable-requires : goal.unreachable-requires
unreachable-requires g c =
    none-some c.requires.0 (sym (sym c.get.ensures ∙ ap (option_map held_behind) c.in_default.is) ∙ ap (λ t. t.staging) c.self.view_is
    ∙ c.requires.1)
