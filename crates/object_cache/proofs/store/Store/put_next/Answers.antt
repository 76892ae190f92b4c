use Rattle.object_cache.proofs.Names.{on_ok_weaker, true≢false, sym, ap, arith, pending_count, refl}
use Rattle.std.proofs.Common.{◌∙◌}
use Rattle.std.specs.Prelude.{is_some}
use Rattle.object_cache.proofs.Exits.{moves_none}
use Rattle.object_cache.proofs.Turns.{few_left, none_marked}
use Rattle.object_cache.proofs.store.Store.put_next.Goals as goal

pub returns-in-None : goal.returns-in-None
returns-in-None g c = record {
  fewer = omega (arith, none_marked c.self.inside.pending (c.next.ensures.none c.in-None.is), ap (λ t. pending_count t) c.self.view_is);
  few = λ f f_is. few_left g.D.Device.disk c.self.view_is c.self.invariant f f_is;
  moves = moves_none g.met.D.Device.only_now c.args.self.now refl;
}

pub returns-then-is_held : goal.returns-then-is_held
returns-then-is_held g c = record {
  fewer =
      let held = sym (c.is_held.ensures ∙ ap (λ t. is_some t.staging) c.self.view_is) ∙ c.if-is_held.true in
      on_ok_weaker c.empty_staging.result
      (λ fewer. let less = fewer (λ none. true≢false (sym held ∙ ap is_some none)) in omega (arith, less)) c.empty_staging.ensures.fewer;
  few = λ f f_is. few_left g.D.Device.disk c.self.view_is c.self.invariant f f_is;
  moves = c.empty_staging.ensures.moves;
}

pub returns-in-Some : goal.returns-in-Some
returns-in-Some g c = record {
  few = λ f f_is. few_left g.D.Device.disk c.self.view_is c.self.invariant f f_is;
  fewer = on_ok_weaker c.put_pending.result (λ less. omega (arith, less)) c.put_pending.ensures.fewer;
  moves = c.put_pending.ensures.moves;
}
