use Rattle.reach.proofs.Names.{ap, refl, sym, get_or_default, Object, free, is_free, object_at}
use Rattle.std.proofs.Common.{◌≡◌, ◌∙◌}
use Rattle.reach.proofs.Finding.{owned_next_step, owned_skip}
use Rattle.reach.proofs.searching.find_owned.Goals as goal
use Rattle.reach.proofs.searching.find_owned.Goals.{then-is_owned, else-is_owned}

pub loop-number-preserved : goal.loop-number-preserved
loop-number-preserved c =
    let at = c.loop-number.number in
    let os = c.args.objects.now in
    let o = c.index-objects-number.result in
    let is : object_at os at ≡ o = get_or_default os at free o c.loop-number-test.true ∙ sym c.index-objects-number.is in
    elim c.if-is_owned.branch [
      | then-is_owned w ↦
          let test = c.is_owned.ensures.0 w.if-is_owned.true in
          rw (w.levels-is) (owned_next_step os at _ _ _ _ _ _ refl refl refl
          (ap (λ (p : Object). is_free p.content) is ∙ test.0) (ap (λ (p : Object). p.owner) is ∙ test.1) c.loop-number.invariant
          w.add.ensures)
      | else-is_owned w ↦ rw (w.levels-is) (owned_skip os at _ _ _ _ (λ free owned.
          let reported = c.is_owned.ensures.1 (
            sym (ap (λ (p : Object). is_free p.content) is) ∙ free,
            sym (ap (λ (p : Object). p.owner) is)
                ∙ owned,
          ) in
          let wrong = w.if-is_owned.false in cc) c.loop-number.invariant)
    ]
