use Rattle.object_cache.proofs.Names.{rules, ap, arith, sym, set, true, false, get_or, length, length-set, touched_count}
use Rattle.std.proofs.Common.{◌∙◌, ◌≡◌, ◌<◌}
use Rattle.object_cache.proofs.Marking.{touching_more, touched_count-set, set-marked}
use Rattle.object_cache.proofs.number_sets.add_all.Goals as goal
use Rattle.object_cache.proofs.number_sets.add_all.Goals.{then-add, else-add}

pub loop-number-preserved : goal.loop-number-preserved
loop-number-preserved c =
    let before = c.loop-number.marks in
    let number = get_or c.args.numbers.now c.loop-number.number-index 0 in
    let invariant = c.loop-number.invariant in
    let seen = ap touched_count c.add.ensures.marked in
    record {
      marked = c.add.ensures.marked ∙ ap (λ t. set t number true) invariant.marked ∙
          sym (touching_more c.args.marks.now c.args.numbers.now c.loop-number.number-index c.loop-number-test.true);
      counted = elim c.if-add.branch [
        | then-add w ↦
            let unmarked : get_or before number false ≡ false = search rules in
            let inside : number < length before = search rules in
            omega (arith, w.fresh-is, seen, touched_count-set before number inside unmarked, invariant.counted)
        | else-add w ↦
            let marked : get_or before number false ≡ true = search rules in
            omega (arith, w.fresh-is, seen, ap touched_count (set-marked before number marked), invariant.counted)
      ];
      few = elim c.if-add.branch [
        | then-add w ↦ omega (arith, w.fresh-is, invariant.few)
        | else-add w ↦ omega (arith, w.fresh-is, invariant.few)
      ];
      each = ap length c.add.ensures.marked ∙ length-set before number true ∙ invariant.each;
    }
