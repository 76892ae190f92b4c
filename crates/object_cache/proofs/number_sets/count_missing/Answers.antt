use Rattle.std.proofs.Common.{arith, sym, ◌∙◌}
use Rattle.object_cache.proofs.Marking.{touched_count_new, touched_count_listed, touched_count_marked}
use Rattle.object_cache.proofs.number_sets.count_missing.Goals as goal
use Rattle.object_cache.proofs.number_sets.count_missing.Goals.{then-not-contains+then-not-contains-2, else-not-contains}
use Rattle.object_cache.proofs.number_sets.count_missing.Goals.{else-not-contains-via-then-not-contains+else-not-contains-2}
use Rattle.object_cache.proofs.number_sets.count_missing.Goals.{else-not-contains-via-else-not-contains}

pub loop-i-preserved : goal.loop-i-preserved
loop-i-preserved c =
    let t = c.args.marks.now in
    let ns = c.args.numbers.now in
    let i = c.loop-i.i in
    let known = c.requires i 0 c.loop-i-test.true in
    elim c.if-not-contains.branch [
      | then-not-contains+then-not-contains-2 w ↦
          let step = touched_count_new t ns i c.loop-i-test.true known (sym c.contains.ensures ∙ w.if-not-contains.true)
          (sym w.contains-then-not-contains.ensures.value ∙ w.if-not-contains-2.true) in
          record { counted = omega (arith, step); few = omega arith }
      | else-not-contains w ↦
          elim w.else-not-contains.branch [
            | else-not-contains-via-then-not-contains+else-not-contains-2 w' ↦
                let step = touched_count_listed t ns i c.loop-i-test.true known
                (sym w'.contains-then-not-contains.ensures.value ∙ w'.if-not-contains-2.false)
                in
                record { counted = omega (arith, step); few = omega arith }
            | else-not-contains-via-else-not-contains w' ↦
                let step = touched_count_marked t ns i c.loop-i-test.true known (sym c.contains.ensures ∙ w'.if-not-contains.false) in
                record { counted = omega (arith, step); few = omega arith }
          ]
    ]
