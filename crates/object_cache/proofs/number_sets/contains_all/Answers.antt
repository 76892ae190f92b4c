use Rattle.object_cache.proofs.Names.{true, ap, set, sym, get_or}
use Rattle.std.proofs.Common.{◌∙◌}
use Rattle.object_cache.proofs.Marking.{set-marked, touching_more}
use Rattle.object_cache.proofs.number_sets.contains_all.Goals as goal

pub loop-number-preserved : goal.loop-number-preserved
loop-number-preserved c =
    let t = c.args.marks.now in
    let ns = c.args.numbers.now in
    let i = c.loop-number.number-index in
    touching_more t ns i c.loop-number-test.true ∙ ap (λ x. set x (get_or ns i 0) true) c.loop-number.invariant
    ∙ set-marked t (get_or ns i 0) (sym c.contains.ensures ∙ c.if-not-contains.false)
