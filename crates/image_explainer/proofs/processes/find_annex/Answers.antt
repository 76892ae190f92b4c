use Rattle.image_explainer.proofs.Names.{List, ap, arith, length, ObjectHeader, frames_of, annex_known, HasRoot}
use Rattle.image_explainer.proofs.Matching.{below_more}
use Rattle.image_explainer.proofs.processes.find_annex.Goals as goal

pub loop-annex-preserved : goal.loop-annex-preserved
loop-annex-preserved g c = below_more (HasRoot (frames_of (g.F.Frames.parts c.args.store.now))) c.loop-annex.annex c.loop-annex.invariant
    c.in-None.ensures.none

pub returns-clause-none : goal.returns-clause-none
returns-clause-none g c = λ a annex.
    let p = g.F.Frames.parts c.args.store.now in
    c.loop-annex.invariant a
    (omega (
      arith,
      annex_known p a annex,
      ap (λ (hs : List ObjectHeader). length hs) c.table.ensures,
      c.count-annex-end.ensures,
      c.loop-annex-test.false,
      c.loop-annex.auto.annex-end,
    )) annex
