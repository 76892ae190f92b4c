use Rattle.image_explainer.proofs.Names.{arith, frames_of, IsMatched}
use Rattle.image_explainer.proofs.Matching.{all_matched, below_more}
use Rattle.image_explainer.proofs.processes.find_root.Goals as goal

pub loop-root-preserved : goal.loop-root-preserved
loop-root-preserved g c = below_more (IsMatched (frames_of (g.F.Frames.parts c.args.store.now))) c.loop-root.root c.loop-root.invariant
    c.in-None.ensures.none

pub returns-clause-none : goal.returns-clause-none
returns-clause-none g c =
    all_matched (frames_of (g.F.Frames.parts c.args.store.now)) c.args.notes.now c.loop-root.root c.requires
    (omega (arith, c.loop-root-test.false))
    c.loop-root.invariant
