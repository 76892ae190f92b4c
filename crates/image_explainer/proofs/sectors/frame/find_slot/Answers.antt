use Rattle.image_explainer.proofs.Names.{arith, refl, HoldsCap}
use Rattle.image_explainer.proofs.Frames.{slot_read}
use Rattle.image_explainer.proofs.Matching.{below_more}
use Rattle.image_explainer.proofs.sectors.frame.find_slot.Goals as goal

pub loop-k-preserved : goal.loop-k-preserved
loop-k-preserved c =
    below_more (HoldsCap c.args.geometry c.args.age c.args.bytes.now) c.loop-k.k c.loop-k.invariant
    (slot_read c.args.geometry c.args.age c.args.bytes.now c.loop-k.k _ c.in-Ok.field-0 refl c.in-Ok.ensures.found.0
    c.in-Ok.ensures.found.1)

pub returns-clause-none : goal.returns-clause-none
returns-clause-none c = λ k lt. c.loop-k.invariant k (omega arith)
