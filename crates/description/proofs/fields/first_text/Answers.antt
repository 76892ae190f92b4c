use Rattle.description.proofs.Names.{All-more, IsSomeCapability}
use Rattle.description.proofs.fields.first_text.Goals as goal

pub loop-i-preserved : goal.loop-i-preserved
loop-i-preserved c = All-more (λ s. IsSomeCapability s.capability) c.args.slots.now c.loop-i.i _ c.loop-i-test.true c.loop-i.invariant
    (c.is_capability.ensures.0 c.if-not-is_capability.false)
