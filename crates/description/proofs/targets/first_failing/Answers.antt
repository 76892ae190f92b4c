use Rattle.description.proofs.Names.{All-more, IfNamed}
use Rattle.description.proofs.targets.first_failing.Goals as goal

pub loop-i-preserved : goal.loop-i-preserved
loop-i-preserved g c = All-more (λ s. IfNamed (g.N.Naming.Passes c.args.naming.now) s.capability) c.args.slots.now c.loop-i.i _
    c.loop-i-test.true
    c.loop-i.invariant (c.may_pass.ensures.passes c.if-not-may_pass.false)
