use Rattle.description.proofs.Names.{subst, AreSlots}
use Rattle.description.proofs.Taken.{one_more}
use Rattle.description.proofs.fields.bad_nodes.Goals as goal

pub loop-k-preserved : goal.loop-k-preserved
loop-k-preserved c = one_more (λ n. AreSlots 0 n.slots.items) c.args.nodes.now c.loop-k.k c.index-nodes-k.result c.loop-k-test.true
    c.index-nodes-k.is
    c.loop-k.invariant (subst (AreSlots 0) c.deref.ensures.value c.in_default.ensures)
