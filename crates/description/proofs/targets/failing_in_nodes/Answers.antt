use Rattle.description.proofs.Names.{subst, AllIn}
use Rattle.description.proofs.Taken.{one_more}
use Rattle.description.proofs.targets.failing_in_nodes.Goals as goal

pub loop-k-preserved : goal.loop-k-preserved
loop-k-preserved g c =
    let P = g.N.Naming.Passes c.args.naming.now in
    one_more (λ n. AllIn P n.slots.items) c.args.nodes.now c.loop-k.k c.index-nodes-k.result c.loop-k-test.true c.index-nodes-k.is
    c.loop-k.invariant
    (subst (AllIn P) c.deref.ensures.value c.in_default.ensures)
