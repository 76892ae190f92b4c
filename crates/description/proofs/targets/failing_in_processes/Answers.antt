use Rattle.description.proofs.Names.{AllOfProcess}
use Rattle.description.proofs.Taken.{one_more}
use Rattle.description.proofs.targets.failing_in_processes.Goals as goal

pub loop-k-preserved : goal.loop-k-preserved
loop-k-preserved g c =
    one_more (AllOfProcess (g.N.Naming.Passes c.args.naming.now)) c.args.processes.now c.loop-k.k c.index-processes-k.result
    c.loop-k-test.true
    c.index-processes-k.is c.loop-k.invariant c.in_default.ensures
