use Rattle.description.proofs.Names.{IsProcessEntry}
use Rattle.description.proofs.Taken.{one_more}
use Rattle.description.proofs.fields.bad_processes.Goals as goal

pub loop-k-preserved : goal.loop-k-preserved
loop-k-preserved c = one_more IsProcessEntry c.args.processes.now c.loop-k.k c.index-processes-k.result c.loop-k-test.true
    c.index-processes-k.is
    c.loop-k.invariant c.in_default.ensures
