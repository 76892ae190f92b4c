use Rattle.recovery.proofs.Names.{only_reads_twice}
use Rattle.recovery.proofs.recovering.examine.Goals as goal

pub returns-clause-snapshots : goal.returns-clause-snapshots
returns-clause-snapshots g c =
    only_reads_twice g.F.Frames.parts g.F.Frames.ContinuesTo g.met.F.Frames.continues_twice c.args.store.now c.check.new.store
    c.count.new.store
    c.check.ensures.snapshots c.count.ensures.only_reads.snapshots
