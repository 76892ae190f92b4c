use Rattle.devices.proofs.Histories.{held_more}
use Rattle.devices.proofs.host_file.history_of.Goals as goal

pub loop-at-preserved : goal.loop-at-preserved
loop-at-preserved c =
    held_more c.loop-at.history c.then-history.result c.args.copy.now c.loop-at.at c.sector-bytes.result c.loop-at.invariant
    c.sector-bytes.ensures c.then-history.ensures
