use Rattle.migrator.proofs.NewFrames.{filled_still}
use Rattle.migrator.proofs.assemble.assemble.Goals as goal

pub returns-clause-filled : goal.returns-clause-filled
returns-clause-filled g c =
    filled_still (g.D.Device.disk c.args.device.now).seen c.args.plan.now c.args.generation c.args.entries.now c.args.number
    c.copy_all.new.block c.put_seal.new.cluster c.put_seal.ensures.plan c.requires.object c.requires.sectors
    c.in_ok-copy_all.ensures.filled c.put_seal.ensures.frames
