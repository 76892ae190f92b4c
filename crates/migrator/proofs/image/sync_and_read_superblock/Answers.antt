use Rattle.migrator.proofs.Names.{agrees_is}
use Rattle.migrator.proofs.Opening.{refused_plan}
use Rattle.migrator.proofs.image.sync_and_read_superblock.Goals as goal

pub returns-clause-refused : goal.returns-clause-refused
returns-clause-refused g c = rw (
  ← agrees_is (g.D.Device.disk c.sync.new.self).seen
      (g.D.Device.disk c.args.device.now).seen c.sync.ensures.seen,
  ← c.sync.ensures.size,
)
    (refused_plan c.read_superblock.result (g.D.Device.disk c.sync.new.self).seen (g.D.Device.disk c.sync.new.self).sectors
    c.read_superblock.ensures.refused)
