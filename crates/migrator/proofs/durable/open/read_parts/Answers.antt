use Rattle.migrator.proofs.Names.{sym, subst, ℕ, Image, agrees_is, IsBadFor, IsReadInto}
use Rattle.migrator.proofs.Opening.{only_reads_on}
use Rattle.migrator.proofs.durable.open.read_parts.Goals as goal

pub read_into-requires-clause-reserved : goal.read_into-requires-clause-reserved
read_into-requires-clause-reserved g c = c.in-Ok-new.ensures c.in-Ok.plan (sym c.geometry.ensures.value)

pub returns-in-Ok-read_into-clause-whole : goal.returns-in-Ok-read_into-clause-whole
returns-in-Ok-read_into-clause-whole g c =
    let read = c.sync_and_read_superblock.ensures.only_reads in
    let seen = agrees_is (g.D.Device.disk c.sync_and_read_superblock.new.device).seen (g.D.Device.disk c.args.device.now).seen read.seen in
    subst (λ (i : Image). IsReadInto g.I.Intake.Took i c.in-Ok.plan c.in-Ok-read_into.header c.read_into.new.reserve
    c.in-Ok-read_into.taken) seen
    c.in-Ok-read_into.ensures.whole

pub returns-in-Ok-read_into-clause-only_reads : goal.returns-in-Ok-read_into-clause-only_reads
returns-in-Ok-read_into-clause-only_reads g c = only_reads_on c.sync_and_read_superblock.ensures.only_reads c.read_into.ensures.reads

pub returns-in-Err-read_into-clause-only_reads : goal.returns-in-Err-read_into-clause-only_reads
returns-in-Err-read_into-clause-only_reads g c = only_reads_on c.sync_and_read_superblock.ensures.only_reads c.read_into.ensures.reads

pub returns-in-Err-read_into-clause-refused : goal.returns-in-Err-read_into-clause-refused
returns-in-Err-read_into-clause-refused g c =
    let read = c.sync_and_read_superblock.ensures.only_reads in
    let seen = agrees_is (g.D.Device.disk c.sync_and_read_superblock.new.device).seen (g.D.Device.disk c.args.device.now).seen read.seen in
    subst (λ (i : Image). IsBadFor i (g.D.Device.disk c.args.device.now).sectors c.in-Err-read_into.fault) seen
    (subst (λ (k : ℕ). IsBadFor (g.D.Device.disk c.sync_and_read_superblock.new.device).seen k c.in-Err-read_into.fault) read.size
    c.in-Err-read_into.ensures.refused)
