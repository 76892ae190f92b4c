use Rattle.image_writer.proofs.Names.{HasNoHeader, narrowed, on_ok_weaker, written_is}
use Rattle.std.proofs.Common.{◌∙◌}
use Rattle.image_writer.proofs.OldGates.{superblock_run}
use Rattle.image_writer.proofs.opening_sectors.write_superblock.Goals as goal

pub returns-in_err-write_sectors-clause-any_moment : goal.returns-in_err-write_sectors-clause-any_moment
returns-in_err-write_sectors-clause-any_moment g c =
    superblock_run (g.D.Device.disk c.args.device.now) (g.D.Device.disk c.write_sectors.new.device) c.requires.durable c.requires.closed
    c.write_sectors.ensures.writes.any_moment

pub returns-clause-written : goal.returns-clause-written
returns-clause-written g c =
    on_ok_weaker c.sync.result
    (λ durable. written_is c.encode_superblock.new.into c.sync.ensures.seen c.in_ok-write_sectors.ensures.written
    ∙ c.encode_superblock.ensures)
    c.sync.ensures.durable

pub returns-clause-any_moment : goal.returns-clause-any_moment
returns-clause-any_moment g c =
    let old = g.D.Device.disk c.args.device.now in
    let mid = g.D.Device.disk c.write_sectors.new.device in
    narrowed {old = old} {mid = mid} {new = g.D.Device.disk c.sync.new.self} {P = λ x. HasNoHeader x}
    (superblock_run old mid c.requires.durable c.requires.closed c.write_sectors.ensures.writes.any_moment)
    (g.met.D.Device.counts_now c.write_sectors.new.device) c.sync.ensures.time c.sync.ensures.crash
