use Rattle.image_writer.proofs.Names.{arith, elsewhere_on, elsewhere_same, frames_in, on_ok_weaker}
use Rattle.std.proofs.Common.{◌-◌}
use Rattle.image_writer.proofs.FreshImages.{enough}
use Rattle.image_writer.proofs.NewFrames.{closed_between, parts_written}
use Rattle.image_writer.proofs.image.write_closed.Goals as goal

pub write_headers-requires-clause-inside : goal.write_headers-requires-clause-inside
write_headers-requires-clause-inside g c =
    let least = enough c.args.superblock.now c.requires.plan in
    omega (arith, least, c.requires.inside, c.write_frames.ensures.size)

pub returns-in_err-write_headers-clause-elsewhere : goal.returns-in_err-write_headers-clause-elsewhere
returns-in_err-write_headers-clause-elsewhere g c =
    closed_between c.args.superblock.now (g.D.Device.disk c.args.device.now).seen (g.D.Device.disk c.write_frames.new.device).seen
    (g.D.Device.disk c.write_headers.new.device).seen c.requires.plan c.write_frames.ensures.elsewhere c.write_headers.ensures.elsewhere

pub returns-clause-elsewhere : goal.returns-clause-elsewhere
returns-clause-elsewhere g c =
    let p = c.args.superblock.now in
    let written = (g.D.Device.disk c.write_headers.new.device).seen in
    elsewhere_on 1 (p.total - 1) (g.D.Device.disk c.args.device.now).seen written (g.D.Device.disk c.sync.new.self).seen
    (closed_between p (g.D.Device.disk c.args.device.now).seen (g.D.Device.disk c.write_frames.new.device).seen written c.requires.plan
    c.write_frames.ensures.elsewhere c.write_headers.ensures.elsewhere)
    (elsewhere_same 1 (p.total - 1) written (g.D.Device.disk c.sync.new.self).seen c.sync.ensures.seen)

pub returns-clause-written : goal.returns-clause-written
returns-clause-written g c =
    let mid = (g.D.Device.disk c.write_frames.new.device).seen in
    let new = (g.D.Device.disk c.write_headers.new.device).seen in
    on_ok_weaker c.sync.result
    (λ durable. parts_written c.args.superblock.now c.args.header c.in_ok-committed.committed c.args.entries.now
    (frames_in c.args.headers.now c.args.contents.now) mid new (g.D.Device.disk c.sync.new.self).seen c.requires.plan
    c.in_ok-committed.ensures.header c.in_ok-committed.ensures.frames c.write_headers.ensures.elsewhere
    c.in_ok-write_headers.ensures.written
    (c.write_headers.ensures.shut new (g.met.D.Device.seen_left c.write_headers.new.device)) c.sync.ensures.seen)
    c.sync.ensures.durable
