use Rattle.image_writer.proofs.Names.{AreHomes, CheckpointHeader, ap, arith, frames_in, object_count, IsWhole}
use Rattle.image_writer.proofs.NewFrames.{frames_there}
use Rattle.image_writer.proofs.SlotFrames.{log_between}
use Rattle.image_writer.proofs.image.write_frames.Goals as goal

pub returns-in_err-sums-clause-elsewhere : goal.returns-in_err-sums-clause-elsewhere
returns-in_err-sums-clause-elsewhere g c =
    log_between c.args.superblock.now c.args.header.generation (g.D.Device.disk c.args.device.now).seen
    (g.D.Device.disk c.write_homes.new.device).seen (g.D.Device.disk c.write_log.new.device).seen c.requires.plan
    (rw c.new-home.ensures at c.write_homes.ensures.elsewhere) (rw c.new-home.ensures at c.write_log.ensures.elsewhere)

pub returns-clause-elsewhere : goal.returns-clause-elsewhere
returns-clause-elsewhere g c =
    log_between c.args.superblock.now c.args.header.generation (g.D.Device.disk c.args.device.now).seen
    (g.D.Device.disk c.write_homes.new.device).seen (g.D.Device.disk c.write_log.new.device).seen c.requires.plan
    (rw c.new-home.ensures at c.write_homes.ensures.elsewhere) (rw c.new-home.ensures at c.write_log.ensures.elsewhere)

pub returns-clause-frames : goal.returns-clause-frames
returns-clause-frames g c =
    let p = c.args.superblock.now in
    let fs = frames_in c.args.headers.now c.args.contents.now in
    let device = c.write_log.new.device in
    let homes = g.D.Device.disk c.write_homes.new.device in
    let new = g.D.Device.disk device in
    let whole : IsWhole new.sectors new.seen = g.met.D.Device.left_whole device new.moment new.seen
    (g.met.D.Device.counts_now device new.moment new.seen (omega arith) (g.met.D.Device.seen_left device)) in
    let home : AreHomes p fs (object_count p.geometry) homes.seen = rw
    (c.new-home.ensures, c.geometry-nodes.ensures.value) at c.in_ok-root.ensures.home in
    frames_there p c.header_with.result c.args.header.generation c.args.entries.now fs homes.seen new.seen c.in_ok-root.root
    c.in_ok-sums.sums (ap (λ (x : CheckpointHeader). x.generation) c.header_with.ensures.header) c.requires.plan c.requires.directory
    (rw c.new-home.ensures at c.write_log.ensures.elsewhere) home (rw c.new-home.ensures at c.in_ok-sums.ensures.slots)
    (rw c.new-home.ensures at c.in_ok-sums.ensures.directory) (rw c.new-home.ensures at c.in_ok-sums.ensures.sums)
    (rw (c.new-home.ensures, c.geometry-nodes.ensures.value) at c.in_ok-root.ensures.root)
    (λ i lt. whole.size i (omega (arith, lt, c.requires.inside, c.write_log.ensures.size, c.write_homes.ensures.size)))
    c.header_with.ensures.root c.header_with.ensures.directory c.header_with.ensures.plain
