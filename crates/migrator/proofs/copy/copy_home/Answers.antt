use Rattle.migrator.proofs.Names.{arith, home_place, place_length, sectors_from}
use Rattle.std.proofs.Common.{◌∙◌}
use Rattle.device.specs.Disk.{IsWhole}
use Rattle.migrator.proofs.Gathering.{block_copied, gathered_copied, zeros_there}
use Rattle.migrator.proofs.copy.copy_home.Goals as goal

pub returns-clause-copied : goal.returns-clause-copied
returns-clause-copied g c =
    let p = c.args.plan.now in
    let before = c.args.device.now in
    let after = c.write_frame.new.device in
    let old = g.D.Device.disk before in
    let new = g.D.Device.disk after in
    let whole_old : IsWhole old.sectors old.seen = g.met.D.Device.left_whole before old.moment old.seen
    (g.met.D.Device.counts_now before old.moment old.seen (omega arith) (g.met.D.Device.seen_left before)) in
    let whole_new : IsWhole new.sectors new.seen = g.met.D.Device.left_whole after new.moment new.seen
    (g.met.D.Device.counts_now after new.moment new.seen (omega arith) (g.met.D.Device.seen_left after)) in
    gathered_copied c.write_frame.result old.seen new.seen p c.args.generation c.args.directory.now c.args.number c.take_block.new.block
    c.in_ok-take_block.ensures.gathered (rw c.new-home.ensures at c.write_frame.ensures.written)
    (block_copied c.write_frame.result old new p c.args.generation c.args.directory.now c.args.number c.take_block.new.block
    c.shape.ensures.plan c.requires.directory c.requires.object c.requires.inside
    (c.write_frame.ensures.writes.size ∙ c.take_block.ensures.reads.size) whole_old whole_new c.in_ok-take_block.ensures.whole
    (rw c.new-home.ensures at c.write_frame.ensures.bytes))

pub returns-clause-zeros : goal.returns-clause-zeros
returns-clause-zeros g c =
    let p = c.args.plan.now in
    zeros_there c.write_frame.result p c.args.number
    (sectors_from (g.D.Device.disk c.write_frame.new.device).seen (home_place p c.args.number) (place_length p c.args.number))
    c.take_block.new.block
    (rw c.new-home.ensures at c.write_frame.ensures.bytes) c.in_ok-take_block.ensures.zeros
