use Rattle.description.specs.Laid.{AreLaid}
use Rattle.image_builder.proofs.Images.{builds, left_writing}
use Rattle.image_builder.proofs.writing.write.Goals as goal

pub returns-clause-built : goal.returns-clause-built
returns-clause-built g c =
    let d = c.args.description.now in
    let hs = c.deref.result.now in
    let cs = c.deref-2.result.now in
    let laid : AreLaid d hs cs = rw (c.deref.ensures.value, c.deref-2.ensures.value) c.requires.laid in
    let written = c.in_ok-write_image.ensures in
    builds d hs cs laid c.requires.limits c.requires.sound (g.D.Device.disk c.args.device.now) (g.D.Device.disk c.write_image.new.device)
    c.args.superblock.now c.requires.plan c.requires.inside written.denotes written.crash written.zeros written.elsewhere

pub returns-clause-any_moment : goal.returns-clause-any_moment
returns-clause-any_moment g c =
    let d = c.args.description.now in
    let hs = c.deref.result.now in
    let cs = c.deref-2.result.now in
    let laid : AreLaid d hs cs = rw (c.deref.ensures.value, c.deref-2.ensures.value) c.requires.laid in
    left_writing d hs cs laid c.requires.limits c.requires.sound (g.D.Device.disk c.args.device.now)
    (g.D.Device.disk c.write_image.new.device)
    c.args.superblock.now c.requires.plan c.in_ok-write_image.ensures.any_moment

pub returns-in_err-write_image-clause-any_moment : goal.returns-in_err-write_image-clause-any_moment
returns-in_err-write_image-clause-any_moment g c =
    let d = c.args.description.now in
    let hs = c.deref.result.now in
    let cs = c.deref-2.result.now in
    let laid : AreLaid d hs cs = rw (c.deref.ensures.value, c.deref-2.ensures.value) c.requires.laid in
    left_writing d hs cs laid c.requires.limits c.requires.sound (g.D.Device.disk c.args.device.now)
    (g.D.Device.disk c.write_image.new.device)
    c.args.superblock.now c.requires.plan c.in_err-write_image.ensures.any_moment
