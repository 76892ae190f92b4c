use Rattle.image_writer.proofs.Names.{arith, elsewhere_on, length_in, sym}
use Rattle.std.proofs.Common.{◌-◌, ◌∙◌}
use Rattle.image_writer.proofs.FreshImages.{enough, widened}
use Rattle.image_writer.proofs.OldGates.{none_on, shut_after}
use Rattle.image_writer.proofs.image.write_parts.Goals as goal

pub close_all_gates-requires : goal.close_all_gates-requires
close_all_gates-requires g c =
    let least = enough c.args.superblock.now c.total-total.ensures.fits in
    record { inside = omega (arith, least, c.requires.inside) }

pub write_superblock-requires-clause-inside : goal.write_superblock-requires-clause-inside
write_superblock-requires-clause-inside g c =
    let least = enough c.args.superblock.now c.total-total.ensures.fits in
    omega (arith, least, c.requires.inside, c.close_all_gates.ensures.size)

pub write_closed-requires-clause-headers : goal.write_closed-requires-clause-headers
write_closed-requires-clause-headers g c =
    sym (length_in c.args.headers.now c.args.contents.now) ∙ c.requires.keepable.count

pub write_closed-requires-clause-contents : goal.write_closed-requires-clause-contents
write_closed-requires-clause-contents g c =
    c.requires.contents ∙ sym (length_in c.args.headers.now c.args.contents.now) ∙ c.requires.keepable.count

pub returns-in_err-close_all_gates-clause-elsewhere : goal.returns-in_err-close_all_gates-clause-elsewhere
returns-in_err-close_all_gates-clause-elsewhere g c =
    let least = enough c.args.superblock.now c.total-total.ensures.fits in
    widened c.args.superblock.now.total 1 55 _ _ (omega (arith, least)) c.close_all_gates.ensures.elsewhere

pub returns-in_err-write_superblock-clause-elsewhere : goal.returns-in_err-write_superblock-clause-elsewhere
returns-in_err-write_superblock-clause-elsewhere g c =
    let least = enough c.args.superblock.now c.total-total.ensures.fits in
    elsewhere_on 0 c.args.superblock.now.total (g.D.Device.disk c.args.device.now).seen (g.D.Device.disk c.close_all_gates.new.device).seen
    (g.D.Device.disk c.write_superblock.new.device).seen
    (widened c.args.superblock.now.total 1 55 _ _ (omega (arith, least)) c.close_all_gates.ensures.elsewhere)
    (widened c.args.superblock.now.total 0 1 _ _ (omega (arith, least)) c.write_superblock.ensures.elsewhere)

pub returns-clause-elsewhere : goal.returns-clause-elsewhere
returns-clause-elsewhere g c =
    let p = c.args.superblock.now in
    let least = enough p c.total-total.ensures.fits in
    let old = (g.D.Device.disk c.args.device.now).seen in
    let closed = (g.D.Device.disk c.close_all_gates.new.device).seen in
    let begun = (g.D.Device.disk c.write_superblock.new.device).seen in
    elsewhere_on 0 p.total old begun (g.D.Device.disk c.write_closed.new.device).seen
    (elsewhere_on 0 p.total old closed begun (widened p.total 1 55 _ _ (omega (arith, least)) c.close_all_gates.ensures.elsewhere)
    (widened p.total 0 1 _ _ (omega (arith, least)) c.write_superblock.ensures.elsewhere))
    (widened p.total 1 (p.total - 1) _ _ (omega (arith, least)) c.write_closed.ensures.elsewhere)

pub returns-clause-any_moment : goal.returns-clause-any_moment
returns-clause-any_moment g c =
    let old = g.D.Device.disk c.args.device.now in
    let closed = g.D.Device.disk c.close_all_gates.new.device in
    let begun = g.D.Device.disk c.write_superblock.new.device in
    shut_after old begun (g.D.Device.disk c.write_closed.new.device) c.args.superblock.now c.total-total.ensures.fits
    (none_on old closed begun c.close_all_gates.ensures.any_moment c.write_superblock.ensures.any_moment)
    c.write_closed.ensures.any_moment
