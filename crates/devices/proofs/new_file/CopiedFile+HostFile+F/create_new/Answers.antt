use Rattle.devices.proofs.Names.{New, ap, arith, refl, length, length-replicate, zeros_are, file_disk}
use Rattle.std.proofs.Common.{◌≡◌, ◌*◌, ◌∙◌}
use Rattle.devices.proofs.Mirrored.{made_mirrors}
use Rattle.devices.proofs.Openings.{makes}
use Rattle.devices.proofs.new_file.CopiedFile+HostFile+F.create_new.Goals as goal

pub returns-in-Ok-make_zeros-clause-opening : goal.returns-in-Ok-make_zeros-clause-opening
returns-in-Ok-make_zeros-clause-opening g c =
    let before = g.F.Openable.opening c.in-Ok-at.file in
    let after = g.F.Openable.opening c.make_zeros.new.file in
    rw c.over.ensures.file
    (makes c.args.path.now New c.args.sectors _ before after c.in-Ok-at.ensures.opened (omega arith) c.in-Ok-make_zeros.ensures.made)

pub returns-in-Ok-make_zeros-clause-zeros : goal.returns-in-Ok-make_zeros-clause-zeros
returns-in-Ok-make_zeros-clause-zeros g c i lt =
    c.over.ensures.seen i ∙ zeros_are c.in-Ok.zeros (512 * c.args.sectors) c.args.sectors i c.in-Ok.ensures refl lt

pub returns-in-Ok-make_zeros-clause-size : goal.returns-in-Ok-make_zeros-clause-size
returns-in-Ok-make_zeros-clause-size g c =
    let count : length c.in-Ok.zeros ≡ 512 * c.args.sectors = ap length c.in-Ok.ensures ∙ length-replicate (512 * c.args.sectors) 0 in
    omega (arith, c.over.ensures.size, count)

pub returns-in-Ok-make_zeros-clause-mirror : goal.returns-in-Ok-make_zeros-clause-mirror
returns-in-Ok-make_zeros-clause-mirror g c =
    made_mirrors (file_disk c.over.result) c.args.path.now New c.args.sectors _ c.requires (returns-in-Ok-make_zeros-clause-size g c)
    (returns-in-Ok-make_zeros-clause-zeros g c) (returns-in-Ok-make_zeros-clause-opening g c)
