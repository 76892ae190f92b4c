use Rattle.devices.proofs.Names.{Create, ap, arith, refl, length, length-replicate, zeros_are, file_disk}
use Rattle.std.proofs.Common.{◌≡◌, ◌*◌, ◌∙◌}
use Rattle.devices.proofs.Mirrored.{made_mirrors}
use Rattle.devices.proofs.Openings.{makes}
use Rattle.devices.proofs.open.CopiedFile+HostFile+F.create.Goals as goal

pub returns-clause-opening : goal.returns-clause-opening
returns-clause-opening g c =
    let before = g.F.Openable.opening c.in_ok-file.file in
    let after = g.F.Openable.opening c.make_zeros.new.file in
    rw c.over.ensures.file
    (makes c.args.path.now Create c.args.sectors _ before after c.in_ok-file.ensures.opened (omega arith) c.in_ok-make_zeros.ensures.made)

pub returns-clause-zeros : goal.returns-clause-zeros
returns-clause-zeros g c i lt =
    c.over.ensures.seen i ∙ zeros_are c.in_ok-zeros.zeros (512 * c.args.sectors) c.args.sectors i c.in_ok-zeros.ensures refl lt

pub returns-clause-size : goal.returns-clause-size
returns-clause-size g c =
    let count : length c.in_ok-zeros.zeros ≡ 512 * c.args.sectors = ap length c.in_ok-zeros.ensures
    ∙ length-replicate (512 * c.args.sectors) 0 in
    omega (arith, c.over.ensures.size, count)

pub returns-clause-mirror : goal.returns-clause-mirror
returns-clause-mirror g c =
    made_mirrors (file_disk c.over.result) c.args.path.now Create c.args.sectors _ c.requires (returns-clause-size g c)
    (returns-clause-zeros g c)
    (returns-clause-opening g c)

pub returns-clause-durable : goal.returns-clause-durable
returns-clause-durable g c = c.over.ensures.durable

pub returns-clause-failures : goal.returns-clause-failures
returns-clause-failures g c = c.over.ensures.failures
