use Rattle.devices.specs.FileDevice.{file_disk}
use Rattle.devices.proofs.Mirrored.{opened_mirrors}
use Rattle.devices.proofs.Openings.{opens}
use Rattle.devices.proofs.open.open_locked.Goals as goal

pub returns-clause-opening : goal.returns-clause-opening
returns-clause-opening g c =
    let before = g.F.Openable.opening c.in_ok-file.file in
    let after = g.F.Openable.opening c.load_locked.new.file in
    rw c.over.ensures.file
    (opens c.args.path.now c.args.access c.args.lock before after c.in_ok-copy.copy (file_disk c.over.result)
    c.in_ok-file.ensures.opened c.in_ok-copy.ensures.read c.over.ensures.size c.over.ensures.seen)

pub returns-clause-mirror : goal.returns-clause-mirror
returns-clause-mirror g c =
    opened_mirrors (file_disk c.over.result) c.args.path.now c.args.access c.args.lock _ (returns-clause-opening g c)
