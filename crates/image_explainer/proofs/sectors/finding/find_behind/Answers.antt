use Rattle.image_explainer.proofs.Places.{bad_directory, bad_frame, bad_header, bad_none}
use Rattle.image_explainer.proofs.sectors.finding.find_behind.Goals as goal

pub find_unpaired-requires-clause-bad : goal.find_unpaired-requires-clause-bad
find_unpaired-requires-clause-bad g c =
    let disk = g.D.Device.disk c.args.device.now in
    (bad_none disk.sectors disk.seen c.args.plan.now c.requires.plan (rw c.in-NoHeader.is at c.requires.bad))

pub find_uncounted-requires-clause-bad : goal.find_uncounted-requires-clause-bad
find_uncounted-requires-clause-bad g c =
    let disk = g.D.Device.disk c.args.device.now in
    (bad_none disk.sectors disk.seen c.args.plan.now c.requires.plan (rw c.in-NoHeader.is at c.requires.bad))

pub find_sealed_header-requires-clause-some : goal.find_sealed_header-requires-clause-some
find_sealed_header-requires-clause-some g c =
    let disk = g.D.Device.disk c.args.device.now in
    (bad_header disk.sectors disk.seen c.args.plan.now c.requires.plan (rw c.in-BadHeader.is at c.requires.bad)).0

pub find_sealed_header-requires-clause-bad : goal.find_sealed_header-requires-clause-bad
find_sealed_header-requires-clause-bad g c =
    let disk = g.D.Device.disk c.args.device.now in
    (bad_header disk.sectors disk.seen c.args.plan.now c.requires.plan (rw c.in-BadHeader.is at c.requires.bad)).1

pub find_header-requires-clause-some : goal.find_header-requires-clause-some
find_header-requires-clause-some g c =
    let disk = g.D.Device.disk c.args.device.now in
    (bad_header disk.sectors disk.seen c.args.plan.now c.requires.plan (rw c.in-BadHeader.is at c.requires.bad)).0

pub find_header-requires-clause-bad : goal.find_header-requires-clause-bad
find_header-requires-clause-bad g c =
    let disk = g.D.Device.disk c.args.device.now in
    (bad_header disk.sectors disk.seen c.args.plan.now c.requires.plan (rw c.in-BadHeader.is at c.requires.bad)).1

pub find_directory-requires-clause-bad : goal.find_directory-requires-clause-bad
find_directory-requires-clause-bad g c =
    let disk = g.D.Device.disk c.args.device.now in
    (bad_directory disk.sectors disk.seen c.args.plan.now c.requires.plan (rw c.in-BadDirectory.is at c.requires.bad))

pub find_saved-requires-clause-bad : goal.find_saved-requires-clause-bad
find_saved-requires-clause-bad g c =
    let disk = g.D.Device.disk c.args.device.now in
    (bad_frame disk.sectors disk.seen c.args.plan.now c.requires.plan (rw c.in-BadFrame.is at c.requires.bad))
