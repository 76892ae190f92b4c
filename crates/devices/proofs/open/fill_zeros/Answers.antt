use Rattle.devices.proofs.Openings.{filled, last_stops}
use Rattle.devices.proofs.open.fill_zeros.Goals as goal

pub returns-clause-ok : goal.returns-clause-ok
returns-clause-ok g c =
    let calls = g.F.Openable.opening in
    filled c.sync_folder.result c.args.path.now c.args.bytes (calls c.args.file.now) (calls c.resize.new.self) (calls c.resize-2.new.self)
    (calls c.sync.new.self) (calls c.sync_folder.new.self) c.in_ok-resize.ensures.ok
    c.in_ok-resize-2.ensures.ok c.in_ok-sync.ensures.ok c.sync_folder.ensures.ok

pub returns-clause-failed : goal.returns-clause-failed
returns-clause-failed g c =
    let calls = g.F.Openable.opening in
    last_stops c.sync_folder.result c.args.path.now c.args.bytes (calls c.args.file.now) (calls c.resize.new.self)
    (calls c.resize-2.new.self)
    (calls c.sync.new.self) (calls c.sync_folder.new.self) c.in_ok-resize.ensures.ok c.in_ok-resize-2.ensures.ok c.in_ok-sync.ensures.ok
    c.sync_folder.ensures.err
