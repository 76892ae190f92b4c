use Rattle.devices.proofs.Names.{Err, ap, option_map, refl, resizes, err_from_is_err_and}
use Rattle.std.proofs.Common.{◌∙◌}
use Rattle.devices.proofs.Openings.{keeps_length, loads_locked, not_given, not_held, same_fault}
use Rattle.devices.proofs.open.load_locked.Goals as goal

pub returns-in_err-take_lock-clause-held : goal.returns-in_err-take_lock-clause-held
returns-in_err-take_lock-clause-held g c is =
    let p = err_from_is_err_and c.from_residual.result c.from_residual.ensures.1 in
    c.take_lock.ensures.held (c.in_err-take_lock.was ∙ ap Err (same_fault c.from_residual.result p.0 _ _ p.1 p.2 is))

pub returns-in_err-take_lock-clause-length : goal.returns-in_err-take_lock-clause-length
returns-in_err-take_lock-clause-length g c = c.take_lock.ensures.length

pub returns-in_err-sync-clause-held : goal.returns-in_err-sync-clause-held
returns-in_err-sync-clause-held g c is =
    let p = err_from_is_err_and c.from_residual-in_err-sync.result c.from_residual-in_err-sync.ensures.1 in
    absurd (not_held c.from_residual-in_err-sync.result p.0 p.1 p.2 is)

pub returns-in_err-sync-clause-length : goal.returns-in_err-sync-clause-length
returns-in_err-sync-clause-length g c = ap (option_map resizes) c.in_err-sync.ensures.err ∙ c.take_lock.ensures.length

pub returns-clause-read : goal.returns-clause-read
returns-clause-read g c =
    let calls = g.F.Openable.opening in
    loads_locked c.load.result c.args.lock (calls c.args.file.now) (calls c.take_lock.new.file) (calls c.sync.new.self)
    (calls c.load.new.file)
    c.in_ok-take_lock.ensures.ok c.in_ok-sync.ensures.ok c.load.ensures.read

pub returns-clause-held : goal.returns-clause-held
returns-clause-held g c is = absurd (not_given c.load.result _ c.load.ensures.fault is)

pub returns-clause-length : goal.returns-clause-length
returns-clause-length g c = c.load.ensures.length ∙ keeps_length _ _ _ c.in_ok-sync.ensures.ok refl ∙ c.take_lock.ensures.length
