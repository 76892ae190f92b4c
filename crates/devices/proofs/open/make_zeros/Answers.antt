use Rattle.devices.proofs.Names.{ap, Err, err_from_is_err_and}
use Rattle.std.proofs.Common.{◌∙◌}
use Rattle.devices.proofs.Openings.{fails_later, fills, not_held, same_fault}
use Rattle.devices.proofs.open.make_zeros.Goals as goal

pub returns-in_err-take_lock-clause-held : goal.returns-in_err-take_lock-clause-held
returns-in_err-take_lock-clause-held g c is =
    let p = err_from_is_err_and c.from_residual.result c.from_residual.ensures.1 in
    c.take_lock.ensures.held (c.in_err-take_lock.was ∙ ap Err (same_fault c.from_residual.result p.0 _ _ p.1 p.2 is))

pub returns-in_err-fill_zeros-clause-held : goal.returns-in_err-fill_zeros-clause-held
returns-in_err-fill_zeros-clause-held g c is =
    let p = err_from_is_err_and c.from_residual-in_err-fill_zeros.result c.from_residual-in_err-fill_zeros.ensures.1 in
    absurd (not_held c.from_residual-in_err-fill_zeros.result p.0 p.1 p.2 is)

pub returns-clause-made : goal.returns-clause-made
returns-clause-made g c =
    let calls = g.F.Openable.opening in
    fills c.args.path.now c.args.bytes (calls c.args.file.now) (calls c.take_lock.new.file) (calls c.fill_zeros.new.file)
    c.in_ok-take_lock.ensures.ok
    c.in_ok-fill_zeros.ensures.ok

pub returns-in_err-fill_zeros-clause-failed : goal.returns-in_err-fill_zeros-clause-failed
returns-in_err-fill_zeros-clause-failed g c is =
    let calls = g.F.Openable.opening in
    fails_later c.args.path.now c.args.bytes (calls c.args.file.now) (calls c.take_lock.new.file) (calls c.fill_zeros.new.file)
    c.in_ok-take_lock.ensures.ok
    c.in_err-fill_zeros.ensures.failed
