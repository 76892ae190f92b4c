use Rattle.std.proofs.Common.{length}
use Rattle.std.proofs.lemmas.Result.{err_from_is_err_and}
use Rattle.ckpt_log.proofs.SealedDirectories.{is_bad}
use Rattle.ckpt_log.proofs.sealed.directory.read_directory.Goals as goal

pub returns-in_err-check_directory-clause-refused : goal.returns-in_err-check_directory-clause-refused
returns-in_err-check_directory-clause-refused g c =
    let p = err_from_is_err_and c.from_residual-in_err-check_directory.result c.from_residual-in_err-check_directory.ensures.1 in
    rw (p.1, p.2)
    (is_bad (g.D.Device.disk c.args.device.now).seen c.args.at (length c.args.into.now) c.args.geometry c.args.sums c.read_entries.new.into
    c.in_ok-found.found c.in_err-check_directory.field-0.0 c.read_entries.auto.into c.in_ok-found.ensures.found
    c.in_err-check_directory.ensures.refused)
