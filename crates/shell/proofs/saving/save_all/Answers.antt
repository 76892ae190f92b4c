use Rattle.std.proofs.Common.{Err, refl}
use Rattle.std.proofs.lemmas.Result.{err_from_is_err_and}
use Rattle.shell.proofs.saving.save_all.Goals as goal

pub returns-in_err-committed : goal.returns-in_err-committed
returns-in_err-committed g c =
    let p = err_from_is_err_and c.from_residual.result c.from_residual.ensures.1 in
    rw (p.1, p.2) (c.commit_all.new.kernel, Err c.in_err-committed.field-0.0, c.in_err-committed.ensures, (refl, refl), refl)
