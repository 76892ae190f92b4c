use Rattle.runs.proofs.Names.{Err, err_from_is_err_and, refl}
use Rattle.runs.proofs.saving.save.Goals as goal

pub returns-in_err-committed : goal.returns-in_err-committed
returns-in_err-committed g c =
    let p = err_from_is_err_and c.from_residual.result c.from_residual.ensures.1 in
    rw (p.1, p.2) (c.commit_all.new.kernel, Err c.in_err-committed.field-0.0, c.in_err-committed.ensures, (refl, refl))
