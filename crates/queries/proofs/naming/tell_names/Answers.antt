use Rattle.std.proofs.Common.{refl}
use Rattle.std.proofs.lemmas.Result.{err_from_is_err_and}
use Rattle.image_drawer.proofs.Texts.{item_fails}
use Rattle.queries.specs.Naming.{name_line}
use Rattle.queries.proofs.naming.tell_names.Goals as goal

pub returns-in_err-tell_name : goal.returns-in_err-tell_name
returns-in_err-tell_name g c =
    let p = err_from_is_err_and c.from_residual.result c.from_residual.ensures.1 in
    rw (p.1, p.2) (item_fails (name_line c.args.old c.args.new) c.args.names.now _ _ _ _ c.loop-name.name-index _ _ refl
    c.loop-name-test.true
    c.name-item.is c.loop-name.invariant c.in_err-tell_name.ensures)
