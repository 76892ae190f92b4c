use Rattle.image_builder.proofs.Names.{err_from_is_err_and, table_view}
use Rattle.image_builder.proofs.Refusals.{size_refused, unread_refused}
use Rattle.image_builder.proofs.blueprint.Blueprint.read.Goals as goal

pub returns-in_err-description-clause-refused : goal.returns-in_err-description-clause-refused
returns-in_err-description-clause-refused c =
    let p = err_from_is_err_and c.from_residual.result c.from_residual.ensures.1 in
    rw (p.1, p.2) (unread_refused (table_view c.args.table.now) _ c.in_err-description.ensures)

pub returns-in_err-superblock-clause-refused : goal.returns-in_err-superblock-clause-refused
returns-in_err-superblock-clause-refused c =
    let reported = c.in_err-superblock.ensures.refused in
    let why = size_refused (table_view c.args.table.now) c.in_ok-description.description c.in_err-superblock.field-0.0
    c.in_ok-description.ensures
    reported.0 reported.1 in
    let p = err_from_is_err_and c.from_residual-in_err-superblock.result c.from_residual-in_err-superblock.ensures.1 in
    rw (p.1, p.2) why
