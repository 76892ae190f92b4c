use Rattle.vezhnake_images.proofs.Names.{subst, sym, table_view, RefusesText}
use Rattle.vezhnake_images.proofs.Built.{unread}
use Rattle.vezhnake_images.proofs.building.blueprint_of.Goals as goal

pub returns-in-Ok-read-clause-ok : goal.returns-in-Ok-read-clause-ok
returns-in-Ok-read-clause-ok c = (table_view c.in-Ok.table, c.in-Ok.ensures.ok, c.in-Ok-read.ensures.read)

pub returns-clause-err : goal.returns-clause-err
returns-clause-err c = subst (RefusesText c.args.text.now) (sym c.status_of.ensures)
    (unread c.args.text.now (table_view c.in-Ok.table) _ c.in-Ok.ensures.ok c.in-Err-read.ensures.refused)
