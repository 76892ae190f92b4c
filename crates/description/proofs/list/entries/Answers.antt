use Rattle.description.proofs.Names.{[], AreBadEntries, table_view, view, IsList}
use Rattle.description.proofs.Keyed.{list_held}
use Rattle.description.proofs.list.entries.Goals as goal

pub returns-in-Some : goal.returns-in-Some
returns-in-Some g c = list_held (IsList g.T.FromValue.IsSaid) (AreBadEntries g.T.FromValue.IsSaid c.args.name c.args.key) [] c.args.key
    (table_view c.args.table.now) (view c.in-Some.value.now) c.entries_of.result c.in-Some.ensures c.entries_of.ensures
