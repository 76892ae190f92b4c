use Rattle.description.proofs.Names.{[], AreBadTables, table_view, view, IsList, IsTable}
use Rattle.description.proofs.Keyed.{list_held}
use Rattle.description.proofs.list.objects.Goals as goal

pub returns-in-Some : goal.returns-in-Some
returns-in-Some g c = list_held (IsList (IsTable g.T.FromTable.IsRead)) (AreBadTables g.T.FromTable.IsRead g.T.FromTable.named c.args.key)
    [] c.args.key
    (table_view c.args.table.now) (view c.in-Some.value.now) c.objects_of.result c.in-Some.ensures c.objects_of.ensures
