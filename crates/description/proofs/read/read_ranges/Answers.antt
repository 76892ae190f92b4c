use Rattle.description.proofs.Names.{AreBadEntries, table_view, view, IsList, IsRange, Ranges, whole_ranges}
use Rattle.description.proofs.Keyed.{list_held}
use Rattle.description.proofs.read.read_ranges.Goals as goal
use Rattle.description.specs.declared.place.TableName.TheVariants as name

pub returns-in-Some : goal.returns-in-Some
returns-in-Some c = list_held (IsList IsRange) (AreBadEntries IsRange name.Whole Ranges) (whole_ranges c.args.geometry) Ranges
    (table_view c.args.table.now)
    (view c.in-Some.value.now) c.entries_of.result c.in-Some.ensures
    c.entries_of.ensures
