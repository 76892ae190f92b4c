-- The entries of a table of names.
use Rattle.std.specs.Prelude.{List}
use Rattle.names.specs.declared.name.Name.{Name}
use Rattle.names.specs.declared.table.Names.{Names}

-- the names of a table, in its order
abbrev pub entries : Names → List Name
entries n = n.entries.items
