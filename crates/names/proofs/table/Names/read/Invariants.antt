use Rattle.toml.specs.View.{members_view}
use Rattle.names.proofs.Tables.{IsReadTo}
use Rattle.names.proofs.table.Names.read.Given as goal

abbrev pub invariant-keys : goal.invariant-keys
invariant-keys l =
    (goal.iterator-keys).can_next l.key-iterator
    × (goal.iterator-keys).is_finite l.key-iterator
    × IsReadTo (members_view l.key-iterator) (members_view l.table.entries) l.names.entries.items
