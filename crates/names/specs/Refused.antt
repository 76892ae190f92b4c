-- Why no names are read from a table.
use Rattle.std.specs.Prelude.{◌≡◌, ◌≢◌, ◌<◌, ◌^◌, ◌∷◌, ◌++◌, ℕ, List, [], false, true, pos}
use Rattle.names.specs.Table.{AreNamesOf, IsNamed, has, is_name}
use Rattle.names.specs.declared.name.Name.{Name}
use Rattle.names.specs.declared.table.NamesFault.{NamesFault}
use Rattle.names.specs.declared.table.NamesFault.TheVariants as fault
use Rattle.toml.specs.Data.{Data, Members, integer}

-- why reading a table fails: memory ran out, or the table isn't a list of names
abbrev pub IsRefused : Members → NamesFault → Type 0
IsRefused ms fault.NoMemory = Unit {0}
IsRefused ms _ = (ns : List Name) → AreNamesOf ms ns → ⊥

-- a key and its value add a name to the list
abbrev pub Adds : List ℕ → Data → List Name → List Name → Type 0
Adds key d old new = (n : Name) × (new ≡ old ++ n ∷ []) × IsNamed key d n × (has n.number old ≡ false)

-- a key and its value can't be added: the key is no name, the value no number, or its number has a name
abbrev pub CannotAdd : List ℕ → Data → List Name → NamesFault → Type 0
CannotAdd key d old fault.NoMemory = Unit {0}
CannotAdd key d old (fault.NotName at) = is_name key ≡ false
CannotAdd key d old (fault.NotNumber at) = (n : ℕ) → n < 2 ^ 63 → d ≢ integer (pos n)
CannotAdd key d old (fault.Twice at) = (n : ℕ) × (d ≡ integer (pos n)) × (has n old ≡ true)
