-- The slots of objects in a half of the log.
use Rattle.migrator.specs.Names.{ℕ, Bool, true, false, Option, Some, None, List, [], slice_index_or, Entry}
use Rattle.std.specs.Prelude.{◌≡◌, ◌+◌, ◌<◌, ◌∷◌}
use Rattle.migrator.specs.declared.table.Place.{Place}
use Rattle.migrator.specs.declared.table.Place.TheVariants.{Nowhere, Torn, Whole}

abbrev pub place_at : List Place → ℕ → Place
place_at ps n = slice_index_or ps n Nowhere

abbrev pub slot_of : Place → Option ℕ
slot_of Nowhere = None
slot_of (Torn s) = Some s
slot_of (Whole s) = Some s

-- whether an object has a slot
abbrev pub is_held : Place → Bool
is_held Nowhere = false
is_held (Torn s) = true
is_held (Whole s) = true

-- how many slots an object takes, and how many valid frames it has in them; these counts over all objects
abbrev pub has_slot : Place → ℕ
has_slot Nowhere = 0
has_slot (Torn s) = 1
has_slot (Whole s) = 1

abbrev pub has_frame : Place → ℕ
has_frame Nowhere = 0
has_frame (Torn s) = 0
has_frame (Whole s) = 1

unfoldable pub tally : (Place → ℕ) → List Place → ℕ
tally has [] = 0
tally has (p ∷ ps) = has p + tally has ps

abbrev pub taken_count : List Place → ℕ
taken_count ps = tally has_slot ps

abbrev pub whole_count : List Place → ℕ
whole_count ps = tally has_frame ps

-- the slot of an object or, if it has none, the next free one
abbrev pub slot_or : Option ℕ → ℕ → ℕ
slot_or None next = next
slot_or (Some s) next = s

abbrev pub slot_for : List Place → ℕ → ℕ
slot_for ps n = slot_or (slot_of (place_at ps n)) (taken_count ps)

-- no two objects have the same slot, and the slots in use are the first ones of the half
pub record IsTable (ps : List Place) : Type 0 where
  pub few : (n s : ℕ) → slot_of (place_at ps n) ≡ Some s → s < taken_count ps
  pub apart : (m n s : ℕ) → slot_of (place_at ps m) ≡ Some s → slot_of (place_at ps n) ≡ Some s → m ≡ n

-- these entries, after one for object n if it has a slot
abbrev pub entry_before : ℕ → Option ℕ → List Entry → List Entry
entry_before n None es = es
entry_before n (Some s) es = record { object = n; slot = s } ∷ es

-- the entries of the objects that have a slot, in rising order; the first place in the list is that of object n
abbrev pub entries_from : ℕ → List Place → List Entry
entries_from n [] = []
entries_from n (p ∷ ps) = entry_before n (slot_of p) (entries_from (n + 1) ps)

unfoldable pub entries_of : List Place → List Entry
entries_of ps = entries_from 0 ps
