-- The entries of a store's cache: by number, and in the order of their last use.
use Rattle.cache_entries.specs.Names.{ℕ, Option, None, List, option_map, slice_index_or, slice_set, Cap, Content}

-- A cache entry: an object's present body, and perhaps a frozen copy. It has a copy if the frozen body isn't in the
-- log yet, and the object was written since the freeze.
pub record Entry : Type 0 where
  pub present : Content Cap
  pub kept : Option (Content Cap)

-- the entry of a number, if it has one
abbrev pub entry_at : List (Option Entry) → ℕ → Option Entry
entry_at es n = slice_index_or es n None

abbrev pub present_of : Entry → Content Cap
present_of e = e.present

abbrev pub kept_of : Entry → Option (Content Cap)
kept_of e = e.kept

-- an entry with its present body changed
abbrev pub changing : (Content Cap → Content Cap) → Entry → Entry
changing change e = record e { present = change e.present }

-- a new entry, with no frozen copy
abbrev pub new_entry : Content Cap → Entry
new_entry c = record { present = c; kept = None }

-- the entries, with that of number n changed if it has one
abbrev pub with_entry : (Entry → Entry) → ℕ → List (Option Entry) → List (Option Entry)
with_entry change n es = slice_set es n (option_map change (entry_at es n))
