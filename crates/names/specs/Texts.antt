-- Adding the names of objects to a text.
use Rattle.std.specs.Prelude.{◌+◌, ◌-◌, ◌==◌, ◌++◌, ◌∷◌, if◌then◌else◌, ℕ, Bool, false, List, [], None, Option, Some, codes, drop, length, take}
use Rattle.std.specs.Borrow.{Bor}
use Rattle.std.specs.Char.{is_ascii_digit}
use Rattle.std.specs.List.{ends_with, enumerate_from, flat_map, list_any, slice_split, suffix_len}
use Rattle.names.specs.Table.{name_at}
use Rattle.names.specs.declared.name.Name.{Name}

-- the index at which the digits at the end of a text begin
abbrev pub digits_start : List ℕ → ℕ
digits_start text = length text - suffix_len is_ascii_digit text

-- whether one of these words comes just before the digits at the end of a text
abbrev pub names_object : List (Bor (List ℕ)) → List ℕ → Bool
names_object kinds text = list_any (λ kind. ends_with (λ a b. a == b) (take (digits_start text) text) kind.now) kinds

-- whether a text begins with a digit
abbrev pub begins_with_digit : List ℕ → Bool
begins_with_digit [] = false
begins_with_digit (b ∷ bs) = is_ascii_digit b

-- what is written after a number: its name in parentheses, or nothing if it has none
abbrev pub suffix_of : Option (List ℕ) → List ℕ
suffix_of None = []
suffix_of (Some name) = codes " (" ++ name ++ codes ")"

-- what is added between `before` and `after`: if an object's number ends there, its name in parentheses
abbrev pub behind : List (Bor (List ℕ)) → List Name → List ℕ → List ℕ → List ℕ
behind kinds names before after =
    if begins_with_digit after then []
    else if names_object kinds before then suffix_of (name_at names (drop (digits_start before) before))
    else []

-- one byte of a text, with its index, and the name to add after it
abbrev pub byte_and_name : List (Bor (List ℕ)) → List Name → List ℕ → ℕ × ℕ → List ℕ
byte_and_name kinds names text b = b.1 ∷ behind kinds names (take (b.0 + 1) text) (drop (b.0 + 1) text)

-- a text with the name of each object added after its number. A number is an object's if it follows one of the words
-- `kinds`
unfoldable pub named_text : List (Bor (List ℕ)) → List Name → List ℕ → List ℕ
named_text kinds names text = flat_map (byte_and_name kinds names text) (enumerate_from 0 text)
