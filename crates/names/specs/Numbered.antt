-- Lines with numbers in the place of names.
use Rattle.std.specs.Prelude.{◌||◌, ◌&&◌, ◌==◌, ◌++◌, ◌∷◌, if◌then◌else◌, ℕ, Bool, true, false, not, List, [], codes, decimal, is_some, option_map, unwrap_or}
use Rattle.std.specs.List.{list_any}
use Rattle.std.specs.Str.{bytes_eq}
use Rattle.names.specs.Table.{is_name, number_at}
use Rattle.names.specs.declared.name.Name.{Name}
use Rattle.names.specs.declared.numbering.Place.{Place}
use Rattle.names.specs.declared.numbering.Place.TheVariants as place
use Rattle.names.specs.declared.numbering.Unnumbered.{Unnumbered}
use Rattle.names.specs.declared.numbering.Unnumbered.TheVariants as fault

-- the commands that begin with the number of an object or a process
abbrev pub takes_one : List ℕ → Bool
takes_one word = bytes_eq word (codes "show") || bytes_eq word (codes "call") || bytes_eq word (codes "return")
    || bytes_eq word (codes "send") || bytes_eq word (codes "load") || bytes_eq word (codes "store")
    || bytes_eq word (codes "evict") || bytes_eq word (codes "journal")

-- the questions with any count of them
abbrev pub takes_all : List ℕ → Bool
takes_all word = bytes_eq word (codes "reach") || bytes_eq word (codes "draw")

-- a word in which a comment begins
abbrev pub has_comment : List ℕ → Bool
has_comment word = list_any (λ b. b == 35) word

-- what may stand after the first word
abbrev pub after_command : List ℕ → Place
after_command word = if takes_one word then place.One else if takes_all word then place.All else place.Plain

-- what may stand after a word
abbrev pub after_word : Place → List ℕ → Place
after_word at [] = at
after_word place.Command word = after_command word
after_word place.All word = if has_comment word then place.Plain else place.All
after_word at word = place.Plain

-- whether a name may stand there
abbrev pub takes_name : Place → Bool
takes_name place.One = true
takes_name place.All = true
takes_name at = false

-- a word is a name there
abbrev pub is_name_at : Place → List ℕ → Bool
is_name_at at word = takes_name at && is_name word

-- a word, or the number of the name that it is
abbrev pub numbered_word : List Name → Place → List ℕ → List ℕ
numbered_word names at word = if is_name_at at word then unwrap_or (option_map decimal (number_at names word)) word else word

-- a word is no name there, or one of these
abbrev pub is_known : List Name → Place → List ℕ → Bool
is_known names at word = not (is_name_at at word) || is_some (number_at names word)

-- words with numbers, each with a space after it
abbrev pub numbered_words : List Name → Place → List (List ℕ) → List ℕ
numbered_words names at [] = []
numbered_words names at (w ∷ ws) = numbered_word names at w ++ 32 ∷ numbered_words names (after_word at w) ws

-- if a line has no numbers because a word is unknown, P holds of this word
abbrev pub IfUnknown : Unnumbered → (List ℕ → Type 0) → Type 0
IfUnknown fault.NoMemory P = Unit {0}
IfUnknown (fault.Unknown word) P = P word.now

-- each name among words is one of these
abbrev pub are_known : List Name → Place → List (List ℕ) → Bool
are_known names at [] = true
are_known names at (w ∷ ws) = is_known names at w && are_known names (after_word at w) ws
