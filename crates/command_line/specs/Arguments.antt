-- How the rows of a subcommand give its arguments.
use Rattle.std.specs.Prelude.{◌≡◌, ◌⊎◌, ◌&&◌, ℕ, Bool, true, false, not, nat_lt, List, [], Option, Some, None, length}
use Rattle.std.specs.Prelude.{find}
use Rattle.std.specs.Prelude.{codes, map}
use Rattle.std.specs.List.{All, list_all}
use Rattle.std.specs.Borrow.{Bor}
use Rattle.std.specs.Option.{option_map_or}
use Rattle.std.specs.Str.{bytes_eq}
use Rattle.std.specs.Str.Parse.{digits_value, without_leading_plus}
use Rattle.clap.specs.Simple.{Shape, built, label_of}
use Rattle.clap.specs.Takes.{values_pass}
use Rattle.clap.specs.Walk.{answers_to}
use Rattle.clap.specs.Words.{IsUnsignedIn, Row, Rule, Text, all_of, first_of}
use Rattle.command_line.specs.Commands.{eros_app, greatest_number}

-- the argument of this name was given as this text
abbrev pub IsGiven : List Row → Text → Text → Type 0
IsGiven rows name text = first_of name rows ≡ Some text

-- the number in a word of decimal digits
abbrev pub number_of : Text → ℕ
number_of word = digits_value 10 (without_leading_plus word)

-- the word is this number, and the number is within the bounds
abbrev pub IsNumber : ℕ → ℕ → Text → ℕ → Type 0
IsNumber least most word number = IsUnsignedIn least most word × (number ≡ number_of word)

-- the option is missing, or gives this number
abbrev pub IsOption : List Row → Text → ℕ → ℕ → Option ℕ → Type 0
IsOption rows name least most None = first_of name rows ≡ None
IsOption rows name least most (Some number) = (word : Text) × IsGiven rows name word × IsNumber least most word number

-- the option gives a word that is no number within the bounds
abbrev pub GivesNoNumber : List Row → Text → ℕ → ℕ → Type 0
GivesNoNumber rows name least most = (word : Text) × IsGiven rows name word × (IsUnsignedIn least most word → ⊥)

-- the option is missing, or gives this number
abbrev pub IsNumberOption : List Row → Text → Option ℕ → Type 0
IsNumberOption rows name number = IsOption rows name 0 greatest_number number

-- borrowed words as texts
abbrev pub texts_of : List (Bor Text) → List Text
texts_of = map (λ s. s.now)

-- the argument gives these numbers, in this order
abbrev pub AreNumbers : List Row → Text → List ℕ → Type 0
AreNumbers rows name numbers = (words : List Text) × (all_of name rows ≡ Some words)
    × All (IsUnsignedIn 0 greatest_number) words × (numbers ≡ map number_of words)

-- the argument gives these numbers, in this order; or it is missing, and there are none
abbrev pub AreNumbersIfAny : List Row → Text → List ℕ → Type 0
AreNumbersIfAny rows name numbers = AreNumbers rows name numbers ⊎ ((all_of name rows ≡ None) × (numbers ≡ []))

-- the argument gives a word that is no number
abbrev pub GivesNoNumbers : List Row → Text → Type 0
GivesNoNumbers rows name = (words : List Text) × (all_of name rows ≡ Some words)
    × (All (IsUnsignedIn 0 greatest_number) words → ⊥)

-- the flag is given or not
abbrev pub IsFlag : List Row → Text → Bool → Type 0
IsFlag rows name true = IsGiven rows name (codes "true")
IsFlag rows name false = IsGiven rows name (codes "true") → ⊥

-- ---- whether a subcommand has its arguments

-- whether the argument has valid values, or is missing and not required
abbrev pub is_filled : List Row → Rule → Bool
is_filled rows a = option_map_or (λ r. nat_lt 0 (length r.values) && values_pass a r.values)
    (find (λ r. bytes_eq r.id a.id) rows) (not a.required)

-- whether all arguments are filled
abbrev pub is_whole : List Rule → List Row → Bool
is_whole rules rows = list_all (is_filled rows) rules

-- the subcommand of this name, as clap builds it for a parse
abbrev pub subcommand_named : Text → Option Shape
subcommand_named name = find (λ s. answers_to name (label_of s)) (built eros_app).subs

-- whether the rows fill all arguments of the subcommand of this name
abbrev pub has_all : Text → List Row → Bool
has_all name rows = option_map_or (λ s. is_whole s.rules rows) (subcommand_named name) false
