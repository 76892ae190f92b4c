-- A table from numbers to names.
use Rattle.std.specs.Prelude.{◌≡◌, ◌==◌, ◌||◌, ◌&&◌, ◌<◌, ◌^◌, ◌∷◌, ℕ, Bool, false, true, List, [], Option, option_map, find, pos, string_bytes, decimal}
use Rattle.std.specs.Char.{is_ascii_alphabetic, is_ascii_alphanumeric}
use Rattle.std.specs.List.{list_all, list_any}
use Rattle.std.specs.Str.{bytes_eq}
use Rattle.toml.specs.Data.{Data, Members, integer, member, no_members}
use Rattle.names.specs.declared.name.Name.{Name}

-- a letter, a digit, `_` or `-`
abbrev pub is_name_byte : ℕ → Bool
is_name_byte b = is_ascii_alphanumeric b || (b == 95) || (b == 45)

-- a letter, then letters, digits, `_` and `-`
abbrev pub is_name : List ℕ → Bool
is_name [] = false
is_name (b ∷ bs) = is_ascii_alphabetic b && list_all is_name_byte bs

-- the key is the text of a name, and the value its number
pub record IsNamed (key : List ℕ) (d : Data) (n : Name) : Type 0 where
  pub text : string_bytes n.text ≡ key
  pub is_one : is_name key ≡ true
  pub small : n.number < 2 ^ 63
  pub number : d ≡ integer (pos n.number)

-- each member is a name with its number
abbrev pub AreNamed : Members → List Name → Type 0
AreNamed no_members [] = Unit {0}
AreNamed (member key d ms) (n ∷ ns) = IsNamed key d n × AreNamed ms ns
AreNamed ms ns = ⊥

-- whether a number has one of these names
abbrev pub has : ℕ → List Name → Bool
has number names = list_any (λ n. n.number == number) names

-- no number occurs twice
abbrev pub AreOnce : List Name → Type 0
AreOnce [] = Unit {0}
AreOnce (n ∷ ns) = (has n.number ns ≡ false) × AreOnce ns

-- the members are these names, and no number has two
abbrev pub AreNamesOf : Members → List Name → Type 0
AreNamesOf ms ns = AreNamed ms ns × AreOnce ns

-- whether these digits are the decimal text of n
abbrev pub writes : ℕ → List ℕ → Bool
writes n digits = bytes_eq (decimal n) digits

-- the name of the number that has these digits
abbrev pub name_at : List Name → List ℕ → Option (List ℕ)
name_at names digits = option_map (λ n. string_bytes n.text) (find (λ n. writes n.number digits) names)

-- the number with this name
abbrev pub number_at : List Name → List ℕ → Option ℕ
number_at names text = option_map (λ n. n.number) (find (λ n. bytes_eq (string_bytes n.text) text) names)
