-- Objects in JSON whose text may have any characters.
use Rattle.std.specs.Prelude.{◌+◌, ◌-◌, ◌/◌, ◌%◌, ◌==◌, ◌++◌, ◌∷◌, if◌then◌else◌, ℕ, List, [], codes, nat_lt}
use Rattle.std.specs.List.{flat_map}

-- the hexadecimal digit for a number below 16
abbrev pub hex_digit : ℕ → ℕ
hex_digit d = if nat_lt d 10 then 48 + d else 97 + (d - 10)

-- a byte as JSON writes it between quotes: `"`, `\` and control characters are escaped
abbrev pub escaped : ℕ → List ℕ
escaped b =
    if b == 34 then codes "\\\""
    else if b == 92 then codes "\\\\"
    else if nat_lt b 32 then 92 ∷ 117 ∷ 48 ∷ 48 ∷ hex_digit (b / 16) ∷ hex_digit (b % 16) ∷ []
    else b ∷ []

-- the object whose only member is a text: `{"explanation": "ok"}`
unfoldable pub string_object : List ℕ → List ℕ → List ℕ
string_object name text = codes "{\"" ++ name ++ codes "\": \"" ++ flat_map escaped text ++ codes "\"}"
