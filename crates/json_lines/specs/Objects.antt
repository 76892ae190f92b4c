-- Objects in JSON, one in a line. Quoted texts have only letters, digits and spaces, so none is escaped.
use Rattle.std.specs.Prelude.{ℕ, List, [], codes, decimal, ◌++◌, ◌∷◌}
use Rattle.std.specs.List.{flat_map}
use Rattle.model.specs.Text.{spaced}
unfoldable use Rattle.model.specs.Text.{capability_text}
use Rattle.json_lines.specs.declared.format.Format.{Format}
use Rattle.json_lines.specs.declared.format.Format.TheVariants as format
use Rattle.json_lines.specs.declared.key.Key.{Key}
use Rattle.json_lines.specs.declared.key.Key.TheVariants as key
use Rattle.json_lines.specs.declared.object.Member.{Member}
use Rattle.json_lines.specs.declared.object.Member.TheVariants as member

abbrev pub key_text : Key → List ℕ
key_text key.Age = codes "age"
key_text key.Annex = codes "annex"
key_text key.CanChange = codes "can_change"
key_text key.CanRead = codes "can_read"
key_text key.Capability = codes "capability"
key_text key.Count = codes "count"
key_text key.Entries = codes "entries"
key_text key.Limit = codes "limit"
key_text key.Number = codes "number"
key_text key.Owner = codes "owner"
key_text key.Owns = codes "owns"
key_text key.Reason = codes "reason"
key_text key.Register = codes "register"
key_text key.Slot = codes "slot"
key_text key.Space = codes "space"

abbrev pub quoted : List ℕ → List ℕ
quoted text = codes "\"" ++ text ++ codes "\""

-- a name and its value: `"age": 5`
abbrev pub named_value : List ℕ → List ℕ → List ℕ
named_value name value = quoted name ++ codes ": " ++ value

-- a member of an object: its name and value
abbrev pub member_text : Member → List ℕ
member_text (member.Number k n) = named_value (key_text k) (decimal n)
member_text (member.Capability k c) = named_value (key_text k) (quoted (capability_text c))
member_text (member.No k) = named_value (key_text k) (codes "false")

-- a member after the first
abbrev pub next_text : Member → List ℕ
next_text m = codes ", " ++ member_text m

-- the members after the first, and the end of the object
abbrev pub rest_text : List Member → List ℕ
rest_text rest = flat_map next_text rest ++ codes "}"

-- an object whose first member is a text
abbrev pub text_object : List ℕ → List ℕ → List Member → List ℕ
text_object name text rest = codes "{" ++ named_value name (quoted text) ++ rest_text rest

-- an object whose first member is a number
abbrev pub number_object : List ℕ → ℕ → List Member → List ℕ
number_object name n rest = codes "{" ++ named_value name (decimal n) ++ rest_text rest

-- a name and its number as a line in this format: `closed 3`, or `{"closed": 3}`
abbrev pub number_line : Format → List ℕ → ℕ → List ℕ
number_line format.Text name n = spaced (name ∷ decimal n ∷ [])
number_line format.Json name n = number_object name n []
