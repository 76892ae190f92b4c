-- The lines that print a closed set, and why members are in it.
use Rattle.reach.specs.Names.{ℕ, Bool, false, not, List, [], codes, decimal, count_by, enumerate_from, flat_map}
use Rattle.reach.specs.Names.{is_marked, Capability, Process, Start, Resume, Bank, Object, slots_in, capability_text}
use Rattle.reach.specs.Names.{line_of, spaced, content_at, Format, Key, Member, key_text, number_line, text_object}
use Rattle.std.specs.Prelude.{◌==◌, if◌then◌else◌, ◌∷◌, ◌++◌}
use Rattle.json_lines.specs.declared.format.Format.TheVariants as format
use Rattle.json_lines.specs.declared.key.Key.TheVariants as key
use Rattle.json_lines.specs.declared.object.Member.TheVariants as member
use Rattle.model.specs.declared.object.Content.TheVariants as content

-- the words that `show` begins an object with
abbrev pub words_of : ℕ → Object → List (List ℕ)
words_of n o = elim o.content [
  | content.Free ↦ codes "free" ∷ decimal n ∷ []
  | content.Page words ↦ codes "page" ∷ decimal n ∷ codes "owner" ∷ decimal o.owner ∷ []
  | content.Node slots ↦ codes "node" ∷ decimal n ∷ codes "owner" ∷ decimal o.owner ∷ []
  | content.Annex registers ↦ codes "annex" ∷ decimal n ∷ codes "owner" ∷ decimal o.owner ∷ []
  | content.Root root ↦ codes "process" ∷ decimal n ∷ codes "owner" ∷ decimal o.owner ∷ codes "annex" ∷ decimal
      root.annex ∷ []
  | content.Bank limit ↦ codes "bank" ∷ decimal n ∷ codes "owner" ∷ decimal o.owner ∷ codes "limit" ∷ decimal limit ∷ []
]

-- the beginning of an object in JSON: `{"kind": "process", "number": 3`
abbrev pub kind_object : List ℕ → ℕ → List Member → List ℕ
kind_object kind n rest = text_object (codes "kind") kind (member.Number key.Number n ∷ rest)

-- an object in JSON, with the values that its line in words has
abbrev pub object_json : ℕ → Object → List ℕ
object_json n o = elim o.content [
  | content.Free ↦ kind_object (codes "free") n []
  | content.Page words ↦ kind_object (codes "page") n (member.Number key.Owner o.owner ∷ [])
  | content.Node slots ↦ kind_object (codes "node") n (member.Number key.Owner o.owner ∷ [])
  | content.Annex registers ↦ kind_object (codes "annex") n (member.Number key.Owner o.owner ∷ [])
  | content.Root root ↦ kind_object (codes "process") n
      (member.Number key.Owner o.owner ∷ member.Number key.Annex root.annex ∷ [])
  | content.Bank limit ↦ kind_object (codes "bank") n
      (member.Number key.Owner o.owner ∷ member.Number key.Limit limit ∷ [])
]

-- the line of an object in a format
abbrev pub object_text : Format → ℕ → Object → List ℕ
object_text format.Text n o = spaced (words_of n o)
object_text format.Json n o = object_json n o

-- the line of a member; nothing for any other object
abbrev pub member_line : Format → List Bool → ℕ × Object → List ℕ
member_line f marks p = if is_marked marks p.0 then line_of (object_text f p.0 p.1) else []

-- whether a capability of object n pulls another process or bank into the set
abbrev pub pulls : ℕ → Capability → Bool
pulls n (Process p) = not (p == n)
pulls n (Start p key) = not (p == n)
pulls n (Resume p) = not (p == n)
pulls n (Bank b) = not (b == n)
pulls n _ = false

-- a capability that an object holds: `process 3, register 2: bank 6`
abbrev pub held_text : Format → List ℕ → ℕ → Key → ℕ → Capability → List ℕ
held_text format.Text name n place i c = spaced
    (name ∷ (decimal n ++ codes ",") ∷ key_text place ∷ (decimal i ++ codes ":") ∷ capability_text c ∷ [])
held_text format.Json name n place i c = kind_object name n
    (member.Number place i ∷ member.Capability key.Capability c ∷ [])

-- the line of a capability, if it pulls another process or bank into the set
abbrev pub pull_line : Format → List ℕ → ℕ → Key → ℕ × Capability → List ℕ
pull_line f name n place p = if pulls n p.1 then line_of (held_text f name n place p.0 p.1) else []

-- a line for each of these capabilities that pulls a process or bank into the set
abbrev pub pull_lines : Format → List ℕ → ℕ → Key → List Capability → List ℕ
pull_lines f name n place capabilities = flat_map (pull_line f name n place) (enumerate_from 0 capabilities)

-- a line for each capability of an object that pulls a process or bank into the set; a process has
-- its annex's registers
abbrev pub object_pulls : Format → List Object → ℕ → Object → List ℕ
object_pulls f os n o = elim o.content [
  | content.Node slots ↦ pull_lines f (codes "node") n key.Slot slots
  | content.Root root ↦ pull_lines f (codes "process") n key.Register (slots_in (content_at os root.annex))
  | _ ↦ []
]

-- the lines of `object_pulls`, if the object is a member
abbrev pub member_pulls : Format → List Object → List Bool → ℕ × Object → List ℕ
member_pulls f os marks p = if is_marked marks p.0 then object_pulls f os p.0 p.1 else []

-- the lines of the members in rising order, then this word and their count
abbrev pub counted_text : Format → List ℕ → List Object → List Bool → List ℕ
counted_text f word os marks = flat_map (member_line f marks) (enumerate_from 0 os)
    ++ line_of (number_line f word (count_by (λ b. b) marks))

-- the lines of processes, then `processes` and their count
abbrev pub changers_text : Format → List Object → List Bool → List ℕ
changers_text f os marks = counted_text f (codes "processes") os marks

-- the lines of the members, `closed` and their count, then the capabilities that pull processes and banks into the set
unfoldable pub reach_text : Format → List Object → List Bool → List ℕ
reach_text f os marks = counted_text f (codes "closed") os marks
    ++ flat_map (member_pulls f os marks) (enumerate_from 0 os)
