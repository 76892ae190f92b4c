-- An object as numbers.
use Rattle.vezhnake.specs.Names.{ℕ, List, [], map, replicate, Option, None, Some, access_bits, tag_of, height_of}
use Rattle.vezhnake.specs.Names.{key_of, number_of, state_number, Answer, Description, Capability, Void}
use Rattle.std.specs.Prelude.{◌∷◌}
use Rattle.model.specs.declared.answer.Answer.TheVariants as answer
use Rattle.model.specs.declared.object.Content.TheVariants as content
use Rattle.vezhnake.specs.declared.raw_object.RawCapability.{RawCapability}
use Rattle.vezhnake.specs.declared.raw_object.RawObject.{RawObject}

-- a capability as numbers
abbrev pub raw_capability : Capability → RawCapability
raw_capability c = record { kind = tag_of c; access = access_bits c; height = height_of c; key = key_of c; object = number_of c }

-- 32 void capabilities
abbrev pub void_slots : List RawCapability
void_slots = replicate 32 (raw_capability Void)

-- the registers of a process as numbers; void if they are unknown
abbrev pub raw_registers : Option (List Capability) → List RawCapability
raw_registers None = void_slots
raw_registers (Some registers) = map raw_capability registers

-- an object as numbers, if it has only a kind and an owner
abbrev pub plain_object : ℕ → ℕ → RawObject
plain_object kind owner = record {
  kind = kind;
  state = 0;
  key = 0;
  owner = owner;
  annex = 0;
  words = 0 ∷ 0 ∷ 0 ∷ 0 ∷ [];
  limit = 0;
  used = 0;
  space = raw_capability Void;
  slots = void_slots;
}

-- an object as numbers
abbrev pub object_of : Description → RawObject
object_of d = elim d.object.content [
  | content.Free ↦ plain_object 0 d.object.owner
  | content.Page words ↦ plain_object 1 d.object.owner
  | content.Node slots ↦ record (plain_object 2 d.object.owner) { slots = map raw_capability slots }
  | content.Root r ↦ record (plain_object 3 d.object.owner) {
    state = state_number r.state;
    key = r.key;
    annex = r.annex;
    words = r.words;
    space = raw_capability r.space;
    slots = raw_registers d.registers;
  }
  | content.Annex slots ↦ record (plain_object 4 d.object.owner) { slots = map raw_capability slots }
  | content.Bank limit ↦ record (plain_object 5 d.object.owner) { limit = limit; used = d.used }
]

-- if the answer shows a page, its words; else the old words
abbrev pub shown_words : Answer → List ℕ → List ℕ
shown_words (answer.Shown d) before = elim d.object.content [ content.Page words ↦ words | _ ↦ before ]
shown_words _ before = before

-- if the answer shows an object, its numbers; else the old ones
abbrev pub shown_object : Answer → RawObject → RawObject
shown_object (answer.Shown d) before = object_of d
shown_object _ before = before
