-- The text of a description, in TOML.
use Rattle.image_describer.specs.Names.{ℕ, nat_lt, Bool, false, Option, None, Some, List, [], codes, decimal, unwrap_or}
use Rattle.image_describer.specs.Names.{flat_map, join_by, list_all, NumberRange, Capability, Void, Number, Geometry}
use Rattle.image_describer.specs.Names.{State, capability_text, line_of, state_text, BankEntry, Description, NodeEntry}
use Rattle.image_describer.specs.Names.{PageEntry, ProcessEntry, SlotEntry, WordEntry}
use Rattle.std.specs.Prelude.{◌^◌, ◌==◌, ◌&&◌, if◌then◌else◌, ◌∷◌, ◌++◌}

-- ---- values

-- a text in quotes
abbrev pub quoted : List ℕ → List ℕ
quoted text = codes "\"" ++ text ++ codes "\""

-- a number of 64 bits: an integer below 2^63; from there on, where TOML has no integers, the text of a number
-- capability
abbrev pub wide_text : ℕ → List ℕ
wide_text n = if nat_lt n (2 ^ 63) then decimal n else quoted (capability_text (Number n))

-- a capability in quotes
abbrev pub held_text : Option Capability → List ℕ
held_text c = quoted (capability_text (unwrap_or c Void))

-- a state in quotes
abbrev pub state_value : Option State → List ℕ
state_value None = quoted []
state_value (Some state) = quoted (state_text state)

-- a list of values
abbrev pub list_text : {A : Type 0} → (A → List ℕ) → List A → List ℕ
list_text f xs = codes "[" ++ join_by f (codes ", ") xs ++ codes "]"

-- a list of two values
abbrev pub pair_text : List ℕ → List ℕ → List ℕ
pair_text first second = codes "[" ++ first ++ codes ", " ++ second ++ codes "]"

abbrev pub slot_text : SlotEntry → List ℕ
slot_text s = pair_text (decimal s.index) (held_text s.capability)

abbrev pub word_text : WordEntry → List ℕ
word_text w = pair_text (decimal w.index) (wide_text w.word)

abbrev pub range_text : NumberRange → List ℕ
range_text r = pair_text (decimal r.first) (decimal r.count)

-- ---- keys

-- a key and the text of its value, if it isn't omitted
abbrev pub Field : Type 0
Field = List ℕ × Option (List ℕ)

-- the line of a key; nothing if its value is omitted
abbrev pub field_line : Field → List ℕ
field_line (key, None) = []
field_line (key, Some value) = line_of (key ++ codes " = " ++ value)

-- the lines of all keys
abbrev pub field_lines : List Field → List ℕ
field_lines fields = flat_map field_line fields

-- an empty line, then the line that begins an object
abbrev pub begin_line : List ℕ → List ℕ
begin_line name = codes "\n[[" ++ name ++ codes "]]\n"

-- a value, omitted if it is the default
abbrev pub unless : Bool → List ℕ → Option (List ℕ)
unless is_default value = if is_default then None else Some value

abbrev pub number_unless : ℕ → ℕ → Option (List ℕ)
number_unless default n = unless (n == default) (decimal n)

abbrev pub words_unless_zeros : List ℕ → Option (List ℕ)
words_unless_zeros words = unless (list_all (λ w. w == 0) words) (list_text wide_text words)

abbrev pub space_unless_void : Option Capability → Option (List ℕ)
space_unless_void (Some Void) = None
space_unless_void space = Some (held_text space)

abbrev pub list_unless_empty : {A : Type 0} → (A → List ℕ) → List A → Option (List ℕ)
list_unless_empty f [] = None
list_unless_empty f (x ∷ xs) = Some (list_text f (x ∷ xs))

-- whether a range has this first number and this count
abbrev pub is_range : NumberRange → ℕ → ℕ → Bool
is_range r n count = r.first == n && r.count == count

-- whether there are two ranges: all nodes, and all pages
abbrev pub are_whole : Geometry → List NumberRange → Bool
are_whole g (n ∷ p ∷ []) = is_range n 0 g.nodes && is_range p g.nodes g.pages
are_whole g _ = false

-- ---- objects

abbrev pub bank_fields : BankEntry → List Field
bank_fields b = (codes "number", Some (decimal b.number)) ∷ (codes "owner", Some (decimal b.owner)) ∷
    (codes "limit", Some (wide_text b.limit)) ∷ []

abbrev pub process_fields : ProcessEntry → List Field
process_fields p =
    (codes "root", Some (decimal p.root)) ∷ (codes "annex", Some (decimal p.annex)) ∷
    (codes "owner", Some (decimal p.owner))
    ∷ (codes "state", Some (state_value p.state)) ∷ (codes "key", number_unless 0 p.key) ∷
    (codes "words", words_unless_zeros p.words)
    ∷ (codes "space", space_unless_void p.space) ∷ (codes "registers", list_unless_empty slot_text p.registers.items) ∷
    []

abbrev pub node_fields : NodeEntry → List Field
node_fields n = (codes "number", Some (decimal n.number)) ∷ (codes "owner", Some (decimal n.owner)) ∷
    (codes "slots", list_unless_empty slot_text n.slots.items) ∷ []

abbrev pub page_fields : PageEntry → List Field
page_fields p = (codes "number", Some (decimal p.number)) ∷ (codes "owner", Some (decimal p.owner)) ∷
    (codes "words", list_unless_empty word_text p.words.items) ∷ []

abbrev pub bank_text : BankEntry → List ℕ
bank_text b = begin_line (codes "bank") ++ field_lines (bank_fields b)

abbrev pub process_text : ProcessEntry → List ℕ
process_text p = begin_line (codes "process") ++ field_lines (process_fields p)

abbrev pub node_text : NodeEntry → List ℕ
node_text n = begin_line (codes "node") ++ field_lines (node_fields n)

abbrev pub page_text : PageEntry → List ℕ
page_text p = begin_line (codes "page") ++ field_lines (page_fields p)

-- ---- the whole

abbrev pub image_fields : Description → List Field
image_fields d =
    (codes "nodes", Some (decimal d.geometry.nodes)) ∷ (codes "pages", Some (decimal d.geometry.pages)) ∷
    (codes "log", Some (decimal d.geometry.log))
    ∷ (codes "layout", number_unless 1 d.layout) ∷ (codes "age", number_unless 0 d.age)
    ∷ (codes "ranges", unless (are_whole d.geometry d.ranges.items) (list_text range_text d.ranges.items)) ∷ []

-- the keys of the whole image, then its objects
unfoldable pub description_text : Description → List ℕ
description_text d = field_lines (image_fields d) ++ flat_map bank_text d.banks.items ++ flat_map process_text
    d.processes.items
    ++ flat_map node_text d.nodes.items ++ flat_map page_text d.pages.items
