-- The text of a place, and the line of an explanation.
use Rattle.description_explainer.specs.Names.{ℕ, List, [], Option, None, Some, IfSome, codes, decimal, position}
use Rattle.description_explainer.specs.Names.{unwrap_or, debug_str, list_any, Unbanked, Description, fault_number}
use Rattle.description_explainer.specs.Names.{IsOneLine, Indexed, Part, SlotFlaw, Flaw, ShapePlace, TableName, key_name}
use Rattle.std.specs.Prelude.{◌≡◌, ◌==◌, ◌||◌, if◌then◌else◌, ◌++◌}
use Rattle.recovery.specs.declared.consistency.reason.Unbanked.TheVariants as unbanked
use Rattle.description.specs.Broken.{number_at}
use Rattle.description.specs.declared.place.Flaw.TheVariants as flaw
use Rattle.description.specs.declared.flaw.Held.{Held}
use Rattle.description.specs.declared.flaw.Held.TheVariants as held
use Rattle.description.specs.declared.flaw.Indexed.TheVariants as indexed
use Rattle.description.specs.declared.flaw.Limit.{Limit}
use Rattle.description.specs.declared.flaw.Limit.TheVariants as limit
use Rattle.description.specs.declared.flaw.Misnumbered.{Misnumbered}
use Rattle.description.specs.declared.flaw.Misnumbered.TheVariants as misnumbered
use Rattle.description.specs.declared.flaw.Named.{Named}
use Rattle.description.specs.declared.flaw.Named.TheVariants as named
use Rattle.description.specs.declared.flaw.Part.TheVariants as part
use Rattle.description.specs.declared.flaw.SlotFlaw.TheVariants as slot
use Rattle.description.specs.declared.place.TableName.TheVariants as name
use Rattle.description_explainer.specs.declared.place.Place.{Place}
use Rattle.description_explainer.specs.declared.place.Place.TheVariants as place
use Rattle.description_explainer.specs.declared.place.Rule.{Rule}
use Rattle.description_explainer.specs.declared.place.Rule.TheVariants as rule
use Rattle.description_explainer.specs.Places.{fault_of}

-- ---- shapes

-- an item of a list, then this text: `bank[0], limit`
abbrev pub item_text : List ℕ → ℕ → List ℕ → List ℕ
item_text list i after = list ++ (codes "[" ++ (decimal i ++ (codes "]" ++ after)))

-- the text before a key: the table that has the key
abbrev pub table_text : TableName → List ℕ
table_text name.Whole = []
table_text (name.Bank k) = item_text (codes "bank") k (codes ", ")
table_text (name.Process k) = item_text (codes "process") k (codes ", ")
table_text (name.Node k) = item_text (codes "node") k (codes ", ")
table_text (name.Page k) = item_text (codes "page") k (codes ", ")

-- the text of a flaw: a key, or an item of the list at a key; an unknown key is quoted as `{:?}` quotes it, on one
-- line
abbrev pub IsFlawText : Flaw → List ℕ → Type 0
IsFlawText (flaw.Unknown key) text = (shown : List ℕ) × IfSome (debug_str key.now) (λ s. shown ≡ s)
    × IsOneLine shown × (text ≡ codes "key " ++ shown)
IsFlawText (flaw.Misfit key) text = text ≡ key_name key
IsFlawText (flaw.Item key i) text = text ≡ item_text (key_name key) i []

-- the text of a flaw, with its table before it
abbrev pub IsShapeText : ShapePlace → List ℕ → Type 0
IsShapeText s text = (at : List ℕ) × IsFlawText s.flaw at × (text ≡ table_text s.table ++ at)

-- ---- sizes and numbers

abbrev pub limit_text : Limit → List ℕ
limit_text limit.Nodes = codes "nodes"
limit_text limit.Pages = codes "pages"
limit_text limit.Log = codes "log"
limit_text limit.Age = codes "age"
limit_text limit.Layout = codes "layout"
limit_text limit.RangeCount = codes "ranges"
limit_text (limit.RangesEnd next) = codes "ranges"
limit_text (limit.Range i next) = item_text (codes "ranges") i []

-- the place of an object's number
abbrev pub named_text : Named → List ℕ
named_text (named.Bank k) = item_text (codes "bank") k (codes ", number")
named_text (named.Root k) = item_text (codes "process") k (codes ", root")
named_text (named.Annex k) = item_text (codes "process") k (codes ", annex")
named_text (named.Node k) = item_text (codes "node") k (codes ", number")
named_text (named.Page k) = item_text (codes "page") k (codes ", number")

-- the place of the wrong number; of two equal numbers, that of the second
abbrev pub misnumbered_text : Misnumbered → List ℕ
misnumbered_text (misnumbered.OutOfRange who) = named_text who
misnumbered_text (misnumbered.Twice who other) = named_text other

-- ---- objects

-- the number of an object, or 0 if it isn't listed
abbrev pub listed_number : Description → Named → ℕ
listed_number d who = unwrap_or (number_at d who) 0

-- the text of the process at index k of its list
abbrev pub process_text : Description → ℕ → List ℕ
process_text d k = codes "process " ++ decimal (listed_number d (named.Root k))

-- the text of the node at index k of its list
abbrev pub node_text : Description → ℕ → List ℕ
node_text d k = codes "node " ++ decimal (listed_number d (named.Node k))

-- the text of the page at index k of its list
abbrev pub page_text : Description → ℕ → List ℕ
page_text d k = codes "page " ++ decimal (listed_number d (named.Page k))

-- the text of the object with number n: of the process at index k, if there is an index; else of the node or page
-- with number n
abbrev pub part_text : Description → ℕ → Option ℕ → List ℕ
part_text d n (Some k) = process_text d k
part_text d n None =
    if list_any (λ o. o.number == n) d.nodes.items then codes "node " ++ decimal n else codes "page " ++ decimal n

-- the text of the object with number n; an annex has the text of its process
abbrev pub object_text : Description → ℕ → List ℕ
object_text d n =
    if list_any (λ b. b.number == n) d.banks.items then codes "bank " ++ decimal n
    else part_text d n (position (λ p. p.root == n || p.annex == n) d.processes.items)

-- ---- fields, capabilities and owners

-- the index of the wrong entry; of two entries with the same index, that of the second
abbrev pub indexed_entry : Indexed → ℕ
indexed_entry (indexed.OutOfRange i) = i
indexed_entry (indexed.Twice i j) = j

-- the index of the wrong slot; of two slots with the same index, that of the second
abbrev pub slot_entry : SlotFlaw → ℕ
slot_entry (slot.Index i) = indexed_entry i
slot_entry (slot.Text i) = i

-- an entry in a list of an object: `process 3, registers[0]`
abbrev pub entry_text : List ℕ → List ℕ → ℕ → List ℕ
entry_text object list i = object ++ (codes ", " ++ item_text list i [])

-- the place of a field
abbrev pub field_text : Description → Part → List ℕ
field_text d (part.State k) = process_text d k ++ codes ", state"
field_text d (part.Key k) = process_text d k ++ codes ", key"
field_text d (part.Space k) = process_text d k ++ codes ", space"
field_text d (part.Registers k why) = entry_text (process_text d k) (codes "registers") (slot_entry why)
field_text d (part.Slots k why) = entry_text (node_text d k) (codes "slots") (slot_entry why)
field_text d (part.Words k why) = entry_text (page_text d k) (codes "words") (indexed_entry why)

-- the place of a capability
abbrev pub target_text : Description → Held → List ℕ
target_text d (held.Space k) = process_text d k ++ codes ", space"
target_text d (held.Register k i) = entry_text (process_text d k) (codes "registers") i
target_text d (held.Slot k i) = entry_text (node_text d k) (codes "slots") i

-- the place of an owner
abbrev pub owner_text : Description → Unbanked → List ℕ
owner_text d unbanked.Prime = codes "bank 0"
owner_text d (unbanked.Owner n owner) = object_text d n ++ codes ", owner"
owner_text d (unbanked.Chain bank) = codes "bank " ++ decimal bank ++ codes ", owner"
owner_text d (unbanked.Limit bank used most) = codes "bank " ++ decimal bank ++ codes ", limit"

-- ---- explanations

abbrev pub rule_text : Description → Rule → List ℕ
rule_text d (rule.Limit l) = limit_text l
rule_text d (rule.Number n) = misnumbered_text n
rule_text d (rule.Field p) = field_text d p
rule_text d (rule.Target h) = target_text d h
rule_text d (rule.Owner u) = owner_text d u

-- the text of a place
abbrev pub IsPlaceText : Place → List ℕ → Type 0
IsPlaceText (place.Shape s) text = IsShapeText s text
IsPlaceText (place.Rule d r) text = text ≡ rule_text d r

-- the explanation is one line: the place, what is wrong there, and the number of the fault that `build` returns
abbrev pub IsExplanation : Place → List ℕ → Type 0
IsExplanation p text =
    (at : List ℕ) × IsPlaceText p at × (what : List ℕ) × IsOneLine text
    × (text ≡ at ++ (what ++ (codes " (bad description " ++ (decimal (fault_number (fault_of p)) ++ codes ")"))))
