-- Where a table differs from the form of a description.
use Rattle.description.specs.Names.{ℕ, zero, suc, Bool, true, false, List, [], Option, None, Some, map, codes, IsTrue}
use Rattle.description.specs.Names.{list_any, NumberRange, Capability, Void, State, Data, Items, item, no_items}
use Rattle.description.specs.Names.{Members, member, no_members, array, table, get_member, same_key, slice_get, take}
use Rattle.std.specs.Prelude.{◌≡◌, ◌∷◌, if◌then◌else◌}
use Rattle.description.specs.Reading.{AreFour, At, AtOr, HasList, IsBank, IsCapability, IsNode, IsNumber, IsPage}
use Rattle.description.specs.Reading.{IsProcess, IsRange, IsSlot, IsState, IsTable, IsWideNumber, IsWord, has_only}
use Rattle.description.specs.declared.entry.BankEntry.{BankEntry}
use Rattle.description.specs.declared.entry.NodeEntry.{NodeEntry}
use Rattle.description.specs.declared.entry.PageEntry.{PageEntry}
use Rattle.description.specs.declared.entry.ProcessEntry.{ProcessEntry}
use Rattle.description.specs.declared.entry.SlotEntry.{SlotEntry}
use Rattle.description.specs.declared.entry.WordEntry.{WordEntry}
use Rattle.description.specs.declared.place.Flaw.{Flaw}
use Rattle.description.specs.declared.place.Flaw.TheVariants.{Unknown, Misfit, Item}
use Rattle.description.specs.declared.place.Key.{Key}
use Rattle.description.specs.declared.place.Key.TheVariants.{Nodes, Pages, Log, Layout, Age, Ranges, Banks, Processes}
use Rattle.description.specs.declared.place.Key.TheVariants.{NodeList, PageList, ObjectNumber, ObjectOwner, BankLimit}
use Rattle.description.specs.declared.place.Key.TheVariants.{ProcessRoot, ProcessAnnex, ProcessState, ProcessKey}
use Rattle.description.specs.declared.place.Key.TheVariants.{ProcessWords, ProcessSpace, ProcessRegisters, NodeSlots}
use Rattle.description.specs.declared.place.Key.TheVariants.{PageWords}
use Rattle.description.specs.declared.place.ShapePlace.{ShapePlace}
use Rattle.description.specs.declared.place.TableName.{TableName}
use Rattle.description.specs.declared.place.TableName.TheVariants as name

-- the text of a key
abbrev pub key_name : Key → List ℕ
key_name Nodes = codes "nodes"
key_name Pages = codes "pages"
key_name Log = codes "log"
key_name Layout = codes "layout"
key_name Age = codes "age"
key_name Ranges = codes "ranges"
key_name Banks = codes "bank"
key_name Processes = codes "process"
key_name NodeList = codes "node"
key_name PageList = codes "page"
key_name ObjectNumber = codes "number"
key_name ObjectOwner = codes "owner"
key_name BankLimit = codes "limit"
key_name ProcessRoot = codes "root"
key_name ProcessAnnex = codes "annex"
key_name ProcessState = codes "state"
key_name ProcessKey = codes "key"
key_name ProcessWords = codes "words"
key_name ProcessSpace = codes "space"
key_name ProcessRegisters = codes "registers"
key_name NodeSlots = codes "slots"
key_name PageWords = codes "words"

-- the keys of a table, in the order of reading
abbrev pub keys_of : TableName → List Key
keys_of name.Whole = Nodes ∷ Pages ∷ Log ∷ Layout ∷ Age ∷ Ranges ∷ Banks ∷ Processes ∷ NodeList ∷ PageList ∷ []
keys_of (name.Bank i) = ObjectNumber ∷ ObjectOwner ∷ BankLimit ∷ []
keys_of (name.Process i) = ProcessRoot ∷ ProcessAnnex ∷ ObjectOwner ∷ ProcessState ∷ ProcessKey ∷ ProcessWords ∷
    ProcessSpace ∷ ProcessRegisters ∷ []
keys_of (name.Node i) = ObjectNumber ∷ ObjectOwner ∷ NodeSlots ∷ []
keys_of (name.Page i) = ObjectNumber ∷ ObjectOwner ∷ PageWords ∷ []

-- the value at the key has the key's type; or the key is missing, and has a default
abbrev pub FitsAt : Key → Members → Type 0
FitsAt Nodes ms = (n : ℕ) × At (codes "nodes") IsNumber ms n
FitsAt Pages ms = (n : ℕ) × At (codes "pages") IsNumber ms n
FitsAt Log ms = (n : ℕ) × At (codes "log") IsNumber ms n
FitsAt Layout ms = (n : ℕ) × AtOr 1 (codes "layout") IsNumber ms n
FitsAt Age ms = (n : ℕ) × AtOr 0 (codes "age") IsNumber ms n
FitsAt Ranges ms = HasList IsRange (codes "ranges") ms
FitsAt Banks ms = HasList (IsTable IsBank) (codes "bank") ms
FitsAt Processes ms = HasList (IsTable IsProcess) (codes "process") ms
FitsAt NodeList ms = HasList (IsTable IsNode) (codes "node") ms
FitsAt PageList ms = HasList (IsTable IsPage) (codes "page") ms
FitsAt ObjectNumber ms = (n : ℕ) × At (codes "number") IsNumber ms n
FitsAt ObjectOwner ms = (n : ℕ) × At (codes "owner") IsNumber ms n
FitsAt BankLimit ms = (n : ℕ) × At (codes "limit") IsWideNumber ms n
FitsAt ProcessRoot ms = (n : ℕ) × At (codes "root") IsNumber ms n
FitsAt ProcessAnnex ms = (n : ℕ) × At (codes "annex") IsNumber ms n
FitsAt ProcessState ms = (s : Option State) × At (codes "state") IsState ms s
FitsAt ProcessKey ms = (n : ℕ) × AtOr 0 (codes "key") IsNumber ms n
FitsAt ProcessWords ms = (words : List ℕ) × AtOr (0 ∷ 0 ∷ 0 ∷ 0 ∷ []) (codes "words") AreFour ms words
FitsAt ProcessSpace ms = (c : Option Capability) × AtOr (Some Void) (codes "space") IsCapability ms c
FitsAt ProcessRegisters ms = HasList IsSlot (codes "registers") ms
FitsAt NodeSlots ms = HasList IsSlot (codes "slots") ms
FitsAt PageWords ms = HasList IsWord (codes "words") ms

-- the value may be an item of the list at this key
abbrev pub IsItem : Key → Data → Type 0
IsItem Ranges d = (r : NumberRange) × IsRange d r
IsItem Banks d = (b : BankEntry) × IsTable IsBank d b
IsItem Processes d = (p : ProcessEntry) × IsTable IsProcess d p
IsItem NodeList d = (n : NodeEntry) × IsTable IsNode d n
IsItem PageList d = (p : PageEntry) × IsTable IsPage d p
IsItem ProcessRegisters d = (s : SlotEntry) × IsSlot d s
IsItem NodeSlots d = (s : SlotEntry) × IsSlot d s
IsItem PageWords d = (w : WordEntry) × IsWord d w
IsItem _ d = ⊥

-- the value lacks the form of an item of this list: it is no table, in a list of objects, or no valid item, in
-- another list
abbrev pub IsFormless : Key → Data → Type 0
IsFormless Banks d = (ms : Members) → d ≡ table ms → ⊥
IsFormless Processes d = (ms : Members) → d ≡ table ms → ⊥
IsFormless NodeList d = (ms : Members) → d ≡ table ms → ⊥
IsFormless PageList d = (ms : Members) → d ≡ table ms → ⊥
IsFormless key d = IsItem key d → ⊥

-- whether the value at this key must be a list
abbrev pub is_list : Key → Bool
is_list Ranges = true
is_list Banks = true
is_list Processes = true
is_list NodeList = true
is_list PageList = true
is_list ProcessRegisters = true
is_list NodeSlots = true
is_list PageWords = true
is_list _ = false

-- ---- the first flaw

-- the first key of a table that isn't one of these
abbrev pub first_unknown : List (List ℕ) → Members → Option (List ℕ)
first_unknown keys no_members = None
first_unknown keys (member k d ms) = if list_any (same_key k) keys then first_unknown keys ms else Some k

-- the values at all these keys fit
abbrev pub FitAll : Members → List Key → Type 0
FitAll ms [] = Unit {0}
FitAll ms (key ∷ keys) = FitsAt key ms × FitAll ms keys

-- the table has no keys but `keys`, and the values at those before `key` fit
abbrev pub FitsBefore : List Key → Members → Key → Type 0
FitsBefore keys ms key = IsTrue (has_only (map key_name keys) ms) ×
    (n : ℕ) × (slice_get keys n ≡ Some key) × FitAll ms (take n keys)

-- item i has the property `So`, and every item before it is good
abbrev pub IsFirstItem : (Data → Type 0) → (Data → Type 0) → ℕ → Items → Type 0
IsFirstItem Good So i no_items = ⊥
IsFirstItem Good So zero (item d ds) = So d
IsFirstItem Good So (suc i) (item d ds) = Good d × IsFirstItem Good So i ds

-- in the list at a key, item i has the property `So`, and every item before it is good
abbrev pub HasFirstItem : Key → (Data → Type 0) → ℕ → Members → Type 0
HasFirstItem key So i ms =
    (ds : Items) × (get_member (key_name key) ms ≡ Some (array ds)) × IsFirstItem (IsItem key) So i ds

-- the value at this key must be a list, and isn't one
abbrev pub IsUnlisted : Key → Members → Type 0
IsUnlisted key ms = IsTrue (is_list key) → (ds : Items) → get_member (key_name key) ms ≡ Some (array ds) → ⊥

-- the first flaw of a table with these keys: an unknown key; else the first key whose value doesn't fit; if that is a
-- list, its first malformed item
abbrev pub IsFirstFlaw : List Key → Members → Flaw → Type 0
IsFirstFlaw keys ms (Unknown key) = first_unknown (map key_name keys) ms ≡ Some key.now
IsFirstFlaw keys ms (Misfit key) = FitsBefore keys ms key × (FitsAt key ms → ⊥) × IsUnlisted key ms
IsFirstFlaw keys ms (Item key i) = FitsBefore keys ms key × IsTrue (is_list key) ×
    HasFirstItem key (IsFormless key) i ms

-- the first flaw of table i of the list at a key
abbrev pub IsFirstInside : Key → ℕ → List Key → Members → Flaw → Type 0
IsFirstInside key i keys ms flaw = FitsBefore (keys_of name.Whole) ms key ×
    HasFirstItem key (λ d. (t : Members) × (d ≡ table t) × IsFirstFlaw keys t flaw) i ms

-- this is the first flaw of the whole description, and `TableName` the table that has it
abbrev pub BreaksAt : Members → TableName → Flaw → Type 0
BreaksAt ms name.Whole flaw = IsFirstFlaw (keys_of name.Whole) ms flaw
BreaksAt ms (name.Bank i) flaw = IsFirstInside Banks i (keys_of (name.Bank i)) ms flaw
BreaksAt ms (name.Process i) flaw = IsFirstInside Processes i (keys_of (name.Process i)) ms flaw
BreaksAt ms (name.Node i) flaw = IsFirstInside NodeList i (keys_of (name.Node i)) ms flaw
BreaksAt ms (name.Page i) flaw = IsFirstInside PageList i (keys_of (name.Page i)) ms flaw

-- the place is the first flaw of the whole description
abbrev pub BreaksShape : Members → ShapePlace → Type 0
BreaksShape ms place = BreaksAt ms place.table place.flaw

-- the place of a key whose value is missing or doesn't fit
abbrev pub misfit : TableName → Key → ShapePlace
misfit which key = record { table = which; flaw = Misfit key }
