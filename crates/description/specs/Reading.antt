-- How a TOML table is read as a description.
use Rattle.description.specs.Names.{ℕ, pos, Bool, true, false, Option, None, Some, List, [], length, codes, IfSome}
use Rattle.description.specs.Names.{IsTrue, IsSomeAnd, MatchOption, list_any, NumberRange, IsWellFormed, named}
use Rattle.description.specs.Names.{capability_text, state_text, Capability, Void, Geometry, State, Data, integer}
use Rattle.description.specs.Names.{string, array, table, Items, no_items, item, Members, no_members, member}
use Rattle.description.specs.Names.{get_member, same_key, Number}
use Rattle.std.specs.Prelude.{◌≡◌, ◌≢◌, ◌⊎◌, ◌^◌, ◌<◌, ◌≤◌, ◌&&◌, ◌||◌, ◌∷◌}
use Rattle.description.specs.declared.entry.BankEntry.{BankEntry}
use Rattle.description.specs.declared.entry.Description.{Description}
use Rattle.description.specs.declared.entry.NodeEntry.{NodeEntry}
use Rattle.description.specs.declared.entry.PageEntry.{PageEntry}
use Rattle.description.specs.declared.entry.ProcessEntry.{ProcessEntry}
use Rattle.description.specs.declared.entry.SlotEntry.{SlotEntry}
use Rattle.description.specs.declared.entry.WordEntry.{WordEntry}
use Rattle.description.specs.declared.object.ProcessFields.{ProcessFields}

-- ---- values

-- the value is the text of this capability, whose numbers have 64 bits; or, for `None`, a text that names no
-- capability
abbrev pub IsCapability : Data → Option Capability → Type 0
IsCapability d (Some c) = IsWellFormed c × IfSome (named c) (λ n. n < 2 ^ 64) × (d ≡ string (capability_text c))
IsCapability d None = (text : List ℕ) × (d ≡ string text) ×
    ((c : Capability) → IsWellFormed c → IfSome (named c) (λ n. n < 2 ^ 64) → capability_text c ≢ text)

-- the value is this number, as a TOML integer below 2^63
abbrev pub IsNumber : Data → ℕ → Type 0
IsNumber d n = (n < 2 ^ 63) × (d ≡ integer (pos n))

-- the value is this number of 64 bits, such as a word or a limit: if it is below 2^63 an integer, else the text of
-- a number capability
unfoldable pub IsWideNumber : Data → ℕ → Type 0
IsWideNumber d n = IsNumber d n ⊎ ((2 ^ 63 ≤ n) × IsCapability d (Some (Number n)))

-- the value is the text of this state; or, for `None`, a text that names no state
abbrev pub IsState : Data → Option State → Type 0
IsState d (Some s) = d ≡ string (state_text s)
IsState d None = (text : List ℕ) × (d ≡ string text) × ((s : State) → state_text s ≢ text)

-- a list of two values
abbrev pub IsPair : {A B : Type 0} → (Data → A → Type 0) → (Data → B → Type 0) → Data → A → B → Type 0
IsPair P Q d x y = (a : Data) × (b : Data) × (d ≡ array (item a (item b no_items))) × P a x × Q b y

-- the values are read as these items, one by one
abbrev pub AreItems : {A : Type 0} → (Data → A → Type 0) → Items → List A → Type 0
AreItems P no_items [] = Unit {0}
AreItems P no_items (x ∷ xs) = ⊥
AreItems P (item d ds) [] = ⊥
AreItems P (item d ds) (x ∷ xs) = P d x × AreItems P ds xs

-- the value is a list that is read as these items
abbrev pub IsList : {A : Type 0} → (Data → A → Type 0) → Data → List A → Type 0
IsList P d xs = (ds : Items) × (d ≡ array ds) × AreItems P ds xs

-- a list of four words
abbrev pub AreFour : Data → List ℕ → Type 0
AreFour d xs = (length xs ≡ 4) × IsList IsWideNumber d xs

abbrev pub IsTable : {A : Type 0} → (Members → A → Type 0) → Data → A → Type 0
IsTable P d x = (ms : Members) × (d ≡ table ms) × P ms x

-- ---- keys

-- whether a table has no keys but these
abbrev pub has_only : List (List ℕ) → Members → Bool
has_only keys no_members = true
has_only keys (member k d ms) = list_any (same_key k) keys && has_only keys ms

-- whether a table has this key
abbrev pub has_key : List ℕ → Members → Bool
has_key key no_members = false
has_key key (member k d ms) = same_key key k || has_key key ms

-- the table has this key, and its value is read as x
abbrev pub At : {A : Type 0} → List ℕ → (Data → A → Type 0) → Members → A → Type 0
At key P ms x = IsSomeAnd (get_member key ms) (λ d. P d x)

-- the value at this key is read as x; if the table lacks the key, x is the default
abbrev pub AtOr : {A : Type 0} → A → List ℕ → (Data → A → Type 0) → Members → A → Type 0
AtOr default key P ms x = MatchOption (get_member key ms) (x ≡ default) (λ d. P d x)

-- if the table has this key, its value is a list of entries
abbrev pub HasList : {A : Type 0} → (Data → A → Type 0) → List ℕ → Members → Type 0
HasList {A = A} P key ms = (xs : List A) × AtOr [] key (IsList P) ms xs

-- ---- entries

abbrev pub IsSlot : Data → SlotEntry → Type 0
IsSlot d e = IsPair IsNumber IsCapability d e.index e.capability

abbrev pub IsWord : Data → WordEntry → Type 0
IsWord d e = IsPair IsNumber IsWideNumber d e.index e.word

abbrev pub IsRange : Data → NumberRange → Type 0
IsRange d r = IsPair IsNumber IsNumber d r.first r.count

pub record IsBank (ms : Members) (bank : BankEntry) : Type 0 where
  pub known : IsTrue (has_only (codes "number" ∷ codes "owner" ∷ codes "limit" ∷ []) ms)
  pub number : At (codes "number") IsNumber ms bank.number
  pub owner : At (codes "owner") IsNumber ms bank.owner
  pub limit : At (codes "limit") IsWideNumber ms bank.limit

-- the fields of a process other than its registers
pub record HasProcessFields (ms : Members) (fields : ProcessFields) : Type 0 where
  pub known : IsTrue (has_only
      (codes "root" ∷ codes "annex" ∷ codes "owner" ∷ codes "state" ∷ codes "key" ∷ codes "words" ∷ codes "space" ∷
      codes "registers" ∷ []) ms)
  pub root : At (codes "root") IsNumber ms fields.root
  pub annex : At (codes "annex") IsNumber ms fields.annex
  pub owner : At (codes "owner") IsNumber ms fields.owner
  pub state : At (codes "state") IsState ms fields.state
  pub key : AtOr 0 (codes "key") IsNumber ms fields.key
  pub words : AtOr (0 ∷ 0 ∷ 0 ∷ 0 ∷ []) (codes "words") AreFour ms fields.words
  pub space : AtOr (Some Void) (codes "space") IsCapability ms fields.space

pub record IsProcess (ms : Members) (process : ProcessEntry) : Type 0 where
  pub known : IsTrue (has_only
      (codes "root" ∷ codes "annex" ∷ codes "owner" ∷ codes "state" ∷ codes "key" ∷ codes "words" ∷ codes "space" ∷
      codes "registers" ∷ []) ms)
  pub root : At (codes "root") IsNumber ms process.root
  pub annex : At (codes "annex") IsNumber ms process.annex
  pub owner : At (codes "owner") IsNumber ms process.owner
  pub state : At (codes "state") IsState ms process.state
  pub key : AtOr 0 (codes "key") IsNumber ms process.key
  pub words : AtOr (0 ∷ 0 ∷ 0 ∷ 0 ∷ []) (codes "words") AreFour ms process.words
  pub space : AtOr (Some Void) (codes "space") IsCapability ms process.space
  pub registers : AtOr [] (codes "registers") (IsList IsSlot) ms process.registers.items

-- the table has the keys `number` and `owner`, and no others except perhaps `other`
pub record HasNumberAndOwner (other : List ℕ) (ms : Members) (numbers : ℕ × ℕ) : Type 0 where
  pub known : IsTrue (has_only (codes "number" ∷ codes "owner" ∷ other ∷ []) ms)
  pub number : At (codes "number") IsNumber ms numbers.0
  pub owner : At (codes "owner") IsNumber ms numbers.1

pub record IsNode (ms : Members) (node : NodeEntry) : Type 0 where
  pub known : IsTrue (has_only (codes "number" ∷ codes "owner" ∷ codes "slots" ∷ []) ms)
  pub number : At (codes "number") IsNumber ms node.number
  pub owner : At (codes "owner") IsNumber ms node.owner
  pub slots : AtOr [] (codes "slots") (IsList IsSlot) ms node.slots.items

pub record IsPage (ms : Members) (page : PageEntry) : Type 0 where
  pub known : IsTrue (has_only (codes "number" ∷ codes "owner" ∷ codes "words" ∷ []) ms)
  pub number : At (codes "number") IsNumber ms page.number
  pub owner : At (codes "owner") IsNumber ms page.owner
  pub words : AtOr [] (codes "words") (IsList IsWord) ms page.words.items

pub record IsGeometry (ms : Members) (g : Geometry) : Type 0 where
  pub nodes : At (codes "nodes") IsNumber ms g.nodes
  pub pages : At (codes "pages") IsNumber ms g.pages
  pub log : At (codes "log") IsNumber ms g.log

-- two ranges: all nodes, and all pages
abbrev pub whole_ranges : Geometry → List NumberRange
whole_ranges g = record { first = 0; count = g.nodes } ∷ record { first = g.nodes; count = g.pages } ∷ []

-- the table is read as this description
pub record IsDescription (ms : Members) (d : Description) : Type 0 where
  pub known : IsTrue (has_only
      (codes "nodes" ∷ codes "pages" ∷ codes "log" ∷ codes "layout" ∷ codes "age" ∷ codes "ranges" ∷ codes "bank" ∷
      codes "process" ∷ codes "node" ∷ codes "page" ∷ []) ms)
  pub geometry : IsGeometry ms d.geometry
  pub layout : AtOr 1 (codes "layout") IsNumber ms d.layout
  pub age : AtOr 0 (codes "age") IsNumber ms d.age
  pub ranges : AtOr (whole_ranges d.geometry) (codes "ranges") (IsList IsRange) ms d.ranges.items
  pub banks : AtOr [] (codes "bank") (IsList (IsTable IsBank)) ms d.banks.items
  pub processes : AtOr [] (codes "process") (IsList (IsTable IsProcess)) ms d.processes.items
  pub nodes : AtOr [] (codes "node") (IsList (IsTable IsNode)) ms d.nodes.items
  pub pages : AtOr [] (codes "page") (IsList (IsTable IsPage)) ms d.pages.items
