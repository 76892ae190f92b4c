-- The first place where a description breaks a rule, other than the rules of its shape and its fields.
use Rattle.description.specs.Names.{ℕ, Bool, true, false, List, [], Option, None, Some, length, option_map, slice_get}
use Rattle.description.specs.Names.{take, IsSomeAnd, All, Capability, Frame, Geometry, object_count, IsNext, IsGeometry}
use Rattle.description.specs.Names.{version_number, Version, placed, NumberRange, NamesItsRole, IsTarget}
use Rattle.std.specs.Prelude.{◌≡◌, ◌⊎◌, ◌+◌, ◌^◌, ◌<◌, ◌≤◌, ◌∷◌, ◌++◌}
use Rattle.description.specs.Described.{HasFields, HasNumbers, IsDescribed, node_numbers, page_numbers}
use Rattle.description.specs.FieldFlaws.{BreaksField, IsFirst, IsFirstTwice, IsOutside}
use Rattle.description.specs.declared.entry.Description.{Description}
use Rattle.description.specs.declared.entry.NodeEntry.{NodeEntry}
use Rattle.description.specs.declared.entry.ProcessEntry.{ProcessEntry}
use Rattle.description.specs.declared.entry.SlotEntry.{SlotEntry}
use Rattle.description.specs.declared.flaw.Held.{Held}
use Rattle.description.specs.declared.flaw.Held.TheVariants as held
use Rattle.description.specs.declared.flaw.Limit.{Limit}
use Rattle.description.specs.declared.flaw.Limit.TheVariants as limit
use Rattle.description.specs.declared.flaw.Misnumbered.{Misnumbered}
use Rattle.description.specs.declared.flaw.Misnumbered.TheVariants as misnumbered
use Rattle.description.specs.declared.flaw.Named.{Named}
use Rattle.description.specs.declared.flaw.Named.TheVariants as named
use Rattle.description.specs.declared.flaw.WorldFault.{WorldFault}
use Rattle.description.specs.declared.flaw.WorldFault.TheVariants as fault

-- ---- sizes

-- how many numbers these ranges have together
abbrev pub count_in : List NumberRange → ℕ
count_in [] = 0
count_in (r ∷ rs) = r.count + count_in rs

-- a range isn't empty, begins at `next`, has numbers of one kind, and ends within the numbers of objects
abbrev pub GoesOn : Geometry → NumberRange → ℕ → Type 0
GoesOn g r next = IsNext g (placed 0 r) next × (next + r.count ≤ object_count g)

-- a count of nodes that an image may have
abbrev pub HasNodes : Geometry → Type 0
HasNodes g = (16 ≤ g.nodes) × (g.nodes ≤ 4096)

-- a count of pages that an image may have
abbrev pub HasPages : Geometry → Type 0
HasPages g = (1 ≤ g.pages) × (g.pages ≤ 4096)

-- a count of log slots that an image may have
abbrev pub HasLog : Geometry → Type 0
HasLog g = (16 ≤ g.log) × (g.log ≤ 4096)

-- the first of the counts of nodes, pages and log slots that is outside its limits
abbrev pub BreaksGeometry : Geometry → Limit → Type 0
BreaksGeometry g limit.Nodes = HasNodes g → ⊥
BreaksGeometry g limit.Pages = HasNodes g × (HasPages g → ⊥)
BreaksGeometry g limit.Log = HasNodes g × HasPages g × (HasLog g → ⊥)
BreaksGeometry g _ = ⊥

-- each range before `index` begins where the one before it ends, as `GoesOn` requires
abbrev pub GoOn : Geometry → List NumberRange → ℕ → Type 0
GoOn g rs index =
    (i : ℕ) → i < index → IsSomeAnd (slice_get rs i) (λ r. GoesOn g r (count_in (take i rs)))

-- a count of ranges that an image may have
abbrev pub HasRanges : List NumberRange → Type 0
HasRanges rs = (1 ≤ length rs) × (length rs ≤ 8)

-- what is wrong with the ranges: their number; the first one that doesn't go on as `GoesOn` requires; or that they
-- end too early
abbrev pub BreaksRanges : Geometry → List NumberRange → Limit → Type 0
BreaksRanges g rs limit.RangeCount = HasRanges rs → ⊥
BreaksRanges g rs (limit.Range index next) = HasRanges rs × GoOn g rs index × (next ≡ count_in (take index rs))
    × IsSomeAnd (slice_get rs index) (λ r. GoesOn g r next → ⊥)
BreaksRanges g rs (limit.RangesEnd next) =
    HasRanges rs × GoOn g rs (length rs) × (next ≡ count_in rs) × (next < object_count g)
BreaksRanges g rs _ = ⊥

-- the first size outside its limits: nodes, pages, log, age, layout, ranges, in this order
abbrev pub BreaksLimit : Description → Limit → Type 0
BreaksLimit d limit.Nodes = BreaksGeometry d.geometry limit.Nodes
BreaksLimit d limit.Pages = BreaksGeometry d.geometry limit.Pages
BreaksLimit d limit.Log = BreaksGeometry d.geometry limit.Log
BreaksLimit d limit.Age = IsGeometry d.geometry × (2 ^ 62 < d.age)
BreaksLimit d limit.Layout = IsGeometry d.geometry × (d.age ≤ 2 ^ 62)
    × ((v : Version) → d.layout ≡ version_number v → ⊥)
BreaksLimit d l = IsGeometry d.geometry × (d.age ≤ 2 ^ 62)
    × ((v : Version) × (d.layout ≡ version_number v))
    × BreaksRanges d.geometry d.ranges.items l

-- ---- numbers

-- the number of an object, if the description has this object
abbrev pub number_at : Description → Named → Option ℕ
number_at d (named.Bank k) = option_map (λ b. b.number) (slice_get d.banks.items k)
number_at d (named.Root k) = option_map (λ p. p.root) (slice_get d.processes.items k)
number_at d (named.Annex k) = option_map (λ p. p.annex) (slice_get d.processes.items k)
number_at d (named.Node k) = option_map (λ n. n.number) (slice_get d.nodes.items k)
number_at d (named.Page k) = option_map (λ p. p.number) (slice_get d.pages.items k)

-- the place of an object's number in the list of all numbers: banks, roots, annexes, nodes, pages
abbrev pub place_of : Description → Named → ℕ
place_of d (named.Bank k) = k
place_of d (named.Root k) = length d.banks.items + k
place_of d (named.Annex k) = length d.banks.items + length d.processes.items + k
place_of d (named.Node k) = length d.banks.items + length d.processes.items + length d.processes.items + k
place_of d (named.Page k) = length (node_numbers d) + k

-- the description has this object
abbrev pub IsListed : Description → Named → Type 0
IsListed d who = (n : ℕ) × (number_at d who ≡ Some n)

-- whether an object is a bank, a root, an annex or a node
abbrev pub is_node : Named → Bool
is_node (named.Page k) = false
is_node who = true

-- the object's number is the first that is outside the range for its kind
abbrev pub IsFirstOutside : Description → Named → Type 0
IsFirstOutside d (named.Page k) = All (λ n. n < d.geometry.nodes) (node_numbers d)
    × IsOutside d.geometry.nodes (object_count d.geometry) (page_numbers d) k
IsFirstOutside d who = IsOutside 0 d.geometry.nodes (node_numbers d) (place_of d who)

-- the first number outside its range; if there is none, the first that occurs twice, with both places
abbrev pub BreaksNumber : Description → Misnumbered → Type 0
BreaksNumber d (misnumbered.OutOfRange who) = IsListed d who × IsFirstOutside d who
BreaksNumber d (misnumbered.Twice who other) = IsListed d who × IsListed d other
    × All (λ n. n < d.geometry.nodes) (node_numbers d)
    × All (λ n. (d.geometry.nodes ≤ n) × (n < object_count d.geometry)) (page_numbers d)
    × IsFirstTwice (node_numbers d ++ page_numbers d) (place_of d who) (place_of d other)

-- ---- capabilities

-- the process or node at this place holds capability c
abbrev pub HoldsAt : Description → Held → Capability → Type 0
HoldsAt d (held.Space k) c = IsSomeAnd (slice_get d.processes.items k) (λ p. p.space ≡ Some c)
HoldsAt d (held.Register k i) c = IsSomeAnd (slice_get d.processes.items k)
    (λ p. IsSomeAnd (slice_get p.registers.items i) (λ s. s.capability ≡ Some c))
HoldsAt d (held.Slot k i) c = IsSomeAnd (slice_get d.nodes.items k)
    (λ n. IsSomeAnd (slice_get n.slots.items i) (λ s. s.capability ≡ Some c))

-- if there is a capability, it has P
abbrev pub IfNamed : (Capability → Type 0) → Option Capability → Type 0
IfNamed P None = Unit {0}
IfNamed P (Some c) = P c

-- there is a capability, and it lacks P
abbrev pub LacksIt : (Capability → Type 0) → Option Capability → Type 0
LacksIt P None = ⊥
LacksIt P (Some c) = P c → ⊥

-- all capabilities of a list have P
abbrev pub AllIn : (Capability → Type 0) → List SlotEntry → Type 0
AllIn P slots = All (λ s. IfNamed P s.capability) slots

-- all capabilities of a process have P: its address space and its registers
abbrev pub AllOfProcess : (Capability → Type 0) → ProcessEntry → Type 0
AllOfProcess P p = IfNamed P p.space × AllIn P p.registers.items

-- all capabilities of a description have P
pub record AllHave (P : Capability → Type 0) (d : Description) : Type 0 where
  pub processes : All (AllOfProcess P) d.processes.items
  pub nodes : All (λ n. AllIn P n.slots.items) d.nodes.items

-- the capability at index i is the first of a list that lacks P
abbrev pub OneOf : (Capability → Type 0) → List SlotEntry → ℕ → Type 0
OneOf P slots i = IsFirst (λ s. IfNamed P s.capability) (λ s. LacksIt P s.capability) slots i

-- the first capability of a description that lacks P: processes before nodes, an address space before registers
abbrev pub FirstLacks : (Capability → Type 0) → Description → Held → Type 0
FirstLacks P d (held.Space k) = IsFirst (AllOfProcess P) (λ p. LacksIt P p.space) d.processes.items k
FirstLacks P d (held.Register k i) =
    IsFirst (AllOfProcess P) (λ p. IfNamed P p.space × OneOf P p.registers.items i) d.processes.items k
FirstLacks P d (held.Slot k i) = All (AllOfProcess P) d.processes.items
    × IsFirst (λ n. AllIn P n.slots.items) (λ n. OneOf P n.slots.items i) d.nodes.items k

-- in the described frames, the capability names an object of its kind; if it is a resume capability, its process is
-- waiting
abbrev pub NamesItsObject : Description → Capability → Type 0
NamesItsObject d c = (frames : List Frame) → IsDescribed d frames → NamesItsRole frames c

-- the first capability whose number is out of range for its kind; if there is none, the first that names no object of
-- its kind
abbrev pub IsFirstTarget : Description → Held → Type 0
IsFirstTarget d at = FirstLacks (IsTarget d.geometry) d at
    ⊎ (AllHave (IsTarget d.geometry) d × FirstLacks (NamesItsObject d) d at)

-- the first capability that names no object of its kind, or resumes a process that isn't waiting
abbrev pub BreaksTarget : Description → Held → Type 0
BreaksTarget d at = (c : Capability) × HoldsAt d at c ×
    ((frames : List Frame) → IsDescribed d frames → NamesItsRole frames c → ⊥) × IsFirstTarget d at

-- the first capability of these nodes that lacks P
abbrev pub OneOfNodes : (Capability → Type 0) → List NodeEntry → Held → Type 0
OneOfNodes P ns (held.Slot k i) = IsFirst (λ n. AllIn P n.slots.items) (λ n. OneOf P n.slots.items i) ns k
OneOfNodes P ns _ = ⊥

-- the first capability of process k that lacks P
unfoldable pub OneOfProcess : (Capability → Type 0) → ℕ → ProcessEntry → Held → Type 0
OneOfProcess P k p (held.Space j) = (j ≡ k) × LacksIt P p.space
OneOfProcess P k p (held.Register j i) = (j ≡ k) × IfNamed P p.space × OneOf P p.registers.items i
OneOfProcess P k p _ = ⊥

-- the capability at this place lacks P
abbrev pub OneLacks : (Capability → Type 0) → Description → Held → Type 0
OneLacks P d at = (c : Capability) × HoldsAt d at c × (P c → ⊥)

-- ---- worlds

-- the first broken rule, with its first place, among the rules that a description must keep to name frames
abbrev pub BreaksWorld : Description → WorldFault → Type 0
BreaksWorld d (fault.Number n) = BreaksNumber d n
BreaksWorld d (fault.Field p) = HasNumbers d × BreaksField d p
BreaksWorld d (fault.Target h) = HasNumbers d × HasFields d × FirstLacks (IsTarget d.geometry) d h
BreaksWorld d fault.NoMemory = Unit {0}
