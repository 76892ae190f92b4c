-- The frames that a description names, and the rules that it must keep to name any.
use Rattle.description.specs.Names.{ℕ, List, [], map, length, Option, None, Some, slice_get, unwrap_or, All, Contains}
use Rattle.description.specs.Names.{Cap, Capability, Void, Frame, Content, State, IsWellFormed, frame_at, blank_frame}
use Rattle.description.specs.Names.{role_of, IsSpace, object_count, fresh_cap, AreNamed}
use Rattle.std.specs.Prelude.{◌≡◌, ◌≢◌, ◌^◌, ◌<◌, ◌≤◌, ◌==◌, if◌then◌else◌, ◌∷◌, ◌++◌}
use Rattle.description.specs.declared.fault.BuildFault.{BuildFault}
use Rattle.description.specs.declared.entry.Description.{Description}
use Rattle.description.specs.declared.entry.NodeEntry.{NodeEntry}
use Rattle.description.specs.declared.entry.PageEntry.{PageEntry}
use Rattle.description.specs.declared.entry.ProcessEntry.{ProcessEntry}
use Rattle.description.specs.declared.entry.SlotEntry.{SlotEntry}
use Rattle.description.specs.declared.entry.WordEntry.{WordEntry}
use Rattle.model.specs.declared.object.Content.TheVariants as content
use Rattle.description.specs.declared.fault.BuildFault.TheVariants as fault

-- ---- the numbers that are named

-- no number occurs twice
abbrev pub AreDistinct : List ℕ → Type 0
AreDistinct [] = Unit {0}
AreDistinct (n ∷ ns) = (Contains ns n → ⊥) × AreDistinct ns

-- all numbers that a description gives to nodes: banks, roots, annexes, and nodes
abbrev pub node_numbers : Description → List ℕ
node_numbers d = map (λ b. b.number) d.banks.items
    ++ map (λ p. p.root) d.processes.items ++ map (λ p. p.annex) d.processes.items
    ++ map (λ n. n.number) d.nodes.items

-- all numbers that a description gives to pages
abbrev pub page_numbers : Description → List ℕ
page_numbers d = map (λ p. p.number) d.pages.items

-- each number is in the range for its kind, and no number is given twice
pub record HasNumbers (d : Description) : Type 0 where
  pub nodes : All (λ n. n < d.geometry.nodes) (node_numbers d)
  pub pages : All (λ n. (d.geometry.nodes ≤ n) × (n < object_count d.geometry)) (page_numbers d)
  pub distinct : AreDistinct (node_numbers d ++ page_numbers d)

-- ---- the fields

-- the text is that of a capability within its bounds
abbrev pub IsSomeCapability : Option Capability → Type 0
IsSomeCapability None = ⊥
IsSomeCapability (Some c) = IsWellFormed c

-- each index is from `first` to 31, no index occurs twice, and each slot has a capability
pub record AreSlots (first : ℕ) (slots : List SlotEntry) : Type 0 where
  pub places : All (λ s. (first ≤ s.index) × (s.index < 32)) slots
  pub distinct : AreDistinct (map (λ s. s.index) slots)
  pub held : All (λ s. IsSomeCapability s.capability) slots

-- each index is below 512, and no index occurs twice
pub record AreWords (words : List WordEntry) : Type 0 where
  pub places : All (λ w. w.index < 512) words
  pub distinct : AreDistinct (map (λ w. w.index) words)

-- the capability is there, and may be an address space
abbrev pub IsSpaceEntry : Option Capability → Type 0
IsSpaceEntry None = ⊥
IsSpaceEntry (Some c) = IsWellFormed c × IsSpace c

-- the fields of a process are valid
pub record IsProcessEntry (p : ProcessEntry) : Type 0 where
  pub state : p.state ≢ None
  pub key : p.key < 2 ^ 16
  pub space : IsSpaceEntry p.space
  pub registers : AreSlots 1 p.registers.items

-- the fields of all objects are valid
pub record HasFields (d : Description) : Type 0 where
  pub processes : All IsProcessEntry d.processes.items
  pub nodes : All (λ n. AreSlots 0 n.slots.items) d.nodes.items
  pub pages : All (λ p. AreWords p.words.items) d.pages.items

-- ---- the frames

-- the value of the first entry with index i, or `nothing` if there is none
abbrev pub first_named : {E V : Type 0} → (E → ℕ) → (E → V) → V → List E → ℕ → V
first_named index value nothing [] i = nothing
first_named index value nothing (e ∷ es) i = if index e == i then value e else first_named index value nothing es i

-- the capability that the entries give slot i, or void
abbrev pub named_at : List SlotEntry → ℕ → Capability
named_at entries i = first_named (λ s. s.index) (λ s. unwrap_or s.capability Void) Void entries i

-- the word that the entries give index i, or 0
abbrev pub word_named_at : List WordEntry → ℕ → ℕ
word_named_at entries i = first_named (λ w. w.index) (λ w. w.word) 0 entries i

-- these 32 slots hold what the entries name
pub record HoldsNamed (entries : List SlotEntry) (slots : List Cap) : Type 0 where
  pub count : length slots ≡ 32
  pub each : (i : ℕ) → i < 32 → slice_get slots i ≡ Some (fresh_cap (named_at entries i))

-- these 512 words are those that the entries name
pub record HasNamedWords (entries : List WordEntry) (words : List ℕ) : Type 0 where
  pub count : length words ≡ 512
  pub each : (i : ℕ) → i < 512 → slice_get words i ≡ Some (word_named_at entries i)

-- the frame of an object that was never rescinded
abbrev pub first_frame : ℕ → Content Cap → Frame
first_frame owner held =
    record { header = record { role = role_of held; allocations = 0; calls = 0; owner = owner }; content = held }

-- f is the frame of this process's root
abbrev pub IsDescribedRoot : ProcessEntry → Frame → Type 0
IsDescribedRoot p f = (state : State) × (space : Capability) × (p.state ≡ Some state) × (p.space ≡ Some space)
    × (f ≡ first_frame p.owner (content.Root
    (record { state = state; words = p.words; key = p.key; annex = p.annex; space = fresh_cap space })))

-- f is the frame of this process's annex
abbrev pub IsDescribedAnnex : ProcessEntry → Frame → Type 0
IsDescribedAnnex p f = (slots : List Cap) × HoldsNamed p.registers.items slots ×
    (f ≡ first_frame p.owner (content.Annex slots))

-- f is the frame of this node
abbrev pub IsDescribedNode : NodeEntry → Frame → Type 0
IsDescribedNode n f = (slots : List Cap) × HoldsNamed n.slots.items slots ×
    (f ≡ first_frame n.owner (content.Node slots))

-- f is the frame of this page
abbrev pub IsDescribedPage : PageEntry → Frame → Type 0
IsDescribedPage p f = (words : List ℕ) × HasNamedWords p.words.items words ×
    (f ≡ first_frame p.owner (content.Page words))

-- the frames are those of the described objects; all others are free
pub record IsDescribed (d : Description) (frames : List Frame) : Type 0 where
  pub count : length frames ≡ object_count d.geometry
  pub banks : All (λ b. frame_at frames b.number ≡ first_frame b.owner (content.Bank b.limit)) d.banks.items
  pub roots : All (λ p. IsDescribedRoot p (frame_at frames p.root)) d.processes.items
  pub annexes : All (λ p. IsDescribedAnnex p (frame_at frames p.annex)) d.processes.items
  pub nodes : All (λ n. IsDescribedNode n (frame_at frames n.number)) d.nodes.items
  pub pages : All (λ p. IsDescribedPage p (frame_at frames p.number)) d.pages.items
  pub others : (n : ℕ) → (Contains (node_numbers d ++ page_numbers d) n → ⊥) → frame_at frames n ≡ blank_frame

-- ---- the faults

-- why a description names no frames: a number, else a field, else a capability that can't name an object of its
-- kind; or memory ran out
abbrev pub IsWorldFault : Description → BuildFault → Type 0
IsWorldFault d fault.Number = HasNumbers d → ⊥
IsWorldFault d fault.Field = HasNumbers d × (HasFields d → ⊥)
IsWorldFault d fault.Target = HasNumbers d × HasFields d × ((fs : List Frame) → IsDescribed d fs → AreNamed fs → ⊥)
IsWorldFault d fault.NoMemory = Unit {0}
IsWorldFault d _ = ⊥
