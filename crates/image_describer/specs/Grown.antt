-- A world in an image of other sizes: nodes keep their numbers, and pages follow the nodes.
use Rattle.image_describer.specs.Names.{ℕ, nat_lt, false, Option, None, Some, List, map, length, All, AllZip}
use Rattle.image_describer.specs.Names.{NumberRange, IsGeometry, Capability, Void, Number, Page, Node, Space, Process}
use Rattle.image_describer.specs.Names.{Start, Resume, Bank, Discrim, Geometry, Object, free, is_free, map_content}
use Rattle.image_describer.specs.Names.{object_count, World, content_at, object_at, Description, NodeEntry, PageEntry}
use Rattle.image_describer.specs.Names.{ProcessEntry, SlotEntry, whole_ranges, GrowthFault}
use Rattle.std.specs.Prelude.{◌≡◌, ◌≢◌, ◌+◌, ◌-◌, ◌<◌, ◌≤◌, ◌==◌, ◌&&◌, if◌then◌else◌}
use Rattle.description.specs.declared.sizes.GrowthFault.TheVariants as fault

-- the number of object n in the other image: a page's number changes by as much as the number of nodes
abbrev pub moved : Geometry → Geometry → ℕ → ℕ
moved old new n = if nat_lt n old.nodes then n else if nat_lt n (object_count old) then n - old.nodes + new.nodes else n

-- a capability to the same object in the other image
abbrev pub moved_capability : (ℕ → ℕ) → Capability → Capability
moved_capability at Void = Void
moved_capability at (Number n) = Number n
moved_capability at (Page o a) = Page (at o) a
moved_capability at (Node o a) = Node (at o) a
moved_capability at (Space o h a) = Space (at o) h a
moved_capability at (Process p) = Process (at p)
moved_capability at (Start p key) = Start (at p) key
moved_capability at (Resume p) = Resume (at p)
moved_capability at (Bank b) = Bank (at b)
moved_capability at Discrim = Discrim

-- an object with its capabilities renumbered
abbrev pub moved_object : (ℕ → ℕ) → Object → Object
moved_object at o = record { owner = o.owner; content = map_content (moved_capability at) o.content }

-- The objects of a world in an image of other sizes: each has its new number, and its capabilities are renumbered.
-- All other numbers are free.
pub record IsGrown (old new : Geometry) (w v : World) : Type 0 where
  pub count : length v.objects ≡ object_count new
  pub age : v.age ≡ w.age
  pub each : (n : ℕ) → is_free (content_at w.objects n) ≡ false → object_at v.objects (moved old new n) ≡ moved_object
      (moved old new) (object_at w.objects n)
  pub others : (m : ℕ) → ((n : ℕ) → is_free (content_at w.objects n) ≡ false → moved old new n ≢ m) →
      object_at v.objects m ≡ free

-- every object with a node's number has a number in the other image
abbrev pub NodesFit : Geometry → Geometry → World → Type 0
NodesFit old new w = (n : ℕ) → is_free (content_at w.objects n) ≡ false → n < old.nodes → n < new.nodes

-- every page has a number in the other image
abbrev pub PagesFit : Geometry → Geometry → World → Type 0
PagesFit old new w = (n : ℕ) → is_free (content_at w.objects n) ≡ false → old.nodes ≤ n →
    moved old new n < object_count new

-- why a world has no image of other sizes: the first that applies; or memory ran out
abbrev pub IsUnsuited : Geometry → Geometry → World → GrowthFault → Type 0
IsUnsuited old new w fault.Limits = IsGeometry new → ⊥
IsUnsuited old new w fault.Nodes = IsGeometry new × (NodesFit old new w → ⊥)
IsUnsuited old new w fault.Pages = IsGeometry new × NodesFit old new w × (PagesFit old new w → ⊥)
IsUnsuited old new w fault.NoMemory = Unit {0}

-- ---- the same for a description

-- if the numbers of nodes and pages stay, the home ranges stay; else there is one of all nodes and one of all pages
abbrev pub grown_ranges : Geometry → Geometry → List NumberRange → List NumberRange
grown_ranges old new ranges = if old.nodes == new.nodes && old.pages == new.pages then ranges else whole_ranges new

abbrev pub moved_held : (ℕ → ℕ) → Option Capability → Option Capability
moved_held at None = None
moved_held at (Some c) = Some (moved_capability at c)

abbrev pub moved_slot : (ℕ → ℕ) → SlotEntry → SlotEntry
moved_slot at s = record { index = s.index; capability = moved_held at s.capability }

-- q is process p with its capabilities renumbered
pub record IsMovedProcess (at : ℕ → ℕ) (p q : ProcessEntry) : Type 0 where
  pub root : q.root ≡ p.root
  pub annex : q.annex ≡ p.annex
  pub owner : q.owner ≡ p.owner
  pub state : q.state ≡ p.state
  pub key : q.key ≡ p.key
  pub words : q.words ≡ p.words
  pub space : q.space ≡ moved_held at p.space
  pub registers : q.registers.items ≡ map (moved_slot at) p.registers.items

-- m is node n with its capabilities renumbered
pub record IsMovedNode (at : ℕ → ℕ) (m n : NodeEntry) : Type 0 where
  pub number : n.number ≡ m.number
  pub owner : n.owner ≡ m.owner
  pub slots : n.slots.items ≡ map (moved_slot at) m.slots.items

-- q is page p with a new number
pub record IsMovedPage (at : ℕ → ℕ) (p q : PageEntry) : Type 0 where
  pub number : q.number ≡ at p.number
  pub owner : q.owner ≡ p.owner
  pub words : q.words ≡ p.words

-- e is the description d, renumbered for the sizes of e
pub record IsRenumbered (d e : Description) : Type 0 where
  pub layout : e.layout ≡ d.layout
  pub age : e.age ≡ d.age
  pub ranges : e.ranges.items ≡ grown_ranges d.geometry e.geometry d.ranges.items
  pub banks : e.banks ≡ d.banks
  pub processes : AllZip (IsMovedProcess (moved d.geometry e.geometry)) d.processes.items e.processes.items
  pub nodes : AllZip (IsMovedNode (moved d.geometry e.geometry)) d.nodes.items e.nodes.items
  pub pages : AllZip (IsMovedPage (moved d.geometry e.geometry)) d.pages.items e.pages.items

-- the node numbers of a description are below `count`
pub record NamesNodes (count : ℕ) (d : Description) : Type 0 where
  pub banks : All (λ b. b.number < count) d.banks.items
  pub processes : All (λ p. (p.root < count) × (p.annex < count)) d.processes.items
  pub nodes : All (λ n. n.number < count) d.nodes.items

-- each page of a description has a number in the other image
abbrev pub NamesPages : Geometry → Geometry → Description → Type 0
NamesPages old new d = All (λ p. moved old new p.number < object_count new) d.pages.items

-- why a description can't be renumbered: the first that applies; or memory ran out
abbrev pub IsNotRenumbered : Description → Geometry → GrowthFault → Type 0
IsNotRenumbered d new fault.Limits = IsGeometry new → ⊥
IsNotRenumbered d new fault.Nodes = IsGeometry new × (NamesNodes new.nodes d → ⊥)
IsNotRenumbered d new fault.Pages = IsGeometry new × NamesNodes new.nodes d × (NamesPages d.geometry new d → ⊥)
IsNotRenumbered d new fault.NoMemory = Unit {0}
