-- Drawing a part of a description.
use Rattle.image_drawer.specs.Names.{ℕ, Bool, true, false, Option, None, Some, List, map, unwrap_or, AllZip, filter}
use Rattle.image_drawer.specs.Names.{list_any, Capability, Void, named, Description, NodeEntry, ProcessEntry, SlotEntry}
use Rattle.image_drawer.specs.Names.{is_marked, length}
use Rattle.std.specs.Prelude.{◌≡◌, ◌==◌, ◌&&◌, ◌||◌, if◌then◌else◌, ◌∷◌, ◌++◌}
use Rattle.image_drawer.specs.Graph.{arrows, boxes, owners}

-- the number, if there is one, is in the set
abbrev pub is_inside : (ℕ → Bool) → Option ℕ → Bool
is_inside inside None = true
is_inside inside (Some n) = inside n

abbrev pub leads_inside : (ℕ → Bool) → Option Capability → Bool
leads_inside inside c = is_inside inside (named (unwrap_or c Void))

abbrev pub space_inside : (ℕ → Bool) → Option Capability → Option Capability
space_inside inside c = if leads_inside inside c then c else Some Void

-- q is process p without the capabilities that name objects outside the set
pub record IsPartOfProcess (inside : ℕ → Bool) (p q : ProcessEntry) : Type 0 where
  pub root : q.root ≡ p.root
  pub annex : q.annex ≡ p.annex
  pub owner : q.owner ≡ p.owner
  pub state : q.state ≡ p.state
  pub key : q.key ≡ p.key
  pub words : q.words ≡ p.words
  pub space : q.space ≡ space_inside inside p.space
  pub registers : q.registers.items ≡ filter (λ s. leads_inside inside s.capability) p.registers.items

-- n is node m without the capabilities that name objects outside the set
pub record IsPartOfNode (inside : ℕ → Bool) (m n : NodeEntry) : Type 0 where
  pub number : n.number ≡ m.number
  pub owner : n.owner ≡ m.owner
  pub slots : n.slots.items ≡ filter (λ s. leads_inside inside s.capability) m.slots.items

-- e has only the objects of d that are in the set, without the capabilities that name objects outside it
pub record IsPart (inside : ℕ → Bool) (d e : Description) : Type 0 where
  pub geometry : e.geometry ≡ d.geometry
  pub layout : e.layout ≡ d.layout
  pub age : e.age ≡ d.age
  pub ranges : e.ranges ≡ d.ranges
  pub banks : e.banks.items ≡ filter (λ b. inside b.number) d.banks.items
  pub processes : AllZip (IsPartOfProcess inside) (filter (λ p. inside p.root) d.processes.items) e.processes.items
  pub nodes : AllZip (IsPartOfNode inside) (filter (λ n. inside n.number) d.nodes.items) e.nodes.items
  pub pages : e.pages.items ≡ filter (λ p. inside p.number) d.pages.items

-- The graph of a part has the members' boxes, their owners, and the arrows from members to members.
pub record ShowsPart (inside : ℕ → Bool) (d e : Description) : Type 0 where
  pub boxes : boxes e ≡ filter inside (boxes d)
  pub owners : owners e ≡ filter (λ p. inside p.1) (owners d)
  pub arrows : arrows e ≡ filter (λ a. inside a.holder && inside a.target) (arrows d)

-- If e is a part of d, its graph shows that part.
abbrev pub PartIsShown : Type 0
PartIsShown = (inside : ℕ → Bool) (d e : Description) → IsPart inside d e → ShowsPart inside d e

-- whether the number, if there is one, is that of object o
abbrev pub is_name : ℕ → Option ℕ → Bool
is_name o None = false
is_name o (Some n) = n == o

abbrev pub names : ℕ → Option Capability → Bool
names o c = is_name o (named (unwrap_or c Void))

abbrev pub holds_in : ℕ → List SlotEntry → Bool
holds_in o slots = list_any (λ s. names o s.capability) slots

abbrev pub holding_processes : ℕ → List ProcessEntry → List ℕ
holding_processes o ps = map (λ p. p.root) (filter (λ p. names o p.space || holds_in o p.registers.items) ps)

abbrev pub holding_nodes : ℕ → List NodeEntry → List ℕ
holding_nodes o ns = map (λ n. n.number) (filter (λ n. holds_in o n.slots.items) ns)

-- object o, and the processes and nodes that hold a capability to it
abbrev pub holders : ℕ → Description → List ℕ
holders o d = o ∷ holding_processes o d.processes.items ++ holding_nodes o d.nodes.items

-- whether a number is in a list
abbrev pub is_listed : ℕ → List ℕ → Bool
is_listed n ns = list_any (λ m. m == n) ns

-- the numbers of the list were added to the set
pub record Adds (ns : List ℕ) (old new : List Bool) : Type 0 where
  pub size : length new ≡ length old
  pub marks : (n : ℕ) → is_marked new n ≡ (is_marked old n || is_listed n ns)
