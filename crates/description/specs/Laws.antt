-- What the definitions of this crate determine. A number has one form. A text names at most one capability. A
-- table is read as at most one description, and a description has at most one first broken rule.
use Rattle.description.specs.Names.{ℕ, List, [], IfSome, IsWellFormed, named, capability_text, Capability, Data}
use Rattle.description.specs.Names.{Members}
use Rattle.std.specs.Prelude.{◌≡◌, ◌^◌, ◌<◌, ◌∷◌}
use Rattle.description.specs.declared.fault.BuildFault.{BuildFault}
use Rattle.description.specs.Reading.{IsDescription, IsWideNumber}
use Rattle.description.specs.declared.entry.Description.{Description}
use Rattle.description.specs.declared.entry.NodeEntry.{NodeEntry}
use Rattle.description.specs.declared.entry.PageEntry.{PageEntry}
use Rattle.description.specs.declared.entry.ProcessEntry.{ProcessEntry}
use Rattle.description.specs.Rules.{IsAccepted, IsFirstBroken}

-- the lists are equally long, and R holds of the items at each index
abbrev pub Each : {A : Type 0} → (A → A → Type 0) → List A → List A → Type 0
Each R [] [] = Unit {0}
Each R [] (y ∷ ys) = ⊥
Each R (x ∷ xs) [] = ⊥
Each R (x ∷ xs) (y ∷ ys) = R x y × Each R xs ys

-- the processes have equal fields, wherever their lists lie in memory
pub record IsSameProcess (p q : ProcessEntry) : Type 0 where
  pub root : p.root ≡ q.root
  pub annex : p.annex ≡ q.annex
  pub owner : p.owner ≡ q.owner
  pub state : p.state ≡ q.state
  pub key : p.key ≡ q.key
  pub words : p.words ≡ q.words
  pub space : p.space ≡ q.space
  pub registers : p.registers.items ≡ q.registers.items

pub record IsSameNode (m n : NodeEntry) : Type 0 where
  pub number : m.number ≡ n.number
  pub owner : m.owner ≡ n.owner
  pub slots : m.slots.items ≡ n.slots.items

pub record IsSamePage (p q : PageEntry) : Type 0 where
  pub number : p.number ≡ q.number
  pub owner : p.owner ≡ q.owner
  pub words : p.words.items ≡ q.words.items

pub record IsSame (d e : Description) : Type 0 where
  pub geometry : d.geometry ≡ e.geometry
  pub layout : d.layout ≡ e.layout
  pub age : d.age ≡ e.age
  pub ranges : d.ranges.items ≡ e.ranges.items
  pub banks : d.banks.items ≡ e.banks.items
  pub processes : Each IsSameProcess d.processes.items e.processes.items
  pub nodes : Each IsSameNode d.nodes.items e.nodes.items
  pub pages : Each IsSamePage d.pages.items e.pages.items

-- each number has only one form in TOML
abbrev pub NumberIsSpelledOnce : Type 0
NumberIsSpelledOnce = (n : ℕ) (d e : Data) → IsWideNumber d n → IsWideNumber e n → d ≡ e

-- different capabilities within their bounds have different texts
abbrev pub TextIsOfOne : Type 0
TextIsOfOne = (c d : Capability) → IsWellFormed c × IfSome (named c) (λ n. n < 2 ^ 64) →
    IsWellFormed d × IfSome (named d) (λ n. n < 2 ^ 64) → capability_text c ≡ capability_text d → c ≡ d

-- a table is read as at most one description
abbrev pub TableIsOfOne : Type 0
TableIsOfOne = (ms : Members) (d e : Description) → IsDescription ms d → IsDescription ms e → IsSame d e

-- at most one rule is the first that is broken
abbrev pub OneFault : Type 0
OneFault = (d : Description) (sectors : ℕ) (fault other : BuildFault) → IsFirstBroken d sectors fault →
    IsFirstBroken d sectors other → fault ≡ other

-- if no rule is broken, none is the first that is broken
abbrev pub NoFault : Type 0
NoFault = (d : Description) (sectors : ℕ) (fault : BuildFault) → IsAccepted d sectors → IsFirstBroken d sectors fault →
    ⊥
