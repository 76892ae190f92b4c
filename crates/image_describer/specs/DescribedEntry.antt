-- The entries of objects, one by one.
use Rattle.image_describer.specs.Names.{ℕ, List, [], map, Option, None, Some, All, Contains, Capability, Object, Role}
use Rattle.image_describer.specs.Names.{State, role_of, content_at, object_at, BankEntry, Description, NodeEntry}
use Rattle.image_describer.specs.Names.{PageEntry, ProcessEntry}
use Rattle.std.specs.Prelude.{◌≡◌, ◌≢◌}
use Rattle.model.specs.declared.object.Content.TheVariants as content
use Rattle.model.specs.declared.object.Role.TheVariants as role
use Rattle.image_describer.specs.Brief.{AreRising, NamesSlots, NamesWords}

-- what is made for item x at index i: an entry with it, or `None` if x is the default
abbrev pub MayName : {E V : Type 0} → (E → ℕ) → (E → V) → V → ℕ → V → Option E → Type 0
MayName index value default i x (Some e) = (index e ≡ i) × (value e ≡ x) × (x ≢ default)
MayName index value default i x None = x ≡ default

-- the entry describes the bank at its number
abbrev pub TellsBank : List Object → BankEntry → Type 0
TellsBank os b = object_at os b.number ≡ record { owner = b.owner; content = content.Bank b.limit }

-- the entry describes the node at its number
abbrev pub TellsNode : List Object → NodeEntry → Type 0
TellsNode os n = (slots : List Capability) × NamesSlots slots n.slots.items ×
    (object_at os n.number ≡ record { owner = n.owner; content = content.Node slots })

-- the entry describes the page at its number
abbrev pub TellsPage : List Object → PageEntry → Type 0
TellsPage os p = (words : List ℕ) × NamesWords words p.words.items ×
    (object_at os p.number ≡ record { owner = p.owner; content = content.Page words })

-- the entry of a process describes its root
abbrev pub TellsRoot : List Object → ProcessEntry → Type 0
TellsRoot os p = (state : State) × (space : Capability) × (p.state ≡ Some state) × (p.space ≡ Some space)
    × (object_at os p.root ≡ record {
      owner = p.owner;
      content = content.Root (record { state = state; words = p.words; key = p.key; annex = p.annex; space = space });
    })

-- the entry of a process describes its annex
abbrev pub TellsAnnex : List Object → ProcessEntry → Type 0
TellsAnnex os p = (registers : List Capability) × NamesSlots registers p.registers.items
    × (object_at os p.annex ≡ record { owner = p.owner; content = content.Annex registers })

-- the entry describes a process: its root and its annex
abbrev pub TellsProcess : List Object → ProcessEntry → Type 0
TellsProcess os p = TellsRoot os p × TellsAnnex os p

-- what is made for number n: an entry that describes its object, or `None` if the object is of another kind
abbrev pub MayTell : {E : Type 0} → (E → ℕ) → (E → Type 0) → Role → List Object → ℕ → Option E → Type 0
MayTell number Tells kind os n (Some e) = (number e ≡ n) × Tells e
MayTell number Tells kind os n None = role_of (content_at os n) ≢ kind

-- the entries describe all objects of a kind, in rising order
pub record TellAll {E : Type 0} (number : E → ℕ) (Tells : E → Type 0) (kind : Role) (os : List Object) (es : List E) :
    Type 0 where
  pub each : All Tells es
  pub whole : (n : ℕ) → role_of (content_at os n) ≡ kind → Contains (map number es) n
  pub rising : AreRising (map number es)

-- a description has no objects yet
pub record HasNoObjects (d : Description) : Type 0 where
  pub banks : d.banks.items ≡ []
  pub processes : d.processes.items ≡ []
  pub nodes : d.nodes.items ≡ []
  pub pages : d.pages.items ≡ []

-- a description describes all these objects
pub record TellsObjects (os : List Object) (d : Description) : Type 0 where
  pub banks : TellAll (λ b. b.number) (TellsBank os) role.Bank os d.banks.items
  pub processes : TellAll (λ p. p.root) (TellsProcess os) role.Root os d.processes.items
  pub nodes : TellAll (λ n. n.number) (TellsNode os) role.Node os d.nodes.items
  pub pages : TellAll (λ p. p.number) (TellsPage os) role.Page os d.pages.items

-- two descriptions are equal except for their objects
pub record IsSameBeside (old new : Description) : Type 0 where
  pub geometry : new.geometry ≡ old.geometry
  pub layout : new.layout ≡ old.layout
  pub age : new.age ≡ old.age
  pub ranges : new.ranges ≡ old.ranges
