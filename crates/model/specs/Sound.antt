-- Sound worlds.
use Rattle.model.specs.Names.{ℕ, true, List, length, slice_index, IsTrue, Contains}
use Rattle.std.specs.Prelude.{◌≡◌, ◌≢◌, ◌+◌, ◌^◌, ◌<◌, ◌≤◌}
use Rattle.model.specs.declared.capability.Capability.{Capability}
use Rattle.model.specs.declared.capability.Capability.TheVariants.{Void, Page, Node, Space, Process, Start}
use Rattle.model.specs.declared.capability.Capability.TheVariants.{Resume, Bank}
use Rattle.model.specs.declared.geometry.Geometry.{Geometry}
use Rattle.model.specs.declared.object.Content.{Content}
use Rattle.model.specs.declared.object.Content.TheVariants as content
use Rattle.model.specs.declared.object.Object.{Object}
use Rattle.model.specs.Capability.{IsWellFormed}
use Rattle.model.specs.Object.{is_free, is_page, is_node, is_annex, is_bank, is_waiting, limit_in}
use Rattle.model.specs.World.{World, content_at, owner_at, word_at, slot_at, root_at, annex_at, is_process}
use Rattle.model.specs.Bank.{chain, usage}

-- how many objects there are
abbrev pub object_count : Geometry → ℕ
object_count g = g.nodes + g.pages

-- a page has a number from g.nodes on, a node, root, annex or bank one below; any number may be free
abbrev pub IsOfKind : {C : Type 0} → Geometry → ℕ → Content C → Type 0
IsOfKind g n content.Free = Unit {0}
IsOfKind g n (content.Page words) = (g.nodes ≤ n) × (n < object_count g)
IsOfKind g n _ = n < g.nodes

-- a page has 512 words, a node and an annex 32 slots, a root 4 words of 64 bits and a key of 16, a bank a limit of 64
abbrev pub HasShape : Content Capability → Type 0
HasShape content.Free = Unit {0}
HasShape (content.Page words) = length words ≡ 512
HasShape (content.Node slots) = length slots ≡ 32
HasShape (content.Root root) = (length root.words ≡ 4) × ((i : ℕ) → slice_index root.words i < 2 ^ 64) ×
    (root.key < 2 ^ 16)
HasShape (content.Annex registers) = length registers ≡ 32
HasShape (content.Bank limit) = limit < 2 ^ 64

-- a capability that may be an address space
abbrev pub IsSpace : Capability → Type 0
IsSpace Void = Unit {0}
IsSpace (Page o a) = Unit {0}
IsSpace (Space o h a) = Unit {0}
IsSpace _ = ⊥

-- the object that a capability names is of its kind; the process that a resume capability names is waiting
abbrev pub NamesItsKind : List Object → Capability → Type 0
NamesItsKind os (Page o a) = IsTrue (is_page (content_at os o))
NamesItsKind os (Node o a) = IsTrue (is_node (content_at os o))
NamesItsKind os (Space o h a) = IsTrue (is_node (content_at os o))
NamesItsKind os (Process p) = IsTrue (is_process os p)
NamesItsKind os (Start p key) = IsTrue (is_process os p)
NamesItsKind os (Resume p) = IsTrue (is_process os p) × IsTrue (is_waiting (root_at os p).state)
NamesItsKind os (Bank b) = IsTrue (is_bank (content_at os b))
NamesItsKind os _ = Unit {0}

-- a capability that may be held
abbrev pub MayBeHeld : List Object → Capability → Type 0
MayBeHeld os c = IsWellFormed c × NamesItsKind os c

-- A sound world: each number has an object of a kind that may have it, and each capability names an object of its
-- kind. Each annex belongs to one process. Banks form a tree below number 0, own all objects, and stay within their
-- limits.
pub record IsSound (g : Geometry) (w : World) : Type 0 where
  pub size : length w.objects ≡ object_count g
  pub kinds : (n : ℕ) → IsOfKind g n (content_at w.objects n)
  pub shapes : (n : ℕ) → HasShape (content_at w.objects n)
  pub words : (n i : ℕ) → word_at w.objects n i < 2 ^ 64
  pub slots : (n i : ℕ) → MayBeHeld w.objects (slot_at w.objects n i)
  pub register_0 : (a : ℕ) → IsTrue (is_annex (content_at w.objects a)) → slot_at w.objects a 0 ≡ Void
  pub spaces : (p : ℕ) → MayBeHeld w.objects (root_at w.objects p).space × IsSpace (root_at w.objects p).space
  pub annexes : (p : ℕ) → IsTrue (is_process w.objects p) →
      IsTrue (is_annex (content_at w.objects (annex_at w.objects p)))
      × (owner_at w.objects (annex_at w.objects p) ≡ owner_at w.objects p)
  pub one_root : (p q : ℕ) → IsTrue (is_process w.objects p) → IsTrue (is_process w.objects q) →
      annex_at w.objects p ≡ annex_at w.objects q → p ≡ q
  pub some_root : (a : ℕ) → IsTrue (is_annex (content_at w.objects a)) →
      (p : ℕ) × IsTrue (is_process w.objects p) × (annex_at w.objects p ≡ a)
  pub unowned : (n : ℕ) → IsTrue (is_free (content_at w.objects n)) → owner_at w.objects n ≡ 0
  pub owners : (n : ℕ) → is_free (content_at w.objects n) ≢ true →
      IsTrue (is_bank (content_at w.objects (owner_at w.objects n)))
  pub prime : IsTrue (is_bank (content_at w.objects 0)) × (owner_at w.objects 0 ≡ 0)
  pub chains : (b : ℕ) → IsTrue (is_bank (content_at w.objects b)) → Contains (chain w.objects b) 0
  pub limits : (b : ℕ) → IsTrue (is_bank (content_at w.objects b)) →
      usage w.objects b ≤ limit_in (content_at w.objects b)
  pub age : w.age ≤ 2 ^ 62
