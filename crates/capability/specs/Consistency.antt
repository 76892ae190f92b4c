-- The rules for frames of a sound world: capabilities name objects of their role, processes have one root and one
-- annex each, and banks form a tree within their limits.
use Rattle.capability.specs.Names.{ℕ, Bool, false, List, Option, None, Some, IsTrue, All, Contains, Cap, Capability}
use Rattle.capability.specs.Names.{Bank, Discrim, Node, Number, Page, Process, Resume, Space, Start, Void, Frame}
use Rattle.capability.specs.Names.{Content, Role, chain, usage, current_count, frame_at, headers, objects_of, caps_in}
use Rattle.capability.specs.Names.{is_waiting, limit_in}
use Rattle.std.specs.Prelude.{◌≡◌, ◌≢◌, ◌≤◌}
use Rattle.model.specs.declared.object.Content.TheVariants as content
use Rattle.model.specs.declared.object.Role.TheVariants as role

-- the role and the owner of object n
abbrev pub role_at : List Frame → ℕ → Role
role_at fs n = (frame_at fs n).header.role

abbrev pub owner_of : List Frame → ℕ → ℕ
owner_of fs n = (frame_at fs n).header.owner

-- the annex that the root of a process names
abbrev pub annex_in : {C : Type 0} → Content C → Option ℕ
annex_in (content.Root root) = Some root.annex
annex_in _ = None

-- whether a content is the root of a process that waits
abbrev pub is_waiting_root : {C : Type 0} → Content C → Bool
is_waiting_root (content.Root root) = is_waiting root.state
is_waiting_root _ = false

-- the object that a capability names has the capability's role; the process of a resume capability waits
abbrev pub NamesItsRole : List Frame → Capability → Type 0
NamesItsRole fs Void = Unit {0}
NamesItsRole fs (Number n) = Unit {0}
NamesItsRole fs (Page o a) = role_at fs o ≡ role.Page
NamesItsRole fs (Node o a) = role_at fs o ≡ role.Node
NamesItsRole fs (Space o h a) = role_at fs o ≡ role.Node
NamesItsRole fs (Process p) = role_at fs p ≡ role.Root
NamesItsRole fs (Start p key) = role_at fs p ≡ role.Root
NamesItsRole fs (Resume p) = IsTrue (is_waiting_root (frame_at fs p).content)
NamesItsRole fs (Bank b) = role_at fs b ≡ role.Bank
NamesItsRole fs Discrim = Unit {0}

-- a capability's count is at most its object's; if they are equal, the object has the role for this capability
pub record IsNamed (fs : List Frame) (c : Cap) : Type 0 where
  pub current : c.count ≤ current_count (headers fs) c.what
  pub live : c.count ≡ current_count (headers fs) c.what → NamesItsRole fs c.what

-- each capability in slots, registers and address spaces satisfies `IsNamed`
abbrev pub AreNamed : List Frame → Type 0
AreNamed fs = (n : ℕ) → All (IsNamed fs) (caps_in (frame_at fs n).content)

-- number p is a root, whose annex is number `a`
abbrev pub IsRootOf : List Frame → ℕ → ℕ → Type 0
IsRootOf fs p a = annex_in (frame_at fs p).content ≡ Some a

-- number `a` is an annex with the same owner as p
abbrev pub IsAnnexFor : List Frame → ℕ → ℕ → Type 0
IsAnnexFor fs p a = (role_at fs a ≡ role.Annex) × (owner_of fs a ≡ owner_of fs p)

-- each process is whole (KeyKOS: domains): a root has an annex with its owner, and each annex has exactly one root
pub record AreWholeProcesses (fs : List Frame) : Type 0 where
  pub annexes : (p a : ℕ) → IsRootOf fs p a → IsAnnexFor fs p a
  pub one_root : (p q a : ℕ) → IsRootOf fs p a → IsRootOf fs q a → p ≡ q
  pub some_root : (a : ℕ) → role_at fs a ≡ role.Annex → (p : ℕ) × IsRootOf fs p a

-- each object is owned by a bank; the banks form a tree below number 0, with at most 16 in a chain
pub record AreOwned (fs : List Frame) : Type 0 where
  pub prime : (role_at fs 0 ≡ role.Bank) × (owner_of fs 0 ≡ 0)
  pub owners : (n : ℕ) → role_at fs n ≢ role.Free → role_at fs (owner_of fs n) ≡ role.Bank
  pub chains : (b : ℕ) → role_at fs b ≡ role.Bank → Contains (chain (objects_of fs) b) 0

-- no bank's usage is above its limit
abbrev pub AreLimited : List Frame → Type 0
AreLimited fs = (b : ℕ) → role_at fs b ≡ role.Bank → usage (objects_of fs) b ≤ limit_in (frame_at fs b).content

-- the rules about banks: owners and limits
pub record AreBanked (fs : List Frame) : Type 0 where
  pub owned : AreOwned fs
  pub limited : AreLimited fs
