-- Closed sets of numbers: their members have no authority outside, except to read weakly.
use Rattle.std.specs.Prelude.{◌≡◌, ◌⊎◌, ℕ, Bool, false, None, Some, List, IsTrue}
use Rattle.model.specs.declared.capability.Capability.{Capability}
use Rattle.model.specs.declared.object.Object.{Object}
use Rattle.model.specs.Capability.{named, IsWeak}
use Rattle.model.specs.Object.{is_free, is_bank}
use Rattle.model.specs.World.{content_at, owner_at, slot_at, root_at, annex_at, is_process}

-- a capability stays inside a set of numbers: it names a member, is weak, or names nothing
abbrev pub StaysInside : (ℕ → Bool) → Capability → Type 0
StaysInside inside c = IsWeak c ⊎ elim (named c) [ None ↦ Unit {0} | Some n ↦ IsTrue (inside n) ]

-- a set that contains its members' annexes and all objects that its banks own; its members hold only capabilities that
-- `MayHold` allows
pub record IsClosedBy (MayHold : Capability → Type 0) (os : List Object) (inside : ℕ → Bool) : Type 0 where
  pub annexes : (p : ℕ) → IsTrue (inside p) → IsTrue (is_process os p) → IsTrue (inside (annex_at os p))
  pub owned : (b n : ℕ) → IsTrue (inside b) → IsTrue (is_bank (content_at os b)) →
      is_free (content_at os n) ≡ false → owner_at os n ≡ b → IsTrue (inside n)
  pub slots : (n i : ℕ) → IsTrue (inside n) → MayHold (slot_at os n i)
  pub spaces : (p : ℕ) → IsTrue (inside p) → MayHold (root_at os p).space

-- a set of numbers whose members have no authority outside it, except to read weakly
abbrev pub IsClosed : List Object → (ℕ → Bool) → Type 0
IsClosed os inside = IsClosedBy (StaysInside inside) os inside
