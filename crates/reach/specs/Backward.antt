-- Growing a set by every number that has authority over a member. No public clause uses this.
use Rattle.reach.specs.Names.{ℕ, Bool, false, not, List, [], length, IsTrue, is_marked, Capability, Object, is_free}
use Rattle.reach.specs.Names.{content_at, owner_at, annex_at, is_process, root_at, slot_at, true, suc}
use Rattle.std.specs.Prelude.{◌≡◌, ◌⊎◌, ◌<◌, ◌∷◌}
use Rattle.reach.specs.Links.{IsClosedFor, Links, StaysFor}
use Rattle.reach.specs.Reached.{CanChange}

-- the numbers outside a set
abbrev pub others : (ℕ → Bool) → ℕ → Bool
others inside n = not (inside n)

-- how many numbers of a set aren't marked
abbrev pub unmarked : List Bool → ℕ
unmarked [] = 0
unmarked (true ∷ marks) = unmarked marks
unmarked (false ∷ marks) = suc (unmarked marks)

-- a set that contains n must contain all that n has authority over, except what it owns as a bank
pub record IsClosedAt (os : List Object) (follows : Links) (inside : ℕ → Bool) (n : ℕ) : Type 0 where
  pub annexes : IsTrue (is_process os n) → IsTrue (inside (annex_at os n))
  pub slots : (i : ℕ) → StaysFor follows inside (slot_at os n i)
  pub space : StaysFor follows inside (root_at os n).space

-- each set that the capability stays inside shares a member with `inside`
abbrev pub ConveysInto : Links → (ℕ → Bool) → Capability → Type 0
ConveysInto follows inside c = (other : ℕ → Bool) → StaysFor follows other c →
    (m : ℕ) × IsTrue (inside m) × IsTrue (other m)

-- each closed set that contains n shares a member with `inside`
abbrev pub LeadsInto : List Object → Links → (ℕ → Bool) → ℕ → Type 0
LeadsInto os follows inside n = (other : ℕ → Bool) → IsClosedFor follows os other → IsTrue (other n) →
    (m : ℕ) × IsTrue (inside m) × IsTrue (other m)

-- the set contains the owner of each member
abbrev pub HasOwners : List Object → (ℕ → Bool) → Type 0
HasOwners os inside = (n : ℕ) → IsTrue (inside n) → is_free (content_at os n) ≡ false → IsTrue (inside (owner_at os n))

-- every member can change object o
abbrev pub AllChange : List Object → Links → (ℕ → Bool) → ℕ → Type 0
AllChange os follows inside o = (n : ℕ) → IsTrue (inside n) → CanChange os follows n o

-- `number` was added to the set, and the owners in its chain
pub record AddsOwners (os : List Object) (number : ℕ) (old new : List Bool) : Type 0 where
  pub count : length new ≡ length old
  pub inside : IsTrue (is_marked new number)
  pub kept : (n : ℕ) → IsTrue (is_marked old n) → IsTrue (is_marked new n)
  pub each : (follows : Links) (n : ℕ) → IsTrue (is_marked new n) →
      IsTrue (is_marked old n) ⊎ CanChange os follows n number
  pub owners : HasOwners os (is_marked old) → HasOwners os (is_marked new)
  pub fewer : is_marked old number ≡ false → unmarked new < unmarked old

-- objects with authority over members were added, and their owners
pub record Grows (os : List Object) (follows : Links) (old new : List Bool) : Type 0 where
  pub count : length new ≡ length old
  pub kept : (n : ℕ) → IsTrue (is_marked old n) → IsTrue (is_marked new n)
  pub each : (o : ℕ) → AllChange os follows (is_marked old) o → AllChange os follows (is_marked new) o
  pub owners : HasOwners os (is_marked old) → HasOwners os (is_marked new)

-- the numbers below `below` were tried; those with authority over members were added, with their owners
pub record Widens (os : List Object) (follows : Links) (below : ℕ) (grew : Bool) (old new : List Bool) : Type 0 where
  pub count : length new ≡ length old
  pub kept : (n : ℕ) → IsTrue (is_marked old n) → IsTrue (is_marked new n)
  pub each : (o : ℕ) → AllChange os follows (is_marked old) o → AllChange os follows (is_marked new) o
  pub owners : HasOwners os (is_marked old) → HasOwners os (is_marked new)
  pub fewer : IsTrue grew → unmarked new < unmarked old
  pub same : grew ≡ false → new ≡ old
  pub settled : grew ≡ false → (n : ℕ) → n < below → is_marked new n ≡ false →
      IsClosedAt os follows (others (is_marked new)) n
