-- Walks down trees of nodes, level by level. The accesses on the way may be merged in any order.
use Rattle.address_space.proofs.Names.{nat_tests, ℕ, zero, suc, List, Result, Ok, Err, refl, ap, arith, eq-eqb, ne_eqb, Access, MemoryFault, Hole, Malformed}
use Rattle.address_space.proofs.Names.{Capability, Void, Page, Space, Object, union, below, path, restricted, walk_along, slot_at, Bool, [], bit_or, IfOk}
use Rattle.address_space.proofs.Names.{IsAccess, IsWellFormed, MayBeHeld}
use Rattle.std.proofs.Common.{◌≡◌, ◌≢◌, ◌-◌, ◌*◌, ◌/◌, ◌%◌, ◌^◌, ◌<◌, ◌≤◌, ◌∙◌, ◌⊎◌, ◌∷◌, if◌then◌else◌}

pub positive : (h : ℕ) → 0 < 32 ^ h
positive zero = omega arith
positive (suc h) = let less = positive h in omega (arith, less)

pub fits_64 : (h : ℕ) → h ≤ 4 → 32 ^ h < 2 ^ 64
fits_64 (suc (suc (suc (suc (suc h))))) le = absurd (omega (arith, le))
fits_64 other le = omega arith

pub bits_power : (h : ℕ) → h ≤ 4 → 2 ^ (5 * h) ≡ 32 ^ h
bits_power (suc (suc (suc (suc (suc h))))) le = absurd (omega (arith, le))
bits_power other le = refl

-- A tree of height at least one, and the slot on the way to the page.
module _ (os : List Object) (o h index : ℕ) (a : Access) (s : Capability) (some : 1 ≤ h)
    (there : s ≡ slot_at os o (index / 32 ^ (h - 1) % 32)) where
  abbrev k : ℕ
  k = h - 1

  descends : walk_along os (Space o h a) (path h index) ≡ below (suc k) a s (walk_along os s (path k index))
  descends = let higher : h ≡ suc k = omega (arith, some) in grind (arith, nat_tests)

  pub at_hole : s ≡ Void → walk_along os (Space o h a) (path h index) ≡ Err Hole
  at_hole is = descends ∙ ap (λ (c : Capability). below (suc k) a c (walk_along os c (path k index))) is

  pub at_page : (p : ℕ) (b : Access) → s ≡ Page p b → h ≡ 1 → walk_along os (Space o h a) (path h index) ≡ Ok (p, union a b.0)
  at_page p b is lowest = grind (arith, nat_tests, descends)

  pub at_early_page : (p : ℕ) (b : Access) → s ≡ Page p b → h ≢ 1 → walk_along os (Space o h a) (path h index) ≡ Err Malformed
  at_early_page p b is early = grind (arith, nat_tests, ne_eqb, descends)

  pub at_other_tree : (n l : ℕ) (b : Access) → s ≡ Space n l b → h - 1 ≢ l → walk_along os (Space o h a) (path h index) ≡ Err Malformed
  at_other_tree n l b is differ = grind (arith, nat_tests, ne_eqb, descends)

  pub at_other : s ≢ Void → ((p : ℕ) (b : Access) → s ≢ Page p b) → ((n l : ℕ) (b : Access) → s ≢ Space n l b) →
      walk_along os (Space o h a) (path h index) ≡ Err Malformed
  at_other void page space = grind (arith, nat_tests, descends)

abbrev IsSet : ℕ → Type 0
IsSet x = (x ≡ 0) ⊎ (x ≡ 1) ⊎ (x ≡ 3)

each : (P : ℕ → Type 0) → P 0 → P 1 → P 3 → (x : ℕ) → IsSet x → P x
each P a b c x x5 = grind (arith, nat_tests)

pub union_access : (a b : Access) → IsAccess a → IsAccess b → IsAccess (union a b.0)
union_access a b of_a of_b = grind (arith, nat_tests, each)

abbrev Merges : ℕ → ℕ → ℕ → Type 0
Merges x y z = bit_or x (bit_or y z) ≡ bit_or (bit_or x y) z

merges : (x y z : ℕ) → IsSet x → IsSet y → IsSet z → Merges x y z
merges x y z of_x of_y of_z = grind (arith, nat_tests, each)

-- the access to the page that is reached is a valid one
abbrev HasAccess : Result (ℕ × Access) MemoryFault → Type 0
HasAccess r = IfOk r (λ found. IsAccess found.1)

module _ (a b : Access) (r : Result (ℕ × Access) MemoryFault) (of_a : IsAccess a) (of_b : IsAccess b) (of : HasAccess r) where
  level_access : (t : Bool) → HasAccess (if t then restricted b r else Err Malformed)
  level_access x0 = grind (arith, nat_tests, union_access)

  level_twice : (t : Bool) → restricted a (if t then restricted b r else Err Malformed)
      ≡ (if t then restricted (union a b.0) r else Err Malformed)
  level_twice x0 = grind (arith, nat_tests, merges)

  below_access : (h : ℕ) (s : Capability) → HasAccess (below h b s r)
  below_access h x1 = grind (arith, nat_tests, level_access)

  below_twice : (h : ℕ) (s : Capability) → restricted a (below h b s r) ≡ below h (union a b.0) s r
  below_twice h x1 = grind (arith, nat_tests, level_twice)

module _ (os : List Object) (held : (n i : ℕ) → MayBeHeld os (slot_at os n i)) where
  walk_access : (c : Capability) (slots : List ℕ) → IsWellFormed c → HasAccess (walk_along os c slots)
  walk_access (Page o a) [] formed = formed
  walk_access (Space o h a) (slot ∷ slots) formed =
      below_access a a (walk_along os (slot_at os o slot) slots) formed.2 formed.2 (walk_access (slot_at os o slot) slots (held o slot).0) h
      (slot_at os o slot)
  walk_access c slots formed = tt

  -- if the slot holds a tree one level lower, the walk goes on there with both accesses merged
  pub goes_on : (o h index : ℕ) (a : Access) (s : Capability) → 1 ≤ h → s ≡ slot_at os o (index / 32 ^ (h - 1) % 32) →
      (n l : ℕ) (b : Access) → s ≡ Space n l b → l ≡ h - 1 → IsAccess a → IsAccess b →
      walk_along os (Space o h a) (path h index) ≡ walk_along os (Space n l (union a b.0)) (path l index)
  goes_on o h index a s some there n l b is level of_a of_b = grind (arith, nat_tests, eq-eqb, descends, below_twice, walk_access)
