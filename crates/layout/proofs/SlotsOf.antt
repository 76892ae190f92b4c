-- The slots that a directory assigns.
use Rattle.layout.proofs.Names.{nat_tests, [], ℕ, zero, suc, Bool, Some, None, List, length, refl, sym, ap, subst, inl, inr, arith, cases_eq, eq-eqb, ne_eqb}
use Rattle.layout.proofs.Names.{same_Some, Entry, entry_at, AreRising, slot_in}
use Rattle.std.proofs.Common.{◌≡◌, ◌+◌, ◌<◌, ◌∷◌, ◌∙◌}
use Rattle.std.specs.Prelude.{if◌then◌else◌}

-- an entry of the directory assigns this slot to this object
pub record HasSlot (es : List Entry) (object slot : ℕ) : Type 0 where
  pub index : ℕ
  pub within : index < length es
  pub object_is : (entry_at es index).object ≡ object
  pub slot_is : (entry_at es index).slot ≡ slot

pub slot_here : (e : Entry) (es : List Entry) (n : ℕ) → e.object ≡ n → slot_in (e ∷ es) n ≡ Some e.slot
slot_here e es n is = ap (λ (b : Bool). if b then Some e.slot else slot_in es n) (eq-eqb e.object n is)

pub slot_behind : (e : Entry) (es : List Entry) (n : ℕ) → (e.object ≡ n → ⊥) → slot_in (e ∷ es) n ≡ slot_in es n
slot_behind e es n other = ap (λ (b : Bool). if b then Some e.slot else slot_in es n) (ne_eqb e.object n other)

pub found_slot : (es : List Entry) (n s : ℕ) → slot_in es n ≡ Some s → HasSlot es n s
found_slot [] n s is = absurd cc
found_slot (e ∷ es) n s is = elim (cases_eq e.object n) [
  | inl same ↦ record { index = 0; within = omega arith; object_is = same; slot_is = same_Some e.slot s (sym (slot_here e es n same) ∙ is) }
  | inr other ↦
      let rest = found_slot es n s (sym (slot_behind e es n other) ∙ is) in
      record { index = suc rest.index; within = omega (arith, rest.within); object_is = rest.object_is; slot_is = rest.slot_is }
]

rising_behind : (e : Entry) (es : List Entry) → AreRising (e ∷ es) → AreRising es
rising_behind e es rising i lt =
    let next : suc i + 1 ≡ suc (i + 1) = omega arith in
    subst (λ (k : ℕ). (entry_at (e ∷ es) (suc i)).object < (entry_at (e ∷ es) k).object) next (rising (suc i) (omega (arith, lt)))

-- in a directory the first object is less than all others
rising_above : (es : List Entry) (e : Entry) (i : ℕ) → AreRising (e ∷ es) → i < length es → e.object < (entry_at es i).object
rising_above es e zero rising lt = rising 0 (omega (arith, lt))
rising_above es e (suc i) rising lt =
    grind (arith, nat_tests, rising_behind e es rising i (omega (arith, lt)), rising_above es e i rising (omega (arith, lt)))

-- a directory assigns to the object of each entry that entry's slot
pub own_slot : (es : List Entry) (i : ℕ) → AreRising es → i < length es → slot_in es (entry_at es i).object ≡ Some (entry_at es i).slot
own_slot [] i rising lt = absurd (omega (arith, lt))
own_slot (e ∷ es) zero rising lt = slot_here e es e.object refl
own_slot (e ∷ es) (suc i) rising lt =
    let less = rising_above es e i rising (omega (arith, lt)) in
    slot_behind e es (entry_at es i).object (λ same. omega (arith, less, same))
    ∙ own_slot es i (rising_behind e es rising) (omega (arith, lt))

-- in a directory each object is less than the objects of later entries
pub rising_to : (es : List Entry) (i j : ℕ) → AreRising es → i < j → j < length es → (entry_at es i).object < (entry_at es j).object
rising_to [] i j rising lt within = absurd (omega (arith, within))
rising_to (e ∷ es) zero zero rising lt within = absurd (omega (arith, lt))
rising_to (e ∷ es) zero (suc j) rising lt within = rising_above es e j rising (omega (arith, within))
rising_to (e ∷ es) (suc i) zero rising lt within = absurd (omega (arith, lt))
rising_to (e ∷ es) (suc i) (suc j) rising lt within = rising_to es i j (rising_behind e es rising) (omega (arith, lt))
    (omega (arith, within))

-- two entries of a directory have different objects
pub two_objects : (es : List Entry) (i j : ℕ) → AreRising es → i < j → j < length es → (entry_at es i).object ≡ (entry_at es j).object → ⊥
two_objects es i j rising lt within same = omega (arith, rising_to es i j rising lt within, same)

-- an object without an entry has no slot
pub no_slot : (es : List Entry) (n : ℕ) → ((i : ℕ) → i < length es → (entry_at es i).object ≡ n → ⊥) → slot_in es n ≡ None
no_slot [] n none = refl
no_slot (e ∷ es) n none = slot_behind e es n (none 0 (omega arith)) ∙ no_slot es n (λ i lt. none (suc i) (omega (arith, lt)))
