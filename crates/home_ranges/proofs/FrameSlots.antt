-- The log slots that hold frames, and their directory entries.
use Rattle.home_ranges.proofs.Names.{ℕ, suc, Bool, Option, Some, None, List, [], length, refl, sym, ap, inl, inr, arith, cases_eq, eq-eqb, ne_eqb, Entry}
use Rattle.home_ranges.proofs.Names.{entry_at, home_place, slot_in, slot_beside, or_beside, slot_by, frame_slot_in, Plan, found_slot, same_Some}
use Rattle.home_ranges.proofs.Names.{true, false, row, IsPlan, IsObject, shape_of, All, All-head, All-tail, IsEntry, slot_here, slot_behind}
use Rattle.home_ranges.proofs.Places.{IsWhole, alone}
use Rattle.std.proofs.Common.{◌≡◌, ◌<◌, ◌∷◌, ◌∙◌}
use Rattle.std.specs.Prelude.{if◌then◌else◌}

-- ---- the first entry whose object shares a home with object n

pub beside_here : (p : Plan) (e : Entry) (es : List Entry) (n : ℕ) → home_place p e.object ≡ home_place p n →
    slot_beside p (e ∷ es) n ≡ Some e.slot
beside_here p e es n is = ap (λ (b : Bool). if b then Some e.slot else slot_beside p es n)
    (eq-eqb (home_place p e.object) (home_place p n) is)

pub beside_behind : (p : Plan) (e : Entry) (es : List Entry) (n : ℕ) → (home_place p e.object ≡ home_place p n → ⊥) →
    slot_beside p (e ∷ es) n ≡ slot_beside p es n
beside_behind p e es n other = ap (λ (b : Bool). if b then Some e.slot else slot_beside p es n)
    (ne_eqb (home_place p e.object) (home_place p n) other)

-- an entry whose object has the home of n has this slot
pub record HasBeside (p : Plan) (es : List Entry) (n slot : ℕ) : Type 0 where
  pub index : ℕ
  pub within : index < length es
  pub home_is : home_place p (entry_at es index).object ≡ home_place p n
  pub slot_is : (entry_at es index).slot ≡ slot

pub found_beside : (p : Plan) (es : List Entry) (n s : ℕ) → slot_beside p es n ≡ Some s → HasBeside p es n s
found_beside p [] n s is = absurd cc
found_beside p (e ∷ es) n s is = elim (cases_eq (home_place p e.object) (home_place p n)) [
  | inl same ↦ record { index = 0; within = omega arith; home_is = same; slot_is = same_Some _ _ (sym (beside_here p e es n same) ∙ is) }
  | inr other ↦
      let rest = found_beside p es n s (sym (beside_behind p e es n other) ∙ is) in
      record { index = suc rest.index; within = omega (arith, rest.within); home_is = rest.home_is; slot_is = rest.slot_is }
]

-- ---- the slot with an object's frame

frame_slot_by : (p : Plan) (es : List Entry) (n : ℕ) {own : Option ℕ} → (row p.version).sealed ≡ false → slot_in es n ≡ own →
    frame_slot_in p es n ≡ or_beside own (slot_beside p es n)
frame_slot_by p es n unsealed is = ap (λ (s : Bool). slot_by s p es n) unsealed ∙ ap (λ (o : Option ℕ). or_beside o (slot_beside p es n)) is

-- in a version without seals this is the object's own slot, if it has one
pub own_frame_slot : (p : Plan) (es : List Entry) (n : ℕ) {s : ℕ} → (row p.version).sealed ≡ false → slot_in es n ≡ Some s →
    frame_slot_in p es n ≡ Some s
own_frame_slot p es n {s} unsealed is = frame_slot_by p es n unsealed is

-- else that of the first entry with the same home
pub beside_frame_slot : (p : Plan) (es : List Entry) (n : ℕ) → slot_in es n ≡ None → frame_slot_in p es n ≡ slot_beside p es n
beside_frame_slot p es n is = by (row p.version).sealed refl where
  by : (sealed : Bool) → (row p.version).sealed ≡ sealed → frame_slot_in p es n ≡ slot_beside p es n
  by true is_sealed = ap (λ (s : Bool). slot_by s p es n) is_sealed
  by false unsealed = frame_slot_by p es n unsealed is

-- in a version with seals it is always that one
pub sealed_frame_slot : (p : Plan) (es : List Entry) (n : ℕ) → (row p.version).sealed ≡ true → frame_slot_in p es n ≡ slot_beside p es n
sealed_frame_slot p es n sealed = ap (λ (s : Bool). slot_by s p es n) sealed

-- a slot that holds the frame of n is that of an entry whose object has the home of n
pub frame_slot_entry : (p : Plan) (es : List Entry) (n s : ℕ) → frame_slot_in p es n ≡ Some s → HasBeside p es n s
frame_slot_entry p es n s frame_slot = by (row p.version).sealed refl (slot_in es n) refl where
  by : (sealed : Bool) → (row p.version).sealed ≡ sealed → (o : Option ℕ) → slot_in es n ≡ o → HasBeside p es n s
  by true is_sealed o own = found_beside p es n s (sym (sealed_frame_slot p es n is_sealed) ∙ frame_slot)
  by false unsealed None none = found_beside p es n s (sym (beside_frame_slot p es n none) ∙ frame_slot)
  by false unsealed (Some t) own =
      let entry = found_slot es n t own in
      let same : t ≡ s = same_Some _ _ (sym (own_frame_slot p es n unsealed own) ∙ frame_slot) in
      record { index = entry.index; within = entry.within; home_is = ap (home_place p) entry.object_is; slot_is = entry.slot_is ∙ same }

-- if a frame fills its block, the first entry with its home is its object's own
pub beside_alone : (p : Plan) (es : List Entry) (n : ℕ) → IsPlan p → IsObject p.geometry n → IsWhole (shape_of p n) →
    All (IsEntry p.geometry) es → slot_beside p es n ≡ slot_in es n
beside_alone p [] n fits is whole each = refl
beside_alone p (e ∷ es) n fits is whole each = elim (cases_eq e.object n) [
  | inl same ↦ beside_here p e es n (ap (home_place p) same) ∙ sym (slot_here e es n same)
  | inr other ↦
      beside_behind p e es n
      (λ home. other (alone fits (All-head (IsEntry p.geometry) e es each).object is home whole))
      ∙ beside_alone p es n fits is whole (All-tail (IsEntry p.geometry) e es each) ∙ sym (slot_behind e es n other)
]

-- so its frame is in its own slot in each version
pub alone_frame_slot : (p : Plan) (es : List Entry) (n : ℕ) → IsPlan p → IsObject p.geometry n → IsWhole (shape_of p n) →
    All (IsEntry p.geometry) es → frame_slot_in p es n ≡ slot_in es n
alone_frame_slot p es n fits is whole each = by (row p.version).sealed refl (slot_in es n) refl where
  by : (sealed : Bool) → (row p.version).sealed ≡ sealed → (o : Option ℕ) → slot_in es n ≡ o → frame_slot_in p es n ≡ slot_in es n
  by true is_sealed o own = sealed_frame_slot p es n is_sealed ∙ beside_alone p es n fits is whole each
  by false unsealed None none = beside_frame_slot p es n none ∙ beside_alone p es n fits is whole each
  by false unsealed (Some t) own = own_frame_slot p es n unsealed own ∙ sym own
