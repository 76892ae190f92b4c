-- The units at home, and their root.
use Rattle.image_writer.proofs.Names.{ℕ, Bool, List, [], true, false, ap, sym, refl, inl, inr, arith, flat_map, range_with_len, object_count, Image, Elsewhere}
use Rattle.image_writer.proofs.Names.{home_place, place_length, sectors_from, Plan, IsPlan, IsFirstOf, Unit, Sums, begins_unit, home_unit, home_units, root_of}
use Rattle.image_writer.proofs.Names.{seal_in, unit_of, zero, suc, cases_Bool, append-nil, map-id, flat_map-append, map-range_with_len_more, IsRootAfter}
use Rattle.std.proofs.Common.{◌≡◌, ◌+◌, ◌<◌, ◌≤◌, ◌∷◌, ◌++◌, ◌∙◌}
use Rattle.std.specs.Prelude.{if◌then◌else◌}
use Rattle.image_writer.proofs.Firsts.{begins_first, first_begins, one_first}
use Rattle.image_writer.proofs.HomeFrames.{lesser, other_home}

-- ---- lists

counting_more : (k : ℕ) → range_with_len 0 (k + 1) ≡ range_with_len 0 k ++ k ∷ []
counting_more k =
    sym (map-id (range_with_len 0 (k + 1))) ∙ map-range_with_len_more (λ (n : ℕ). n) 0 k k (omega arith)
    ∙ ap (λ (xs : List ℕ). xs ++ k ∷ []) (map-id (range_with_len 0 k))

parts_more : (f : ℕ → List Unit) (k : ℕ) → flat_map f (range_with_len 0 (k + 1)) ≡ flat_map f (range_with_len 0 k) ++ f k
parts_more f k =
    ap (flat_map f) (counting_more k) ∙ flat_map-append f (range_with_len 0 k) (k ∷ [])
    ∙ ap (λ (us : List Unit). flat_map f (range_with_len 0 k) ++ us) (append-nil (f k))

same_parts : (f g : ℕ → List Unit) (a r : ℕ) → ((n : ℕ) → a ≤ n → n < a + r → f n ≡ g n) →
    flat_map f (range_with_len a r) ≡ flat_map g (range_with_len a r)
same_parts f g a zero same = refl
same_parts f g a (suc r) same =
    ap (λ (us : List Unit). us ++ flat_map f (range_with_len (a + 1) r)) (same a (omega arith) (omega arith))
    ∙ ap (λ (us : List Unit). g a ++ us) (same_parts f g (a + 1) r (λ n low lt. same n (omega (arith, low)) (omega (arith, lt))))

abbrev part_by : Bool → Unit → List Unit
part_by begins u = if begins then u ∷ [] else []

part_same : (b : Bool) (u v : Unit) → (b ≡ true → u ≡ v) → part_by b u ≡ part_by b v
part_same true u v same = ap (λ (w : Unit). w ∷ []) (same refl)
part_same false u v same = refl

-- units that are equal one by one
pub same_list : (p : Plan) (f g : ℕ → Unit) (k : ℕ) → ((n : ℕ) → n < k → begins_unit p n ≡ true → f n ≡ g n) →
    flat_map (λ n. if begins_unit p n then f n ∷ [] else []) (range_with_len 0 k)
    ≡ flat_map (λ n. if begins_unit p n then g n ∷ [] else []) (range_with_len 0 k)
same_list p f g k same =
    same_parts (λ n. part_by (begins_unit p n) (f n)) (λ n. part_by (begins_unit p n) (g n)) 0 k
    (λ n low lt. part_same (begins_unit p n) (f n) (g n) (same n (omega (arith, lt))))

units_more : (image : Image) (p : Plan) (k : ℕ) {begins : Bool} → begins_unit p k ≡ begins →
    home_units image p (k + 1) ≡ home_units image p k ++ part_by begins (home_unit image p k)
units_more image p k {begins} is =
    parts_more (λ n. part_by (begins_unit p n) (home_unit image p n)) k
    ∙ ap (λ (b : Bool). home_units image p k ++ part_by b (home_unit image p k)) is

-- ---- one more home

module _ (old mid new : Image) (p : Plan) (n : ℕ) (fits : IsPlan p) (lt : n < object_count p.geometry)
    (change : Elsewhere (home_place p n) (place_length p n) mid new) (start : IsFirstOf p n n) where
  same_units : home_units new p n ≡ home_units mid p n
  same_units =
      same_list p (home_unit new p) (home_unit mid p) n
      (λ m less begins.
      ap (λ (b : List ℕ). record { number = m; seal = seal_in (unit_of p m b) })
      (other_home old mid new p n fits lt change m (omega (arith, less, lt)) (lesser old mid new p n fits lt change start m less)))

  -- the root with the unit at the home of n
  pub root_more : {root more seal : Sums} → root ≡ root_of (home_units mid p n) →
      seal ≡ seal_in (unit_of p n (sectors_from new (home_place p n) (place_length p n))) → IsRootAfter n seal root more →
      more ≡ root_of (home_units new p (n + 1))
  root_more {root} {more} {seal} was is after =
      after (home_units mid p n) was
      ∙ ap (λ (us : List Unit). root_of (us ++ record { number = n; seal = seal } ∷ [])) (sym same_units)
      ∙ ap (λ (s : Sums). root_of (home_units new p n ++ record { number = n; seal = s } ∷ [])) is
      ∙ ap root_of (sym (units_more new p n (first_begins p n fits lt start)))

-- a number that shares its home with a lesser one begins no unit
pub root_same : (image : Image) (p : Plan) (n first : ℕ) {root : Sums} → IsPlan p → n < object_count p.geometry → first < n →
    IsFirstOf p n first → root ≡ root_of (home_units image p n) → root ≡ root_of (home_units image p (n + 1))
root_same image p n first {root} fits lt low start was = elim (cases_Bool (begins_unit p n)) [
  | inl begins ↦
      let same = one_first p n first n (omega (arith, low, lt)) lt start (begins_first p n fits lt begins) in
      absurd (omega (arith, same, low))
  | inr none ↦ was ∙ ap root_of (sym (append-nil (home_units image p n)) ∙ sym (units_more image p n none))
]
