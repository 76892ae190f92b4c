-- The root of units, after one of them was replaced.
use Rattle.migrator.proofs.Names.{ℕ, zero, suc, Bool, List, [], Sums, true, false, refl, sym, ap, arith, range_with_len, flat_map-append, flat_map, Unit}
use Rattle.migrator.proofs.Names.{root_of, unit_of, IsRootWith}
use Rattle.std.proofs.Common.{◌≡◌, ◌+◌, ◌-◌, ◌<◌, ◌≤◌, ◌∷◌, ◌++◌, ◌∙◌}
use Rattle.std.specs.Prelude.{if◌then◌else◌}

-- ---- lists

range_split : (a m r : ℕ) → range_with_len a (m + r) ≡ range_with_len a m ++ range_with_len (a + m) r
range_split a zero r =
    let none : zero + r ≡ r = omega arith in
    let here : a ≡ a + zero = omega arith in
    ap (range_with_len a) none ∙ ap (λ (b : ℕ). range_with_len b r) here
range_split a (suc m) r =
    let one : suc m + r ≡ suc (m + r) = omega arith in
    let on : a + 1 + m ≡ a + suc m = omega arith in
    ap (range_with_len a) one
    ∙ ap (λ (t : List ℕ). a ∷ t) (range_split (a + 1) m r ∙ ap (λ (b : ℕ). range_with_len (a + 1) m ++ range_with_len b r) on)

same_parts : (f g : ℕ → List Unit) (a r : ℕ) → ((n : ℕ) → a ≤ n → n < a + r → f n ≡ g n) →
    flat_map f (range_with_len a r) ≡ flat_map g (range_with_len a r)
same_parts f g a zero same = refl
same_parts f g a (suc r) same =
    ap (λ (us : List Unit). us ++ flat_map f (range_with_len (a + 1) r)) (same a (omega arith) (omega arith))
    ∙ ap (λ (us : List Unit). g a ++ us) (same_parts f g (a + 1) r (λ n low lt. same n (omega (arith, low)) (omega (arith, lt))))

-- the parts of the numbers before m, that of m, and those of the r numbers after it
parts_split : (f : ℕ → List Unit) (m r : ℕ) → flat_map f (range_with_len 0 (m + suc r))
    ≡ flat_map f (range_with_len 0 m) ++ (f m ++ flat_map f (range_with_len (m + 1) r))
parts_split f m r =
    let here : 0 + m ≡ m = omega arith in
    ap (flat_map f) (range_split 0 m (suc r) ∙ ap (λ (b : ℕ). range_with_len 0 m ++ range_with_len b (suc r)) here)
    ∙ flat_map-append f (range_with_len 0 m) (range_with_len m (suc r))

-- ---- units

-- the unit of a number, if it begins one
abbrev pub part_by : Bool → Unit → List Unit
part_by begins u = if begins then u ∷ [] else []

part_same : (b : Bool) (u v : Unit) → (b ≡ true → u ≡ v) → part_by b u ≡ part_by b v
part_same true u v same = ap (λ (w : Unit). w ∷ []) (same refl)
part_same false u v same = refl

-- a number's unit has the number
abbrev pub HasNumber : ℕ → Unit → Type 0
HasNumber n u = u ≡ unit_of n u.seal

module _ (begins : ℕ → Bool) (k : ℕ) where
  -- the units of the numbers below k
  abbrev pub units_by : (ℕ → Unit) → List Unit
  units_by f = flat_map (λ n. part_by (begins n) (f n)) (range_with_len 0 k)

  pub same_units_by : (f g : ℕ → Unit) → ((n : ℕ) → n < k → begins n ≡ true → f n ≡ g n) → units_by f ≡ units_by g
  same_units_by f g same =
      same_parts (λ n. part_by (begins n) (f n)) (λ n. part_by (begins n) (g n)) 0 k
      (λ n low lt. part_same (begins n) (f n) (g n) (same n (omega (arith, lt))))

  -- the units before number m, and those after it
  abbrev before : (ℕ → Unit) → ℕ → List Unit
  before f m = flat_map (λ n. part_by (begins n) (f n)) (range_with_len 0 m)

  abbrev after : (ℕ → Unit) → ℕ → List Unit
  after f m = flat_map (λ n. part_by (begins n) (f n)) (range_with_len (m + 1) (k - suc m))

  around : (f : ℕ → Unit) (m : ℕ) → m < k → begins m ≡ true → units_by f ≡ before f m ++ f m ∷ after f m
  around f m lt is =
      let all : k ≡ m + suc (k - suc m) = omega (arith, lt) in
      ap (λ (n : ℕ). flat_map (λ i. part_by (begins i) (f i)) (range_with_len 0 n)) all
      ∙ parts_split (λ n. part_by (begins n) (f n)) m (k - suc m)
      ∙ ap (λ (b : Bool). before f m ++ (part_by b (f m) ++ after f m)) is

  -- if only the unit of number m differs, its new seal in place of the old one gives the new root
  pub replaced_one : (f g : ℕ → Unit) (m : ℕ) (root new : Sums) → m < k → begins m ≡ true → HasNumber m (f m) → HasNumber m (g m) →
      ((n : ℕ) → (n ≡ m → ⊥) → n < k → begins n ≡ true → f n ≡ g n) → root ≡ root_of (units_by f) →
      IsRootWith m (f m).seal (g m).seal root new → new ≡ root_of (units_by g)
  replaced_one f g m root new lt is old_is new_is same was step =
      let front : before f m ≡ before g m = same_parts (λ n. part_by (begins n) (f n)) (λ n. part_by (begins n) (g n)) 0 m
      (λ n low less. part_same (begins n) (f n) (g n) (same n (λ e. omega (arith, e, less)) (omega (arith, lt, less)))) in
      let back : after f m ≡ after g m = same_parts (λ n. part_by (begins n) (f n)) (λ n. part_by (begins n) (g n)) (m + 1) (k - suc m)
      (λ n low less. part_same (begins n) (f n) (g n) (same n (λ e. omega (arith, e, low)) (omega (arith, lt, less)))) in
      step (before f m) (after f m)
      (was ∙ ap root_of (around f m lt is) ∙ ap (λ (u : Unit). root_of (before f m ++ u ∷ after f m)) old_is)
      ∙ ap (λ (u : Unit). root_of (before f m ++ u ∷ after f m)) (sym new_is)
      ∙ ap (λ (us : List Unit). root_of (us ++ g m ∷ after f m)) front
      ∙ ap (λ (us : List Unit). root_of (before g m ++ g m ∷ us)) back
      ∙ ap root_of (sym (around g m lt is))
