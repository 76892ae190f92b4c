-- Lists: the item at an index after a change, and counts of items.
use Rattle.std.proofs.lemmas.Bool.Decides.{nat_tests}
use Rattle.std.proofs.Common.{ℕ, zero, suc, Bool, true, false, List, [], length, map, set, get_or, Some, refl, ap, arith}
use Rattle.std.proofs.Common.{length-set}
use Rattle.std.proofs.lemmas.List.{get_or-map, get_or_past, length-map}
use Rattle.std.proofs.lemmas.List.Sums.{count_by-le-length, sum_by-set}
use Rattle.std.specs.List.{count_by, slice_get}
use Rattle.std.proofs.Common.{◌≡◌, ◌≢◌, ◌+◌, ◌<◌, ◌∷◌, ◌++◌, ◌∙◌}

module _ {X : Type 0} where
  pub get_set_here : (xs : List X) (i : ℕ) (y : X) → i < length xs → slice_get (set xs i y) i ≡ Some y
  get_set_here [] i y within = absurd (omega (arith, within))
  get_set_here (x ∷ xs) zero y within = refl
  get_set_here (x ∷ xs) (suc i) y within = get_set_here xs i y (omega (arith, within))

  pub get_set_other : (xs : List X) (i j : ℕ) (y : X) → j ≢ i → slice_get (set xs i y) j ≡ slice_get xs j
  get_set_other [] i j y other = refl
  get_set_other (x ∷ xs) zero zero y other = absurd (other refl)
  get_set_other (x ∷ xs) zero (suc j) y other = refl
  get_set_other (x ∷ xs) (suc i) zero y other = refl
  get_set_other (x ∷ xs) (suc i) (suc j) y other = get_set_other xs i j y (λ same. other (ap suc same))

  pub get_append : (xs : List X) (y : X) (j : ℕ) → j < length xs → slice_get (xs ++ y ∷ []) j ≡ slice_get xs j
  get_append [] y j within = absurd (omega (arith, within))
  get_append (x ∷ xs) y zero within = refl
  get_append (x ∷ xs) y (suc j) within = get_append xs y j (omega (arith, within))

  pub get_append_end : (xs : List X) (y : X) → slice_get (xs ++ y ∷ []) (length xs) ≡ Some y
  get_append_end [] y = refl
  get_append_end (x ∷ xs) y = get_append_end xs y

  pub get_some : (xs : List X) (k : ℕ) → k < length xs → (x : X) × (slice_get xs k ≡ Some x)
  get_some [] k within = absurd (omega (arith, within))
  get_some (x ∷ xs) zero within = (x, refl)
  get_some (x ∷ xs) (suc k) within = get_some xs k (omega (arith, within))

  -- a list that has v at index n, and agrees with xs at every other index, is xs with n set to v
  pub changed_once : (xs ys : List X) (n : ℕ) (d v : X) → length ys ≡ length xs → n < length xs → get_or ys n d ≡ v →
      ((m : ℕ) → m ≢ n → get_or ys m d ≡ get_or xs m d) → ys ≡ set xs n v
  changed_once [] ys n d v size within here others = absurd (omega (arith, within))
  changed_once (x ∷ xs) [] n d v size within here others = absurd (omega (arith, size))
  changed_once (x ∷ xs) (y ∷ ys) zero d v size within here others =
      ap (λ (z : X). z ∷ ys) here ∙ ap (λ (zs : List X). v ∷ zs) (all_same xs ys (omega (arith, size))
      (λ m. others (suc m) (λ same. omega (arith, same))))
    where
      all_same : (xs ys : List X) → length ys ≡ length xs → ((m : ℕ) → get_or ys m d ≡ get_or xs m d) → ys ≡ xs
      all_same [] [] size same = refl
      all_same [] (y ∷ ys) size same = absurd (omega (arith, size))
      all_same (x ∷ xs) [] size same = absurd (omega (arith, size))
      all_same (x ∷ xs) (y ∷ ys) size same = ap (λ (z : X). z ∷ ys) (same 0) ∙ ap (λ (zs : List X). x ∷ zs)
          (all_same xs ys (omega (arith, size)) (λ m. same (suc m)))
  changed_once (x ∷ xs) (y ∷ ys) (suc n) d v size within here others =
      ap (λ (z : X). z ∷ ys) (others 0 (λ same. omega (arith, same)))
      ∙ ap (λ (zs : List X). x ∷ zs) (changed_once xs ys n d v (omega (arith, size)) (omega (arith, within)) here
      (λ m other. others (suc m) (λ same. other (omega (arith, same)))))

  -- replacing an item that isn't counted by one that is raises the count by one
  pub one_counted : (p : X → Bool) (xs : List X) (n : ℕ) (d y : X) → n < length xs → p (get_or xs n d) ≡ false → p y ≡ true →
      count_by p (set xs n y) ≡ count_by p xs + 1
  one_counted p xs n d y within was is = grind (arith, nat_tests, sum_by-set)

  -- if some item isn't counted, the count is less than the length
  pub not_all_counted : (p : X → Bool) (xs : List X) (n : ℕ) (d y : X) → n < length xs → p (get_or xs n d) ≡ false → p y ≡ true →
      count_by p xs < length xs
  not_all_counted p xs n d y within was is = omega (
    arith,
    one_counted p xs n d y within was is,
    count_by-le-length p (set xs n y),
    length-set xs n y,
  )

-- an item of a mapped list is the mapped item, if the map takes the default to the default
pub get_map : {X Y : Type 0} (f : X → Y) (xs : List X) (k : ℕ) (d : X) (e : Y) → f d ≡ e → get_or (map f xs) k e ≡ f (get_or xs k d)
get_map f xs k d e is = grind (arith, nat_tests, get_or-map, get_or_past, length-map)
