-- Two lists that are related item by item.
use Rattle.description.proofs.Names.{nat_tests, ℕ, zero, suc, List, [], map, length, slice_index_or, slice_set, refl, sym, ap, subst, arith, All, AllZip}
use Rattle.description.proofs.Names.{AllZip-get_or, length_all_zip}
use Rattle.std.proofs.Common.{◌≡◌, ◌+◌, ◌<◌, ◌≤◌, ◌∷◌, ◌∙◌}

-- the first i items are related, and the others are equal
abbrev pub ZipBelow : {A : Type 0} → (A → A → Type 0) → ℕ → List A → List A → Type 0
ZipBelow R zero xs ys = xs ≡ ys
ZipBelow R (suc i) [] [] = Unit {0}
ZipBelow R (suc i) [] (y ∷ ys) = ⊥
ZipBelow R (suc i) (x ∷ xs) [] = ⊥
ZipBelow R (suc i) (x ∷ xs) (y ∷ ys) = R x y × ZipBelow R i xs ys

module _ {A : Type 0} (R : A → A → Type 0) where
  set_below : (i : ℕ) (xs ys : List A) (d v : A) → i < length ys → R (slice_index_or ys i d) v → ZipBelow R i xs ys →
      ZipBelow R (suc i) xs (slice_set ys i v)
  set_below zero xs (y ∷ ys) d v inside is below = subst (λ (zs : List A). ZipBelow R 1 zs (v ∷ ys)) (sym below) (is, refl)
  set_below (suc i) (x ∷ xs) (y ∷ ys) d v inside is below = (below.0, set_below i xs ys d v (omega (arith, inside)) is below.1)
  set_below i xs ys d v inside is below = absurd (grind (arith, nat_tests))

  -- rewriting one more item relates the first i + 1
  pub zip_set : (i : ℕ) (xs ys : List A) (d v : A) → i < length ys → R (slice_index_or ys i d) v → ZipBelow R i xs ys →
      ZipBelow R (i + 1) xs (slice_set ys i v)
  zip_set i xs ys d v inside is below =
      let more : suc i ≡ i + 1 = omega arith in
      subst (λ (n : ℕ). ZipBelow R n xs (slice_set ys i v)) more (set_below i xs ys d v inside is below)

  -- if the first i items are all items, the lists are related
  pub zip_whole : (i : ℕ) (xs ys : List A) → length ys ≤ i → ZipBelow R i xs ys → AllZip R xs ys
  zip_whole zero [] [] within below = tt
  zip_whole (suc i) [] [] within below = tt
  zip_whole (suc i) (x ∷ xs) (y ∷ ys) within below = (below.0, zip_whole i xs ys (omega (arith, within)) below.1)
  zip_whole i xs ys within below = absurd (grind (arith, nat_tests))

  -- if P x gives Q y for related items x and y, and P holds of all items of one list, Q holds of all of the other
  pub zip_all : (P Q : A → Type 0) → ((x y : A) → R x y → P x → Q y) → (xs ys : List A) → AllZip R xs ys → All P xs → All Q ys
  zip_all P Q on xs ys zip all = λ k d inside.
      let first : k < length xs = omega (arith, inside, length_all_zip R xs ys zip) in
      on (slice_index_or xs k d) (slice_index_or ys k d) (AllZip-get_or R xs ys k d d zip first) (all k d first)

  pub zip_map : {B : Type 0} → (f g : A → B) → ((x y : A) → R x y → g y ≡ f x) → (xs ys : List A) → AllZip R xs ys → map g ys ≡ map f xs
  zip_map f g on [] [] zip = refl
  zip_map f g on [] (y ∷ ys) zip = absurd zip
  zip_map f g on (x ∷ xs) [] zip = absurd zip
  zip_map {B} f g on (x ∷ xs) (y ∷ ys) zip = ap (λ (b : B). b ∷ map g ys) (on x y zip.0)
      ∙ ap (λ (bs : List B). f x ∷ bs) (zip_map f g on xs ys zip.1)

-- if each item is f of its partner, the list is the other one mapped by f
pub zip_mapped : {A : Type 0} → (f : A → A) (xs ys : List A) → AllZip (λ x y. y ≡ f x) xs ys → ys ≡ map f xs
zip_mapped f [] [] zip = refl
zip_mapped f [] (y ∷ ys) zip = absurd zip
zip_mapped f (x ∷ xs) [] zip = absurd zip
zip_mapped {A} f (x ∷ xs) (y ∷ ys) zip = ap (λ (z : A). z ∷ ys) zip.0 ∙ ap (λ (zs : List A). f x ∷ zs) (zip_mapped f xs ys zip.1)
