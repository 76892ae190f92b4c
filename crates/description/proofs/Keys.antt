-- Which keys are known, and when two texts are equal.
use Rattle.description.proofs.Names.{ℕ, true, List, [], map, nat_eq, nat_cmp, is_eq, Bor, refl, sym, arith, nat_tests, same_from_slice_cmp, slice_cmp}
use Rattle.description.proofs.Names.{pointwise, list_any, same_key}
use Rattle.std.proofs.Common.{◌≡◌, ◌∷◌, ◌∙◌}

same_text : (a b : List ℕ) → pointwise nat_eq a b ≡ same_key b a
same_text a b = sym (same_from_slice_cmp nat_cmp is_eq (λ y x. pointwise nat_eq x y) refl (λ _ _. refl) (λ _ _. refl)
    (λ x y xs ys o h. grind (arith, nat_tests)) b a (slice_cmp nat_cmp b a) refl)

-- a key is among these names exactly if it equals one of them
pub among : (names : List (Bor (List ℕ))) (key : List ℕ) → list_any (λ y. pointwise nat_eq y.now key) names
    ≡ list_any (same_key key) (map (λ k. k.now) names)
among [] key = refl
among (n ∷ ns) key = rw (same_text n.now key, among ns key)

nat_self : (n : ℕ) → nat_eq n n ≡ true
nat_self n = grind (arith, nat_tests)

text_self : (a : List ℕ) → pointwise nat_eq a a ≡ true
text_self [] = refl
text_self (n ∷ ns) = rw (nat_self n, text_self ns) refl

-- a key equals itself
pub same_self : (key : List ℕ) → same_key key key ≡ true
same_self key = sym (same_text key key) ∙ text_self key
