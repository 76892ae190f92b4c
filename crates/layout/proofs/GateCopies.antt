-- How often a number occurs in a list.
use Rattle.layout.proofs.Names.{ℕ, List, [], length, get_or, zero, suc, subst, sym, refl, inl, inr, arith, cases_eq, nat_tests, differences, copies}
use Rattle.std.proofs.Common.{replicate, ◌≡◌, ◌+◌, ◌<◌, ◌≤◌, ◌∷◌, ◌++◌, ◌∙◌}

pub copies_here : (n x : ℕ) (xs : List ℕ) → x ≡ n → copies n (x ∷ xs) ≡ 1 + copies n xs
copies_here n x xs e = grind (arith, nat_tests)

pub copies_later : (n x : ℕ) (xs : List ℕ) → (x ≡ n → ⊥) → copies n (x ∷ xs) ≡ copies n xs
copies_later n x xs ne = grind (arith, nat_tests)

pub copies_push : (n x : ℕ) (xs : List ℕ) → copies n (xs ++ x ∷ []) ≡ copies n xs + copies n (x ∷ [])
copies_push n x [] = omega arith
copies_push n x (y ∷ xs) = omega (arith, copies_push n x xs)

pub copies_most : (n : ℕ) (xs : List ℕ) → copies n xs ≤ length xs
copies_most n [] = omega arith
copies_most n (x ∷ xs) =
    elim (cases_eq x n) [
      | inl e ↦ omega (arith, copies_here n x xs e, copies_most n xs)
      | inr ne ↦ omega (arith, copies_later n x xs ne, copies_most n xs)
    ]

-- two numbers that differ have together at most as many copies as the list has items
pub copies_of_two : (m n : ℕ) (xs : List ℕ) → (m ≡ n → ⊥) → copies m xs + copies n xs ≤ length xs
copies_of_two m n [] ne = omega arith
copies_of_two m n (x ∷ xs) ne =
    elim (cases_eq x m) [
      | inl e ↦
          omega (arith, copies_here m x xs e, copies_later n x xs (λ e'. ne (sym e ∙ e')), copies_of_two m n xs ne)
      | inr no_m ↦
          elim (cases_eq x n) [
            | inl e ↦ omega (arith, copies_later m x xs no_m, copies_here n x xs e, copies_of_two m n xs ne)
            | inr no_n ↦ omega (arith, copies_later m x xs no_m, copies_later n x xs no_n, copies_of_two m n xs ne)
          ]
    ]

-- a number that isn't in a list has no copy
pub copies_none : (n : ℕ) (xs : List ℕ) → ((k : ℕ) → k < length xs → get_or xs k 0 ≡ n → ⊥) → copies n xs ≡ 0
copies_none n [] none = refl
copies_none n (x ∷ xs) none =
    omega (
      arith,
      copies_later n x xs (λ e. none 0 (omega arith) e),
      copies_none n xs (λ k lt e. none (suc k) (omega (arith, lt)) e),
    )

pub copies_all : (n count : ℕ) → copies n (replicate count n) ≡ count
copies_all n zero = refl
copies_all n (suc count) = omega (arith, copies_here n n (replicate count n) refl, copies_all n count)

-- lists with k differences have numbers of copies that differ by at most k
pub copies_stay : (n : ℕ) (xs ys : List ℕ) → length xs ≡ length ys → copies n xs ≤ copies n ys + differences xs ys
copies_stay n [] [] len = omega arith
copies_stay n [] (y ∷ ys) len = absurd (omega (arith, len))
copies_stay n (x ∷ xs) [] len = absurd (omega (arith, len))
copies_stay n (x ∷ xs) (y ∷ ys) len =
    let rest = copies_stay n xs ys (omega (arith, len)) in
    grind (arith, nat_tests)

-- if no item occurs 33 times in a list, no number does
pub no_majority : (xs : List ℕ) (i : ℕ) → length xs ≤ i → ((k : ℕ) → k < i → 0 < get_or xs k 0 → 33 ≤ copies (get_or xs k 0) xs → ⊥) →
    (n : ℕ) → 0 < n → 33 ≤ copies n xs → ⊥
no_majority xs i past none n some most =
    omega (
      arith,
      most,
      copies_none n xs (λ k lt e. none k (omega (arith, lt, past)) (omega (arith, e, some))
          (subst (λ (m : ℕ). 33 ≤ copies m xs) (sym e) most)),
    )
