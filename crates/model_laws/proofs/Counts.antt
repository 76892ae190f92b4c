-- Counts over numbered lists.
use Rattle.model_laws.proofs.Names.{ℕ, suc, Bool, true, false, cond, List, [], length, get_or, inl, inr, refl, arith, zero-add, add-zero, count_by}
use Rattle.model_laws.proofs.Names.{enumerate_from, cases_eq, eq-eqb, ne_eqb, sum_by-cons, and-false, and-true}
use Rattle.std.proofs.Common.{◌≡◌, ◌+◌, ◌==◌, ◌<◌, ◌≤◌, ◌&&◌, ◌∷◌, ◌∙◌}
use Rattle.std.specs.Prelude.{if◌then◌else◌}

-- two counts add up to a third if they do so at each number
pub count_both : {X : Type 0} (p q r : ℕ × X → Bool) (k : ℕ) (xs ys : List X) (d : X) → length ys ≡ length xs
    → ((i j : ℕ) → j ≡ k + i → cond (p (j, get_or ys i d)) 1 0 + cond (q (j, get_or xs i d)) 1 0 ≡ cond (r (j, get_or xs i d)) 1 0)
    → count_by p (enumerate_from k ys) + count_by q (enumerate_from k xs) ≡ count_by r (enumerate_from k xs)
count_both p q r k [] [] d e each = omega arith
count_both p q r k (x ∷ xs) (y ∷ ys) d e each =
    let rest = count_both p q r (k + 1) xs ys d (omega arith) (λ i j is. each (suc i) j (omega arith)) in
    rw (
      sum_by-cons (λ z. cond (p z) 1 0) (k, y) (enumerate_from (k + 1) ys),
      sum_by-cons (λ z. cond (q z) 1 0) (k, x) (enumerate_from (k + 1) xs),
      sum_by-cons (λ z. cond (r z) 1 0) (k, x) (enumerate_from (k + 1) xs),
    ) (omega (arith, rest, each 0 k (omega arith)))
count_both p q r k xs ys d e each = absurd (omega arith)

-- if a test fails at each number, it counts nothing
pub count_none : {X : Type 0} (p : ℕ × X → Bool) (xs : List X) (d : X) → ((i : ℕ) → p (i, get_or xs i d) ≡ false) →
    count_by p (enumerate_from 0 xs) ≡ 0
count_none p xs d fails =
    omega (arith, count_both p p p 0 xs xs d refl (λ i j e. let same : i ≡ j = omega (arith, e) in rw (same, fails j) refl))

-- two tests that agree at each number count the same
pub count_alike : {X : Type 0} (p q : ℕ × X → Bool) (xs ys : List X) (d : X) → length ys ≡ length xs →
    ((i : ℕ) → p (i, get_or ys i d) ≡ q (i, get_or xs i d)) → count_by p (enumerate_from 0 ys) ≡ count_by q (enumerate_from 0 xs)
count_alike p q xs ys d size agree =
    omega (
      arith,
      count_none (λ z. false) xs d (λ i. refl),
      count_both p (λ z. false) q 0 xs ys d size (λ i j e. let same : i ≡ j = omega (arith, e) in rw (same, agree j) (add-zero _)),
    )

none_before : {X : Type 0} (m k : ℕ) (xs : List X) → m < k → count_by (λ p. p.0 == m) (enumerate_from k xs) ≡ 0
none_before m k [] e = refl
none_before {X} m k (x ∷ xs) e =
    rw (sum_by-cons (λ (z : ℕ × X). cond (z.0 == m) 1 0) (k, x) (enumerate_from (k + 1) xs), ne_eqb k m (λ same. omega (arith, e, same)))
    (zero-add _ ∙ none_before m (k + 1) xs (omega (arith, e)))

-- exactly one item of a list has the number m
pub one_within : {X : Type 0} (m k : ℕ) (xs : List X) → k ≤ m → m < k + length xs → count_by (λ p. p.0 == m) (enumerate_from k xs) ≡ 1
one_within m k [] from below = absurd (omega (arith, from, below))
one_within {X} m k (x ∷ xs) from below =
    rw (sum_by-cons (λ (z : ℕ × X). cond (z.0 == m) 1 0) (k, x) (enumerate_from (k + 1) xs))
    (elim (cases_eq k m) [
      | inl same ↦ rw (eq-eqb k m same, none_before m (k + 1) xs (omega (arith, same))) refl
      | inr other ↦ rw (ne_eqb k m other) (zero-add _ ∙ one_within m (k + 1) xs (grind (arith, from, other)) (omega (arith, below)))
    ])

-- among numbered items, the count of those with number m where b holds is one if b holds, else zero
pub count_where : {X : Type 0} (m : ℕ) (b : Bool) (xs : List X) (d : X) → m < length xs
    → count_by (λ p. (p.0 == m) && b) (enumerate_from 0 xs) ≡ (if b then 1 else 0)
count_where {X} m true xs d below =
    (λ k. count_by (λ (p : ℕ × X). and-true (p.0 == m) k) (enumerate_from 0 xs)) ∙ one_within m 0 xs (omega arith) (omega (arith, below))
count_where {X} m false xs d below = count_none (λ (p : ℕ × X). (p.0 == m) && false) xs d (λ i. and-false (i == m))
