-- Lists of numbers: their members, and the numbers of a range that pass a test.
use Rattle.model_laws.proofs.Names.{nat_tests, inl, inr, ℕ, zero, suc, nat_eq, Bool, true, false, cond, List, [], get_or, All, refl, sym, ap, arith, filter}
use Rattle.model_laws.proofs.Names.{range_with_len, false≢true, cases_eq, eq-eqb, ne_eqb, eqb-true, or_cases, or_from, list_any_at, is_member}
use Rattle.std.proofs.Common.{◌≡◌, ◌≢◌, ◌⊎◌, ◌+◌, ◌<◌, ◌≤◌, ◌∷◌, ◌∙◌}
use Rattle.model_laws.proofs.BankTree.{member_head}

-- no number occurs twice in a list
abbrev pub AllDiffer : List ℕ → Type 0
AllDiffer [] = Unit {0}
AllDiffer (n ∷ ns) = (is_member ns n ≡ false) × AllDiffer ns

pub member_cases : (m : ℕ) (ms : List ℕ) (n : ℕ) → is_member (m ∷ ms) n ≡ true → (n ≡ m) ⊎ (is_member ms n ≡ true)
member_cases m ms n e = elim (or_cases (nat_eq n m) (is_member ms n) e) [ inl same ↦ inl (eqb-true n m same) | inr later ↦ inr later ]

pub no_member : (m : ℕ) (ms : List ℕ) (n : ℕ) → n ≢ m → is_member ms n ≡ false → is_member (m ∷ ms) n ≡ false
no_member m ms n other none = or_from (nat_eq n m) (is_member ms n) (ne_eqb n m other) none

-- the list of one number has no other member
pub only_member : (o n : ℕ) → is_member (o ∷ []) n ≡ true → n ≡ o
only_member o n e = elim (member_cases o [] n e) [ inl same ↦ same | inr later ↦ absurd (false≢true later) ]

-- a property of each member of a list holds at each place
pub all_members : (P : ℕ → Type 0) (xs : List ℕ) → ((n : ℕ) → is_member xs n ≡ true → P n) → All P xs
all_members P xs each k d within = each (get_or xs k d) (list_any_at (nat_eq (get_or xs k d)) xs k d within
    (eq-eqb (get_or xs k d) (get_or xs k d) refl))

-- if a number is among those from `a` on that pass a test, it lies in the range and passes the test

pub found_in : (f : ℕ → Bool) (a count n : ℕ) → is_member (filter f (range_with_len a count)) n ≡ true →
    (a ≤ n) × (n < a + count) × (f n ≡ true)
found_in f a zero n e = absurd (false≢true e)
found_in f a (suc count) n e =
    go (f a) refl (λ more. let found = found_in f (a + 1) count n more in (omega (arith, found.0), omega (arith, found.1), found.2)) e
  where
    go : (t : Bool) → f a ≡ t
        → (is_member (filter f (range_with_len (a + 1) count)) n ≡ true → (a ≤ n) × (n < a + suc count) × (f n ≡ true))
        → is_member (cond t (a ∷ filter f (range_with_len (a + 1) count)) (filter f (range_with_len (a + 1) count))) n ≡ true
        → (a ≤ n) × (n < a + suc count) × (f n ≡ true)
    go t passes later e = grind (arith, nat_tests)

pub stands_in : (f : ℕ → Bool) (a count n : ℕ) → a ≤ n → n < a + count → f n ≡ true → is_member (filter f (range_with_len a count)) n ≡ true
stands_in f a zero n from below passes = absurd (omega (arith, from, below))
stands_in f a (suc count) n from below passes = elim (cases_eq n a) [
  | inl same ↦ rw (sym (ap f same) ∙ passes) (member_head n a (filter f (range_with_len (a + 1) count)) same)
  | inr other ↦ go (f a) (stands_in f (a + 1) count n (grind (arith, from, other)) (omega (arith, below)) passes)
]
  where
    go : (t : Bool) → is_member (filter f (range_with_len (a + 1) count)) n ≡ true
        → is_member (cond t (a ∷ filter f (range_with_len (a + 1) count)) (filter f (range_with_len (a + 1) count))) n ≡ true
    go t e = grind (arith, nat_tests)

pub filter_once : (f : ℕ → Bool) (a count : ℕ) → AllDiffer (filter f (range_with_len a count))
filter_once f a zero = tt
filter_once f a (suc count) = go (f a) (filter_once f (a + 1) count)
  where
    go : (t : Bool) → AllDiffer (filter f (range_with_len (a + 1) count)) →
        AllDiffer (cond t (a ∷ filter f (range_with_len (a + 1) count)) (filter f (range_with_len (a + 1) count)))
    go t rest = grind (arith, nat_tests, found_in)
