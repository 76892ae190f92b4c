-- Rising lists of numbers, and lists of distinct numbers.
use Rattle.image_describer.proofs.Names.{nat_tests, ℕ, inl, inr, List, [], map, subst, arith, All, Contains, All-contains, All-head, All-push, All-tail}
use Rattle.image_describer.proofs.Names.{Contains-append_cases, AreDistinct, contains_here, contains_map, contains_there, map_contains, AreRising}
use Rattle.std.proofs.Common.{◌≡◌, ◌<◌, ◌∷◌, ◌++◌}

-- appending a number above all others leaves the list rising
pub rising_more : (ns : List ℕ) (n : ℕ) → AreRising ns → All (λ m. m < n) ns → AreRising (ns ++ n ∷ [])
rising_more [] n rising below = ((λ k d inside. absurd (omega (arith, inside))), tt)
rising_more (m ∷ ns) n rising below = (
  All-push (λ x. m < x) ns n rising.0 (All-head (λ x. x < n) m ns below),
  rising_more ns n rising.1 (All-tail (λ x. x < n) m ns below),
)

-- a rising list is distinct
pub rising_distinct : (ns : List ℕ) → AreRising ns → AreDistinct ns
rising_distinct [] rising = tt
rising_distinct (n ∷ ns) rising = grind (arith, nat_tests, rising_distinct ns rising.1, All-contains)

-- two distinct lists without a common number are distinct when joined
pub distinct_both : (ns ms : List ℕ) → AreDistinct ns → AreDistinct ms → ((n : ℕ) → Contains ns n → Contains ms n → ⊥) →
    AreDistinct (ns ++ ms)
distinct_both [] ms one other apart = other
distinct_both (n ∷ ns) ms one other apart = (
  (λ there. elim (Contains-append_cases ns ms n there) [
    | inl left ↦ one.0 left
    | inr right ↦ apart n (contains_here n ns) right
  ]),
  distinct_both ns ms one.1 other (λ m left right. apart m (contains_there m n ns left) right),
)

-- if first numbers are distinct, and items with equal second numbers have equal first ones, the second numbers are distinct
pub distinct_other : {E : Type 0} → (first second : E → ℕ) (es : List E) → AreDistinct (map first es)
    → ((e f : E) → Contains es e → Contains es f → second e ≡ second f → first e ≡ first f) → AreDistinct (map second es)
distinct_other first second [] distinct same = tt
distinct_other first second (e ∷ es) distinct same = (
  (λ there.
      let found = map_contains second (second e) es there in
      let one : first found.0 ≡ first e = same found.0 e (contains_there found.0 e es found.1) (contains_here e es) found.2 in
      distinct.0 (subst (Contains (map first es)) one (contains_map first found.0 es found.1))),
  distinct_other first second es distinct.1 (λ f h left right is. same f h (contains_there f e es left) (contains_there h e es right) is),
)

-- if a property holds of all numbers of one list and of none of the other, they have no common number
pub apart_by : (P : ℕ → Type 0) (ns ms : List ℕ) → All (λ n. P n → ⊥) ns → All P ms → (n : ℕ) → Contains ns n → Contains ms n → ⊥
apart_by P ns ms none all n left right = All-contains (λ m. P m → ⊥) ns n none left (All-contains P ms n all right)
