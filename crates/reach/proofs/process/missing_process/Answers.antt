use Rattle.reach.proofs.Names.{common_steps, ℕ, zero, suc, true, false, not, List, [], length, Some, None, refl, sym, ap, arith, IsTrue, find, cases_lt}
use Rattle.reach.proofs.Names.{get_or_default, Object, is_process, slice_index_or}
use Rattle.std.proofs.Common.{◌≡◌, ◌<◌, ◌∷◌}
use Rattle.reach.proofs.process.missing_process.Goals as goal

module _ (os : List Object) where
  find_first : (xs : List ℕ) (i : ℕ) → ((k d : ℕ) → k < i → IsTrue (is_process os (slice_index_or xs k d))) → i < length xs →
      is_process os (slice_index_or xs i 0) ≡ false
      → find (λ n. not (is_process os n)) xs ≡ Some (slice_index_or xs i 0)
  find_first [] i before lt other = absurd (omega (arith, lt))
  find_first (x ∷ xs) zero before lt other = let test : not (is_process os x) ≡ true = ap not other in rw test refl
  find_first (x ∷ xs) (suc i) before lt other =
      let test : not (is_process os x) ≡ false = ap not (before 0 0 (omega arith)) in
      rw test (find_first xs i (λ k d below. before (suc k) d (omega (arith, below))) (omega (arith, lt)) other)

  find_none : (xs : List ℕ) → ((k d : ℕ) → k < length xs → IsTrue (is_process os (slice_index_or xs k d))) →
      find (λ n. not (is_process os n)) xs ≡ None
  find_none [] all = refl
  find_none (x ∷ xs) all =
      let test : not (is_process os x) ≡ false = ap not (all 0 0 (omega arith)) in
      rw test (find_none xs (λ k d below. all (suc k) d (omega (arith, below))))

pub returns-then-not-is_process-clause-first : goal.returns-then-not-is_process-clause-first
returns-then-not-is_process-clause-first c = grind (arith, common_steps, find_first)

pub loop-number-preserved : goal.loop-number-preserved
loop-number-preserved c k d lt = grind (arith, common_steps, cases_lt, get_or_default)

pub returns-clause-first : goal.returns-clause-first
returns-clause-first c = sym (find_none _ _ (λ k d lt. c.loop-number.invariant k d (omega (arith, lt, c.loop-number-test.false))))

pub returns-clause-none : goal.returns-clause-none
returns-clause-none c none k d lt = c.loop-number.invariant k d (omega (arith, lt, c.loop-number-test.false))
