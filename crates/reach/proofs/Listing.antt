-- Listing the numbers of all processes.
use Rattle.reach.proofs.Names.{ℕ, false, true, List, [], length, inl, inr, ⊎_elim, refl, sym, subst, arith, IsTrue, Contains, cases_lt, Object, is_root}
use Rattle.reach.proofs.Names.{is_process, Contains-append_left, Contains-push, Contains-push_cases}
use Rattle.std.proofs.Common.{◌≡◌, ◌↔◌, ◌+◌, ◌<◌, ◌≤◌, ◌∷◌, ◌++◌, ◌∙◌}
use Rattle.reach.proofs.Members.{known}

-- these are the processes among the numbers below `below`
pub record Lists (os : List Object) (below : ℕ) (all : List ℕ) : Type 0 where
  pub some : (n : ℕ) → Contains all n → IsTrue (is_process os n)
  pub each : (n : ℕ) → n < below → IsTrue (is_process os n) → Contains all n

pub lists_first : (os : List Object) → Lists os 0 []
lists_first os = record { some = λ n listed. absurd (omega (arith, listed.1)); each = λ n lt. absurd (omega (arith, lt)) }

module _ (os : List Object) (i : ℕ) (all : List ℕ) (lists : Lists os i all) where
  pub lists_more : IsTrue (is_process os i) → Lists os (i + 1) (all ++ i ∷ [])
  lists_more is = record {
    some = λ n listed. ⊎_elim (λ before. lists.some n before) (λ here. subst (λ (m : ℕ). IsTrue (is_process os m)) here is)
        (Contains-push_cases all i n listed);
    each = λ n lt process. elim (cases_lt n i) [
      | inl below ↦ Contains-append_left all (i ∷ []) n (lists.each n below process)
      | inr past ↦ let here : i ≡ n = omega (arith, past, lt) in subst (λ (m : ℕ). Contains (all ++ i ∷ []) m) here (Contains-push all i)
    ];
  }

  pub lists_skip : is_process os i ≡ false → Lists os (i + 1) all
  lists_skip none = record {
    some = lists.some;
    each = λ n lt process. elim (cases_lt n i) [
      | inl below ↦ lists.each n below process
      | inr past ↦
          let here : i ≡ n = omega (arith, past, lt) in
          let both : false ≡ true = sym none ∙ subst (λ (m : ℕ). IsTrue (is_process os m)) (sym here) process in absurd (cc)
    ];
  }

  pub lists_whole : length os ≤ i → (n : ℕ) → Contains all n ↔ IsTrue (is_process os n)
  lists_whole whole n = (
    lists.some n,
    λ process. lists.each n (let there = known os n is_root refl process in omega (arith, there, whole))
        process,
  )
