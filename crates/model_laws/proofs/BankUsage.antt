-- Usages after a new object; what an order of a bank does if chains and roles are the same.
use Rattle.model_laws.proofs.Names.{nat_tests, inl, inr, ℕ, false, not, add-zero, zero-add, List, [], length, map, refl, sym, arith, IsTrue, filter, list_all}
use Rattle.model_laws.proofs.Names.{range_with_len, cases_eq, eq-eqb, ne_eqb, and_right, Capability, Geometry, Content, Object, free, is_bank, is_free}
use Rattle.model_laws.proofs.Names.{object_at, content_at, chain, is_under, usage, are_free, free_nodes, free_pages, has_quota, with_new, freed_by, under}
use Rattle.model_laws.proofs.Names.{owned_by, left_of, least, remaining, is_member}
use Rattle.std.specs.Prelude.{nat_le, if◌then◌else◌}
use Rattle.std.proofs.Common.{◌≡◌, ◌≢◌, ◌+◌, ◌==◌, ◌<◌, ◌&&◌, ◌||◌, ◌∷◌, ◌∙◌}
use Rattle.model_laws.proofs.Counts.{count_both, count_none, count_where}
use Rattle.model_laws.proofs.Usage.{SameFrame, tests_at, chain_same, under_same, usage_same}
use Rattle.model_laws.proofs.BankTree.{IsTree, bank_not_free, chain_banks, chain_new, at_new, at_other, length_new}

-- an object of a bank at a number that is free
module _ (os : List Object) (n b : ℕ) (c : Content Capability) (t : IsTree os) (bank : IsTrue (is_bank (content_at os b)))
    (inside : n < length os)
    (unused : IsTrue (is_free (content_at os n))) (used : is_free c ≡ false) (short : IsTrue (is_bank c) → length (chain os b) < 16) where
  kept_chain : (x : ℕ) → IsTrue (is_bank (content_at os x)) → chain (with_new os n b c) x ≡ chain os x
  kept_chain = chain_new os n b c t bank inside unused used short

  -- all other objects are under the same banks as before
  under_kept : (x y : ℕ) → y ≢ n → is_under (with_new os n b c) x (object_at (with_new os n b c) y) ≡ is_under os x (object_at os y)
  under_kept x y differ = grind (arith, nat_tests, at_other, kept_chain)

  -- before the new object is made, no object is under its number
  under_none : (y : ℕ) → is_under os n (object_at os y) ≡ false
  under_none y = grind (arith, nat_tests, bank_not_free, chain_banks)

  -- a new object of bank b is under exactly the banks in the chain of b
  under_new : (x : ℕ) → is_under (with_new os n b c) x (object_at (with_new os n b c) n) ≡ is_member (chain os b) x
  under_new x = grind (arith, nat_tests, at_new, kept_chain)

  -- a new object adds one to the usage of each bank in its bank's chain
  pub usage_new : (x : ℕ) → IsTrue (is_bank (content_at os x)) → usage (with_new os n b c) x
      ≡ usage os x + (if is_member (chain os b) x then 1 else 0)
  unfolding usage
  usage_new x is =
      let us = with_new os n b c in
      let gains = is_member (chain os b) x in
      omega (
        arith,
        count_where n gains us free (omega (arith, length_new os n b c)),
        count_both (λ p. not (p.0 == x) && is_under os x p.1) (λ p. (p.0 == n) && gains) (λ p. not (p.0 == x) && is_under us x p.1) 0 us os
            free
            (sym (length_new os n b c)) (λ i j at. let same : i ≡ j = omega (arith, at) in rw same (elim (cases_eq j n) [
              | inl here ↦ rw (here, ne_eqb n x (λ e. bank_not_free os x n is unused (sym e)), eq-eqb n n refl, under_new x, unused)
                  (zero-add _)
              | inr differ ↦ rw (ne_eqb j n differ, under_kept x j differ) (add-zero _)
            ])),
      )

  -- a new bank has usage 0
  pub usage_new_bank : IsTrue (is_bank c) → usage (with_new os n b c) n ≡ 0
  unfolding usage
  usage_new_bank is =
      count_none (λ p. not (p.0 == n) && is_under (with_new os n b c) n p.1) (with_new os n b c) free (λ i. elim (cases_eq i n) [
        | inl e ↦ rw (eq-eqb i n e) refl
        | inr differ ↦ and_right (not (i == n)) (is_under (with_new os n b c) n (object_at (with_new os n b c) i))
            (under_kept n i differ ∙ under_none i)
      ])

-- If two lists of objects agree in owners, roles, annexes and limits (`SameFrame`), an order of a bank does the same in both.

module _ (os us : List Object) (s : SameFrame os us) where
  free_alike : (ns : List ℕ) → are_free us ns ≡ are_free os ns
  free_alike ns = λ k. filter (λ n. (tests_at os us s n).free k) ns

  pub nodes_alike : (g : Geometry) → free_nodes g us ≡ free_nodes g os
  unfolding free_nodes
  nodes_alike g = free_alike (range_with_len 0 g.nodes)

  pub pages_alike : (g : Geometry) → free_pages g us ≡ free_pages g os
  unfolding free_pages
  pages_alike g = free_alike (range_with_len g.nodes g.pages)

  pub room_alike : (b count : ℕ) → has_quota us b count ≡ has_quota os b count
  unfolding has_quota
  room_alike b count = λ k. list_all (λ c. nat_le (usage_same os us s c k + count) ((s.alike c).limit k)) (chain_same os us s b k)

  pub freed_alike : (c : Capability) → freed_by us c ≡ freed_by os c
  freed_alike c = grind (arith, nat_tests)

  pub under_alike : (b : ℕ) → under us b ≡ under os b
  unfolding under
  under_alike b = grind (arith, nat_tests, under_same)

  pub owned_alike : (b : ℕ) → owned_by us b ≡ owned_by os b
  unfolding owned_by
  owned_alike b = λ k. filter (λ n. not ((tests_at os us s n).free k) && ((s.alike n).owner k == b)) (range_with_len 0 (s.size k))

  left_alike : (b : ℕ) → left_of us b ≡ left_of os b
  left_alike b = rw ((s.alike b).limit, usage_same os us s b) refl

  pub remaining_alike : (b : ℕ) → remaining us b ≡ remaining os b
  unfolding remaining
  remaining_alike b = λ k. least (left_alike b k) (map (λ c. left_alike c k) (chain_same os us s b k))
