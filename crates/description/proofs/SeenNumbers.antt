-- Searching a list for a number that occurs twice: the numbers already seen are marked.
use Rattle.description.proofs.Names.{ℕ, List, [], Bool, true, false, length, inl, inr, refl, subst, take, take_more, slice_index, slice_set, Contains}
use Rattle.description.proofs.Names.{Contains-append_cases, get_or-set_other, get_or-set_same, is_marked, AreDistinct, true≢false, sym}
use Rattle.std.proofs.Common.{◌≡◌, ◌+◌, ◌<◌, ◌∷◌, ◌∙◌}
use Rattle.description.proofs.FieldFlaws.{distinct_more}
use Rattle.description.proofs.Lists.{contains_cases, contains_none}

-- the first i numbers are marked and distinct
pub record AreSeen (marks : List Bool) (ns : List ℕ) (i : ℕ) : Type 0 where
  pub distinct : AreDistinct (take i ns)
  pub marked : (n : ℕ) → Contains (take i ns) n → is_marked marks n ≡ true

-- if the next number isn't among the first i, marking it marks the first i + 1
pub one_seen : (marks : List Bool) (ns : List ℕ) (i : ℕ) → i < length ns → slice_index ns i < length marks →
    (Contains (take i ns) (slice_index ns i) → ⊥) → AreSeen marks ns i → AreSeen (slice_set marks (slice_index ns i) true) ns (i + 1)
one_seen marks ns i within inside none seen = record {
  distinct = distinct_more ns i (slice_index ns i) within refl none seen.distinct;
  marked = λ n there. elim (Contains-append_cases (take i ns) (slice_index ns i ∷ []) n
      (subst (λ (ms : List ℕ). Contains ms n) (take_more ns i 0 within) there)) [
        | inl before ↦ get_or-set_other marks (slice_index ns i) n true false (λ (is : n ≡ slice_index ns i). none
            (subst (Contains (take i ns)) is before))
            ∙ seen.marked n before
        | inr last ↦ elim (contains_cases n (slice_index ns i) [] last) [
          | inl is ↦ subst (λ (m : ℕ). is_marked (slice_set marks (slice_index ns i) true) m ≡ true) is
              (get_or-set_same marks (slice_index ns i) true false inside)
          | inr nowhere ↦ absurd (contains_none n nowhere)
        ]
      ];
}

-- if a number isn't marked, it isn't among the earlier ones
pub unseen : (marks : List Bool) (before : List ℕ) (n : ℕ) → ((m : ℕ) → Contains before m → is_marked marks m ≡ true) →
    is_marked marks n ≡ false → Contains before n → ⊥
unseen marks before n marked un there = true≢false (sym (marked n there) ∙ un)
