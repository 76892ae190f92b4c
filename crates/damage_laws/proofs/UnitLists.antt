-- Lists of units and of seals that differ in one place.
use Rattle.damage_laws.proofs.Names.{ℕ, List, [], zero, suc, ap, refl, sym, inl, inr, arith, cases_eq, append_assoc, flat_map, range_with_len, Entry}
use Rattle.damage_laws.proofs.Names.{entries_bytes, piece, seals_of, Unit, root_of, directory_sums, unit_of, seal_in, one_old_sector, one_old_unit, Fit, Sums}
use Rattle.std.proofs.Common.{◌≡◌, ◌+◌, ◌-◌, ◌<◌, ◌≤◌, ◌++◌, ◌∷◌, ◌∙◌}

-- ---- units

pub split_map : (f : ℕ → List Unit) (at n k : ℕ) → k < n → flat_map f (range_with_len at n)
    ≡ flat_map f (range_with_len at k) ++ (f (at + k) ++ flat_map f (range_with_len (at + k + 1) (n - k - 1)))
split_map f at zero k lt = absurd (omega (arith, lt))
split_map f at (suc n) zero lt =
    let here : at ≡ at + 0 = omega arith in
    let rest : n ≡ suc n - 0 - 1 = omega arith in
    ap (λ (i : ℕ). f i ++ flat_map f (range_with_len (i + 1) n)) here
    ∙ ap (λ (m : ℕ). f (at + 0) ++ flat_map f (range_with_len (at + 0 + 1) m)) rest
split_map f at (suc n) (suc k) lt =
    let here : at + 1 + k ≡ at + suc k = omega arith in
    let rest : n - k - 1 ≡ suc n - suc k - 1 = omega arith in
    let front : List Unit = flat_map f (range_with_len (at + 1) k) in
    ap (λ (us : List Unit). f at ++ us) (split_map f (at + 1) n k (omega (arith, lt)))
    ∙ ap (λ (i : ℕ). f at ++ (front ++ (f i ++ flat_map f (range_with_len (i + 1) (n - k - 1))))) here
    ∙ ap (λ (m : ℕ). f at ++ (front ++ (f (at + suc k) ++ flat_map f (range_with_len (at + suc k + 1) m)))) rest
    ∙ sym (append_assoc (f at) front (f (at + suc k) ++ flat_map f (range_with_len (at + suc k + 1) (suc n - suc k - 1))))

pub same_map : (f g : ℕ → List Unit) (at n : ℕ) → ((i : ℕ) → at ≤ i → i < at + n → f i ≡ g i) →
    flat_map f (range_with_len at n) ≡ flat_map g (range_with_len at n)
same_map f g at zero same = refl
same_map f g at (suc n) same =
    ap (λ (us : List Unit). us ++ flat_map f (range_with_len (at + 1) n)) (same at (omega arith) (omega arith))
    ∙ ap (λ (us : List Unit). g at ++ us) (same_map f g (at + 1) n (λ i ge lt. same i (omega (arith, ge)) (omega (arith, lt))))

-- if units are the same but for one seal, and have one root, that seal is the same too
pub one_seal : (f g : ℕ → List Unit) (n k : ℕ) (s t : Sums) → k < n → ((i : ℕ) → i < n → (i ≡ k → ⊥) → f i ≡ g i) →
    f k ≡ unit_of k s ∷ [] → g k ≡ unit_of k t ∷ [] → Fit s → Fit t →
    root_of (flat_map f (range_with_len 0 n)) ≡ root_of (flat_map g (range_with_len 0 n)) → s ≡ t
one_seal f g n k s t lt same is_f is_g fs ft roots =
    let here : 0 + k ≡ k = omega arith in
    let before : List Unit = flat_map f (range_with_len 0 k) in
    let after : List Unit = flat_map f (range_with_len (0 + k + 1) (n - k - 1)) in
    let split_f : flat_map f (range_with_len 0 n) ≡ before ++ unit_of k s ∷ after =
    split_map f 0 n k lt ∙ ap (λ (us : List Unit). before ++ (us ++ after)) (ap f here ∙ is_f) in
    let split_g : flat_map g (range_with_len 0 n) ≡ before ++ unit_of k t ∷ after =
    split_map g 0 n k lt
    ∙ ap (λ (us : List Unit). us ++ (g (0 + k) ++ flat_map g (range_with_len (0 + k + 1) (n - k - 1))))
    (sym (same_map f g 0 k (λ i ge less. same i (omega (arith, less, lt)) (λ e. omega (arith, e, less)))))
    ∙ ap (λ (us : List Unit). before ++ (g (0 + k) ++ us))
    (sym (same_map f g (0 + k + 1) (n - k - 1) (λ i ge less. same i (omega (arith, less, lt)) (λ e. omega (arith, e, ge)))))
    ∙ ap (λ (us : List Unit). before ++ (us ++ after)) (ap g here ∙ is_g) in
    one_old_unit before after k s t fs ft (ap root_of (sym split_f) ∙ roots ∙ ap root_of split_g)

-- ---- seals of a directory

abbrev pub seal_of : List Entry → ℕ → Sums
seal_of es k = seal_in (entries_bytes (piece es k))

-- both lists of seals, split at sector j
pub record AreSplit (ds es : List Entry) (j n : ℕ) : Type 0 where
  pub before : List Sums
  pub first : seals_of ds n ≡ before ++ seal_of ds j ∷ seals_of es j
  pub second : seals_of es n ≡ before ++ seal_of es j ∷ seals_of es j

module _ (ds es : List Entry) (j : ℕ) where
  same_seals : (n : ℕ) → ((k : ℕ) → k < n → seal_of ds k ≡ seal_of es k) → seals_of ds n ≡ seals_of es n
  same_seals zero same = refl
  same_seals (suc n) same =
      ap (λ (s : Sums). s ∷ seals_of ds n) (same n (omega arith))
      ∙ ap (λ (ss : List Sums). seal_of es n ∷ ss) (same_seals n (λ k lt. same k (omega (arith, lt))))

  split_seals : (n : ℕ) → j < n → ((k : ℕ) → k < n → (k ≡ j → ⊥) → seal_of ds k ≡ seal_of es k) → AreSplit ds es j n
  split_seals zero lt same = absurd (omega (arith, lt))
  split_seals (suc n) lt same =
      elim (cases_eq j n) [
        | inl here ↦
            let below : seals_of ds j ≡ seals_of es j =
            same_seals j (λ k less. same k (omega (arith, less, lt)) (λ e. omega (arith, e, less))) in
            record {
              before = [];
              first = ap (λ (k : ℕ). seal_of ds k ∷ seals_of ds k) (sym here) ∙ ap (λ (ss : List Sums). seal_of ds j ∷ ss) below;
              second = ap (λ (k : ℕ). seal_of es k ∷ seals_of es k) (sym here);
            }
        | inr other ↦
            let rest = split_seals n (omega (arith, lt, other)) (λ k less. same k (omega (arith, less))) in
            record {
              before = seal_of es n ∷ rest.before;
              first = ap (λ (s : Sums). s ∷ seals_of ds n) (same n (omega arith) (λ e. other (sym e)))
                  ∙ ap (λ (ss : List Sums). seal_of es n ∷ ss) rest.first;
              second = ap (λ (ss : List Sums). seal_of es n ∷ ss) rest.second;
            }
      ]

  -- if sectors are the same but for one seal, and have the same sums, that seal is the same too
  pub one_sector : (n : ℕ) → j < n → ((k : ℕ) → k < n → (k ≡ j → ⊥) → seal_of ds k ≡ seal_of es k) → Fit (seal_of ds j) →
      Fit (seal_of es j) → directory_sums (seals_of ds n) ≡ directory_sums (seals_of es n) → seal_of ds j ≡ seal_of es j
  one_sector n lt same fd fe sums =
      let split = split_seals n lt same in
      one_old_sector split.before (seals_of es j) (seal_of ds j) (seal_of es j) fd fe
      (ap directory_sums (sym split.first) ∙ sums ∙ ap directory_sums split.second)
