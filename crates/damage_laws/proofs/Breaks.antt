-- Which headers count after header s or s - 1 has broken.
use Rattle.damage_laws.proofs.Names.{ℕ, None, Some, ap, refl, subst, sym, inl, inr, arith, cases_lt, Image, IsWhole, IsPair, IsRefused, OthersStay, Counts}
use Rattle.damage_laws.proofs.Names.{IsCommitted, Slots, NoPair, counts_before, is_number, one_each, SealedHeader, header_sector, sound_or_not, are_slots}
use Rattle.damage_laws.proofs.Names.{opens_in, slots_in, IsDamaged, Commits}
use Rattle.std.proofs.Common.{◌≡◌, ◌+◌, ◌-◌, ◌%◌, ◌<◌, ◌⊎◌, ◌∙◌}
use Rattle.damage_laws.proofs.Headers.{none_of, others_stay, own_gate, sound_shows}
use Rattle.damage_laws.proofs.Rows.{Touches, same_at, touched_or_same}

counts_or_not : (slots : Slots) (n : ℕ) → Counts slots n ⊎ (Counts slots n → ⊥)
counts_or_not slots n =
    elim (is_number (slots (n % 3)).header n) [
      | inl header ↦
          elim (is_number (slots (n % 3)).gate n) [
            | inl gate ↦ inl (record { header = header; gate = gate })
            | inr none ↦ inr (λ is. none is.gate)
          ]
      | inr none ↦ inr (λ is. none is.header)
    ]

pair_or_not : (slots : Slots) (t : ℕ) → IsPair slots t ⊎ (IsPair slots t → ⊥)
pair_or_not slots t =
    elim (cases_lt 0 t) [
      | inl positive ↦
          elim (counts_or_not slots t) [
            | inl counts ↦
                elim (counts_or_not slots (t - 1)) [
                  | inl neighbour ↦ inl (record { positive = positive; counts = counts; neighbour = neighbour })
                  | inr none ↦ inr (λ is. none is.neighbour)
                ]
            | inr none ↦ inr (λ is. none is.counts)
          ]
      | inr zero ↦ inr (λ is. let positive : 0 < t = is.positive in omega (arith, positive, zero))
    ]

-- s was committed, and then the header in one slot broke
module _ (slot : ℕ) (old new : Slots) (s : ℕ) (was : IsCommitted old s) (others : OthersStay slot old new)
    (broken : (new slot).header ≡ None) where
  counted_before : (n : ℕ) → Counts new n → (n % 3 ≡ slot → ⊥) × Counts old n
  counted_before n it =
      let other : n % 3 ≡ slot → ⊥ = λ e.
      let lost : Some n ≡ None = sym it.header ∙ ap (λ (k : ℕ). (new k).header) e ∙ broken in
      cc in
      (other, counts_before slot old new n others other it)

  -- if that was the header s - 1, no pair is left
  pub no_pair : slot ≡ (s + 2) % 3 → IsRefused new NoPair
  no_pair here t pair =
      let positive = pair.positive in
      let high = counted_before t pair.counts in
      let low = counted_before (t - 1) pair.neighbour in
      let same : t - 1 ≡ s = one_each old (t - 1) s low.1 was.pair.counts (omega (arith, high.0, low.0, here, positive)) in
      let next : t ≡ s + 1 = omega (arith, same, positive) in
      was.next (subst (λ (n : ℕ). (old (n % 3)).gate ≡ Some n) next high.1.gate)

  -- if it was the header s, only the pair before can be left
  last_pair : slot ≡ s % 3 → (t : ℕ) → IsPair new t → t ≡ s - 1
  last_pair here t pair =
      let positive = pair.positive in
      let above = was.pair.positive in
      let high = counted_before t pair.counts in
      let low = counted_before (t - 1) pair.neighbour in
      one_each old t (s - 1) high.1 was.pair.neighbour (omega (arith, high.0, low.0, here, positive, above))

  pub none_committed : slot ≡ s % 3 → (new slot).gate ≡ (old slot).gate → (t : ℕ) → IsCommitted new t → ⊥
  none_committed here gate t is =
      let positive = is.pair.positive in
      let last : t ≡ s - 1 =
      last_pair here t (record { positive = positive; counts = is.pair.counts; neighbour = is.pair.neighbour }) in
      let next : s ≡ t + 1 = omega (arith, last, positive) in
      let kept : (new (s % 3)).gate ≡ Some s =
      ap (λ (k : ℕ). (new k).gate) (sym here) ∙ gate ∙ ap (λ (k : ℕ). (old k).gate) here ∙ was.pair.counts.gate in
      is.next (subst (λ (n : ℕ). (new (n % 3)).gate ≡ Some n) next kept)

  pub none_or_pair : slot ≡ s % 3 → IsRefused new NoPair ⊎ IsPair new (s - 1)
  none_or_pair here =
      elim (pair_or_not new (s - 1)) [
        | inl pair ↦ inr pair
        | inr none ↦ inl (λ t pair. none (subst (λ (n : ℕ). IsPair new n) (last_pair here t pair) pair))
      ]

-- the same of an image in which a burst broke the header
module _ (bit size : ℕ) (old new : Image) (is_old : IsWhole size old) (is_new : IsWhole size new) (damaged : IsDamaged bit old new)
    (h : SealedHeader) (commits : Commits old h) where
  abbrev s : ℕ
  s = h.header.sequence

  committed : IsCommitted (slots_in old) s
  committed = (opens_in old h commits).committed

  -- header n has changed
  abbrev Changed : ℕ → Type 0
  Changed n = new (header_sector (n % 3)) ≡ old (header_sector (n % 3)) → ⊥

  breaks : (n : ℕ) → Counts (slots_in old) n → Changed n → (slots_in new (n % 3)).header ≡ None
  breaks n counts changed =
      let slot : ℕ = n % 3 in
      let at : ℕ = header_sector slot in
      elim (sound_or_not (new at)) [
        | inl sound ↦
            absurd (changed (same_at bit size old new is_old is_new damaged at
            (λ b. sound_shows b (old at) (new at) n sound.0 (((are_slots old).header slot n).0 counts.header) sound.1)))
        | inr broken ↦ none_of (slots_in new slot).header (λ m e. broken m (((are_slots new).header slot m).0 e))
      ]

  touched : (n : ℕ) → Changed n → Touches bit (header_sector (n % 3))
  touched n changed = elim (touched_or_same bit size old new is_old is_new damaged (header_sector (n % 3))) [
    | inl here ↦ here
    | inr same ↦ absurd (changed same)
  ]

  others : (n : ℕ) → Changed n → OthersStay (n % 3) (slots_in old) (slots_in new)
  others n changed = others_stay bit size old new is_old is_new damaged (n % 3) (touched n changed)

  pub before_breaks : (new (header_sector ((s + 2) % 3)) ≡ old (header_sector ((s + 2) % 3)) → ⊥) → IsRefused (slots_in new) NoPair
  before_breaks changed =
      let positive = committed.pair.positive in
      let slot : (s + 2) % 3 ≡ (s - 1) % 3 = omega (arith, positive) in
      let there : Changed (s - 1) =
      subst (λ (k : ℕ). new (header_sector k) ≡ old (header_sector k) → ⊥) slot changed in
      no_pair ((s - 1) % 3) (slots_in old) (slots_in new) s committed (others (s - 1) there)
      (breaks (s - 1) committed.pair.neighbour there) (sym slot)

  module _ (changed : Changed s) where
    broken : (slots_in new (s % 3)).header ≡ None
    broken = breaks s committed.pair.counts changed

    pub this_breaks : IsRefused (slots_in new) NoPair ⊎ IsPair (slots_in new) (s - 1)
    this_breaks = none_or_pair (s % 3) (slots_in old) (slots_in new) s committed (others s changed) broken refl

    pub this_commits_none : (g : SealedHeader) → Commits new g → ⊥
    this_commits_none g is =
        none_committed (s % 3) (slots_in old) (slots_in new) s committed (others s changed) broken refl
        (own_gate bit size old new is_old is_new damaged (s % 3) (touched s changed)) g.header.sequence (opens_in new g is).committed
