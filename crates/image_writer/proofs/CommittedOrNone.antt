-- An image of a sealed version has a committed header, or none: which of both can be decided.
use Rattle.image_writer.proofs.Names.{ℕ, Option, Some, None, ap, sym, subst, refl, inl, inr, arith, cases_lt, Image, zero, suc, cases_eq, same_Some, IsPair}
use Rattle.image_writer.proofs.Names.{Counts, IsCommitted, Slots, below_greatest, is_number, IsGreatestBelow, SealedHeader, sealed_header_bytes, Commits}
use Rattle.image_writer.proofs.Names.{are_slots, opens_in, slots_in}
use Rattle.std.proofs.Common.{◌≡◌, ◌⊎◌, ◌+◌, ◌-◌, ◌%◌, ◌<◌, ◌∙◌}

-- ---- which headers count

-- a header counts in this slot
abbrev HasCounting : Slots → ℕ → Type 0
HasCounting slots k = (s : ℕ) × (s % 3 ≡ k) × Counts slots s

counting : (slots : Slots) (k : ℕ) → HasCounting slots k ⊎ (HasCounting slots k → ⊥)
counting slots k = by (slots k).header refl where
  by : (o : Option ℕ) → (slots k).header ≡ o → HasCounting slots k ⊎ (HasCounting slots k → ⊥)
  by None none = inr (λ has.
      let lost : None ≡ Some has.0 = sym none ∙ ap (λ (j : ℕ). (slots j).header) (sym has.1) ∙ has.2.header in cc)
  by (Some s) some = elim (cases_eq (s % 3) k) [
    | inr other ↦ inr (λ has.
        let same : s ≡ has.0 = same_Some s has.0 (sym some ∙ ap (λ (j : ℕ). (slots j).header) (sym has.1) ∙ has.2.header) in
        other (ap (λ (n : ℕ). n % 3) same ∙ has.1))
    | inl at ↦ elim (is_number (slots k).gate s) [
      | inl gate ↦
          inl (
            s,
            at,
            record {
              header = ap (λ (j : ℕ). (slots j).header) at ∙ some;
              gate = ap (λ (j : ℕ). (slots j).gate) at ∙ gate;
            },
          )
      | inr gate ↦ inr (λ has.
          let same : s ≡ has.0 = same_Some s has.0 (sym some ∙ ap (λ (j : ℕ). (slots j).header) (sym has.1) ∙ has.2.header) in
          gate (ap (λ (j : ℕ). (slots j).gate) (sym has.1) ∙ has.2.gate ∙ ap (λ (n : ℕ). Some n) (sym same)))
    ]
  ]

counts_or_not : (slots : Slots) (s : ℕ) → Counts slots s ⊎ (Counts slots s → ⊥)
counts_or_not slots s = elim (counting slots (s % 3)) [
  | inr none ↦ inr (λ counts. none (s, refl, counts))
  | inl has ↦ elim (cases_eq has.0 s) [
    | inl same ↦ inl (subst (λ (n : ℕ). Counts slots n) same has.2)
    | inr other ↦ inr (λ counts.
        other (same_Some has.0 s (sym has.2.header ∙ ap (λ (j : ℕ). (slots j).header) has.1 ∙ counts.header)))
  ]
]

-- ---- pairs

abbrev HasPair : Slots → ℕ → Type 0
HasPair slots k = (s : ℕ) × (s % 3 ≡ k) × IsPair slots s

pair_at : (slots : Slots) (k : ℕ) → HasPair slots k ⊎ (HasPair slots k → ⊥)
pair_at slots k = elim (counting slots k) [
  | inr none ↦ inr (λ pair. none (pair.0, pair.1, pair.2.counts))
  | inl has ↦
      let s : ℕ = has.0 in
      let only : HasPair slots k → IsPair slots s =
      λ pair. subst (λ (n : ℕ). IsPair slots n)
      (same_Some pair.0 s (sym pair.2.counts.header ∙ ap (λ (j : ℕ). (slots j).header) (pair.1 ∙ sym has.1) ∙ has.2.header)) pair.2 in
      elim (cases_lt 0 s) [
        | inr none ↦ inr (λ pair. let positive : 0 < s = (only pair).positive in omega (arith, positive, none))
        | inl positive ↦ elim (counts_or_not slots (s - 1)) [
          | inl neighbour ↦ inl (s, has.1, record { positive = positive; counts = has.2; neighbour = neighbour })
          | inr none ↦ inr (λ pair. none (only pair).neighbour)
        ]
      ]
]

-- the greatest pair in the slots below i, or 0 if there is none
best : (slots : Slots) (i : ℕ) → (n : ℕ) × IsGreatestBelow slots i n
best slots zero = (0, record { pair = λ positive. absurd (omega (arith, positive)); greatest = λ t lt pair. absurd (omega (arith, lt)) })
best slots (suc i) =
    let so_far = best slots i in
    let n : ℕ = so_far.0 in
    elim (pair_at slots i) [
      | inr none ↦ (
        n,
        record {
          pair = so_far.1.pair;
          greatest = λ t lt pair. elim (cases_lt (t % 3) i) [
            | inl less ↦ so_far.1.greatest t less pair
            | inr le ↦ let here : t % 3 ≡ i = omega (arith, lt, le) in absurd (none (t, here, pair))
          ];
        },
      )
      | inl has ↦ elim (cases_lt n has.0) [
        | inl more ↦ (
          has.0,
          record {
            pair = λ positive. has.2;
            greatest = λ t lt pair. elim (cases_lt (t % 3) i) [
              | inl less ↦ let most = so_far.1.greatest t less pair in omega (arith, most, more)
              | inr le ↦
                  let here : t % 3 ≡ has.0 % 3 = omega (arith, lt, le, has.1) in
                  let same : t ≡ has.0 =
                  same_Some t has.0 (sym pair.counts.header ∙ ap (λ (j : ℕ). (slots j).header) here ∙ has.2.counts.header) in
                  omega (arith, same)
            ];
          },
        )
        | inr most ↦ (
          n,
          record {
            pair = so_far.1.pair;
            greatest = λ t lt pair. elim (cases_lt (t % 3) i) [
              | inl less ↦ so_far.1.greatest t less pair
              | inr le ↦
                  let here : t % 3 ≡ has.0 % 3 = omega (arith, lt, le, has.1) in
                  let same : t ≡ has.0 =
                  same_Some t has.0 (sym pair.counts.header ∙ ap (λ (j : ℕ). (slots j).header) here ∙ has.2.counts.header) in
                  omega (arith, same, most)
            ];
          },
        )
      ]
    ]

-- ---- the committed header

pub committed_or_not : (slots : Slots) → ((s : ℕ) × IsCommitted slots s) ⊎ ((s : ℕ) → IsCommitted slots s → ⊥)
committed_or_not slots =
    let found = best slots 3 in
    let n : ℕ = found.0 in
    let pair_of : (t : ℕ) → IsCommitted slots t → IsPair slots t =
    λ t is. record { positive = is.pair.positive; counts = is.pair.counts; neighbour = is.pair.neighbour } in
    elim (cases_lt 0 n) [
      | inr none ↦ inr (λ t is.
          let most = found.1.greatest t (omega arith) (pair_of t is) in
          let positive : 0 < t = is.pair.positive in
          omega (arith, most, positive, none))
      | inl positive ↦
          let pair = found.1.pair positive in
          elim (is_number (slots ((n + 1) % 3)).gate (n + 1)) [
            | inl gate ↦ inr (λ t is.
                let most = found.1.greatest t (omega arith) (pair_of t is) in
                let least = below_greatest slots t n positive pair.counts pair.neighbour is.pair in
                let same : n ≡ t = omega (arith, most, least) in
                is.next (subst (λ (m : ℕ). (slots ((m + 1) % 3)).gate ≡ Some (m + 1)) same gate))
            | inr other ↦
                inl (
                  n,
                  record {
                    pair = record {
                      positive = positive;
                      counts = pair.counts;
                      neighbour = pair.neighbour;
                      greatest = λ m low high.
                          let same : m ≡ m + 1 - 1 = omega arith in
                          found.1.greatest (m + 1) (omega arith)
                          (record {
                            positive = omega arith;
                            counts = high;
                            neighbour = subst (λ (k : ℕ). Counts slots k) same low;
                          });
                    };
                    next = other;
                  },
                )
          ]
    ]

-- the image has a committed header, or none
pub commits_or_not : (image : Image) → ((h : SealedHeader) × Commits image h) ⊎ ((h : SealedHeader) → Commits image h → ⊥)
commits_or_not image = elim (committed_or_not (slots_in image)) [
  | inr none ↦ inr (λ h is. none h.header.sequence (opens_in image h is).committed)
  | inl found ↦
      let s : ℕ = found.0 in
      let sound = ((are_slots image).header (s % 3) s).0 found.1.pair.counts.header in
      let h : SealedHeader = sound.0 in
      let number : s ≡ h.header.sequence = sym sound.3 in
      inl (
        h,
        record {
          slots = slots_in image;
          are = are_slots image;
          opens = record {
            committed = subst (λ (n : ℕ). IsCommitted (slots_in image) n) number found.1;
            bytes = subst (λ (n : ℕ). (slots_in image (n % 3)).bytes ≡ sealed_header_bytes h) number sound.2;
          };
          fits = sound.1;
        },
      )
]
