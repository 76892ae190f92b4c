-- Two headers with neighbouring numbers and the same state: both gates are open, and the second header is committed; or none is.
use Rattle.image_writer.proofs.Names.{ℕ, List, Some, ap, sym, subst, refl, inl, inr, arith, Image, cases_eq, same_Some, Counts, IsCommitted, Slots, is_number}
use Rattle.image_writer.proofs.Names.{SealedHeader, HasNumber, numbered_gate_bytes, header_numbers, sealed_header_bytes, Commits, AreWords, closed_has_none}
use Rattle.image_writer.proofs.Names.{written_has, are_slots, opens_in, slots_in, header_before}
use Rattle.std.proofs.Common.{◌≡◌, ◌⊎◌, ◌+◌, ◌-◌, ◌%◌, ◌<◌, ◌≤◌, ◌∙◌}

module _ (c : Image) (h : SealedHeader) (words : AreWords (header_numbers h)) (before : AreWords (header_numbers (header_before h)))
    (number : h.header.sequence ≡ 2) (first : c 24 ≡ sealed_header_bytes (header_before h)) (second : c 40 ≡ sealed_header_bytes h)
    (closed : c 16 ≡ numbered_gate_bytes 0) where
  abbrev slots : Slots
  slots = slots_in c

  header_1 : (slots 1).header ≡ Some 1
  header_1 = ((are_slots c).header 1 1).1 (header_before h, before, first, refl)

  header_2 : (slots 2).header ≡ Some 2
  header_2 = ((are_slots c).header 2 2).1 (h, words, second, number)

  no_gate : (n : ℕ) → (slots 0).gate ≡ Some n → ⊥
  no_gate n is = closed_has_none n (subst (λ (row : List ℕ). HasNumber row n) closed (((are_slots c).gate 0 n).0 is))

  -- only headers 1 and 2 can count
  none_0 : (s : ℕ) → s % 3 ≡ 0 → Counts slots s → ⊥
  none_0 s at counts = no_gate s (ap (λ (k : ℕ). (slots k).gate) (sym at) ∙ counts.gate)

  one_1 : (s : ℕ) → s % 3 ≡ 1 → Counts slots s → s ≡ 1
  one_1 s at counts = same_Some s 1 (sym counts.header ∙ ap (λ (k : ℕ). (slots k).header) at ∙ header_1)

  two_2 : (s : ℕ) → s % 3 ≡ 2 → Counts slots s → s ≡ 2
  two_2 s at counts = same_Some s 2 (sym counts.header ∙ ap (λ (k : ℕ). (slots k).header) at ∙ header_2)

  most : (s : ℕ) → Counts slots s → s ≤ 2
  most s counts = elim (cases_eq (s % 3) 0) [
    | inl at ↦ absurd (none_0 s at counts)
    | inr some ↦ elim (cases_eq (s % 3) 1) [
      | inl at ↦ let is = one_1 s at counts in omega (arith, is)
      | inr other ↦ let is = two_2 s (omega (arith, some, other)) counts in omega (arith, is)
    ]
  ]

  -- both gates are open
  pub both : (slots 1).gate ≡ Some 1 → (slots 2).gate ≡ Some 2 → Commits c h
  both gate_1 gate_2 =
      let committed : IsCommitted slots 2 = record {
        pair = record {
          positive = omega arith;
          counts = record { header = header_2; gate = gate_2 };
          neighbour = record { header = header_1; gate = gate_1 };
          greatest = λ n low high. most (n + 1) high;
        };
        next = λ gate. no_gate 3 gate;
      } in
      record {
        slots = slots;
        are = are_slots c;
        opens = record {
          committed = subst (λ (s : ℕ). IsCommitted slots s) (sym number) committed;
          bytes = subst (λ (s : ℕ). (slots (s % 3)).bytes ≡ sealed_header_bytes h) (sym number) second;
        };
        fits = words;
      }

  -- a committed header needs both
  needs : (g : SealedHeader) → Commits c g → ((slots 1).gate ≡ Some 1) × ((slots 2).gate ≡ Some 2)
  needs g is =
      let s : ℕ = g.header.sequence in
      let pair = (opens_in c g is).committed.pair in
      let positive : 0 < s = pair.positive in
      elim (cases_eq (s % 3) 0) [
        | inl at ↦ absurd (none_0 s at pair.counts)
        | inr some ↦ elim (cases_eq (s % 3) 1) [
          | inl at ↦
              let one = one_1 s at pair.counts in
              absurd (none_0 (s - 1) (omega (arith, one)) pair.neighbour)
          | inr other ↦
              let two : s ≡ 2 = two_2 s (omega (arith, some, other)) pair.counts in
              let counts = subst (λ (n : ℕ). Counts slots n) two pair.counts in
              let neighbour = subst (λ (n : ℕ). Counts slots (n - 1)) two pair.neighbour in
              (neighbour.gate, counts.gate)
        ]
      ]

  -- the second header is committed, or none is
  pub either : Commits c h ⊎ ((g : SealedHeader) → Commits c g → ⊥)
  either = elim (is_number (slots 1).gate 1) [
    | inr none ↦ inr (λ g is. none (needs g is).0)
    | inl one ↦ elim (is_number (slots 2).gate 2) [
      | inr none ↦ inr (λ g is. none (needs g is).1)
      | inl two ↦ inl (both one two)
    ]
  ]

  -- after both gates are written, it is
  pub written : c 32 ≡ numbered_gate_bytes 1 → c 48 ≡ numbered_gate_bytes 2 → Commits c h
  written one two =
      both
      (((are_slots c).gate 1 1).1 (subst (λ (row : List ℕ). HasNumber row 1) (sym one) (written_has 1 (omega arith) (omega arith)).0))
      (((are_slots c).gate 2 2).1 (subst (λ (row : List ℕ). HasNumber row 2) (sym two) (written_has 2 (omega arith) (omega arith)).0))
