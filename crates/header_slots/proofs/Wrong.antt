-- Counterexamples to weaker protocols.
use Rattle.std.proofs.Common.{◌≡◌, ℕ, ◌+◌, ◌%◌, ◌≤◌, ◌⊎◌, List, [], ◌∷◌, Option, None, Some, suc, zero, ap, refl, sym, ◌∙◌, inl, inr, arith}
use Rattle.std.proofs.lemmas.Bool.{cases_eq}
use Rattle.std.proofs.lemmas.Option.{same_Some}
use Rattle.header_slots.specs.Publish.{OthersStay, TearsHeader}
use Rattle.header_slots.specs.Slots.{Counts, IsGreatestPair, Opens, Slot, Slots}
use Rattle.header_slots.specs.Wrong.{IsGreatestAlone, NeighboursAreNeeded, NextGateIsNeeded, NextGateShowsDamage, OneSyncIsTooFew}
use Rattle.header_slots.proofs.Counting.{one_each}

-- slots in which headers 1 and 2 count, with slot 0 arbitrary
abbrev first_two : Slot → Slots
first_two third zero = third
first_two third (suc zero) = record { header = Some 1; gate = Some 1; bytes = [] }
first_two third (suc (suc k)) = record { header = Some 2; gate = Some 2; bytes = [] }

abbrev with_header : Option ℕ → Option ℕ → Slot
with_header header gate = record { header = header; gate = gate; bytes = 1 ∷ [] }

one_counts : (third : Slot) → Counts (first_two third) 1
one_counts third = record { header = refl; gate = refl }

two_counts : (third : Slot) → Counts (first_two third) 2
two_counts third = record { header = refl; gate = refl }

others_stay : (a b : Slot) → OthersStay 0 (first_two a) (first_two b)
others_stay a b zero other = absurd (other refl)
others_stay a b (suc zero) other = refl
others_stay a b (suc (suc k)) other = refl

-- the headers that count are 1, 2, and perhaps one in slot 0
which : (third : Slot) (n : ℕ) → Counts (first_two third) n → (n % 3 ≡ 0) ⊎ (n ≡ 1) ⊎ (n ≡ 2)
which third n is =
    elim (cases_eq (n % 3) 0) [
      | inl e ↦ inl e
      | inr ne ↦
          elim (cases_eq (n % 3) 1) [
            | inl one ↦ inr (inl (one_each (first_two third) n 1 is (one_counts third) one))
            | inr other ↦ inr (inr (one_each (first_two third) n 2 is (two_counts third) (omega (arith, ne, other))))
          ]
    ]

-- if slot 0 has no header, none counts there
nothing_there : (gate : Option ℕ) (n : ℕ) → Counts (first_two (with_header None gate)) n → n % 3 ≡ 0 → ⊥
nothing_there gate n is e =
    let lost : Some n ≡ None = sym is.header ∙ ap (λ (k : ℕ). (first_two (with_header None gate) k).header) e in
    cc

most : (gate : Option ℕ) (n : ℕ) → Counts (first_two (with_header None gate)) n → n ≤ 2
most gate n is =
    elim (which (with_header None gate) n is) [
      | inl e ↦ absurd (nothing_there gate n is e)
      | inr (inl e) ↦ omega (arith, e)
      | inr (inr e) ↦ omega (arith, e)
    ]

pair_of : (gate : Option ℕ) → IsGreatestPair (first_two (with_header None gate)) 2
pair_of gate = record {
  positive = omega arith;
  counts = two_counts (with_header None gate);
  neighbour = one_counts (with_header None gate);
  greatest = λ n low high. most gate (n + 1) high;
}

-- these two states differ only in the header of slot 0
torn : (gate header : Option ℕ) → TearsHeader 2 (first_two (with_header None gate)) (first_two (with_header header gate))
torn gate header = record { others = others_stay (with_header None gate) (with_header header gate); gate = refl }

not_empty : (x : ℕ) (xs : List ℕ) → x ∷ xs ≡ [] → ⊥
not_empty x xs e = cc

pub one_sync_fails : OneSyncIsTooFew
one_sync_fails law =
    let old : Slots = first_two (with_header None None) in
    let new : Slots = first_two (with_header (Some 3) (Some 3)) in
    let opens : Opens old 2 [] = record { committed = record { pair = pair_of None; next = λ e. cc }; bytes = refl } in
    elim (law old new 2 [] [] opens (others_stay (with_header None None) (with_header (Some 3) (Some 3)))) [
      | inl is ↦ is.committed.next refl
      | inr is ↦ not_empty 1 [] is.bytes
    ]

-- if neighbours weren't needed, a torn header 6 could be committed by a gate that an earlier crash left
pub neighbours_needed : NeighboursAreNeeded
neighbours_needed law =
    let alone : IsGreatestAlone (first_two (with_header None (Some 6))) 2 = record {
      counts = two_counts (with_header None (Some 6));
      greatest = most (Some 6);
      next = λ e. let wrong : 6 ≡ 3 = same_Some 6 3 e in omega (arith, wrong);
    } in
    let after = law (first_two (with_header None (Some 6))) (first_two (with_header (Some 6) (Some 6))) 2 alone (torn (Some 6) (Some 6)) in
    let wrong : 6 ≤ 2 = after.greatest 6 (record { header = refl; gate = refl }) in
    omega (arith, wrong)

-- if the next gate were ignored, a torn header 3 could be committed by the gate of an earlier header 3
pub next_gate_needed : NextGateIsNeeded
next_gate_needed law =
    let after = law (first_two (with_header None (Some 3))) (first_two (with_header (Some 3) (Some 3))) 2 (pair_of (Some 3))
    (torn (Some 3) (Some 3)) in
    let wrong : 3 ≤ 2 = after.greatest 2 (two_counts (with_header (Some 3) (Some 3))) (record { header = refl; gate = refl }) in
    omega (arith, wrong)

-- if the next gate were ignored, and the committed header 3 broke, header 2 would be committed
pub next_gate_shows : NextGateShowsDamage
next_gate_shows law =
    let old : Slots = first_two (with_header (Some 3) (Some 3)) in
    let new : Slots = first_two (with_header None (Some 3)) in
    let third : Counts old 3 = record { header = refl; gate = refl } in
    let pair : IsGreatestPair old 3 = record {
      positive = omega arith;
      counts = third;
      neighbour = two_counts (with_header (Some 3) (Some 3));
      greatest = λ n low high.
          elim (which (with_header (Some 3) (Some 3)) (n + 1) high) [
            | inl e ↦ let same : n + 1 ≡ 3 = one_each old (n + 1) 3 high third e in omega (arith, same)
            | inr (inl e) ↦ omega (arith, e)
            | inr (inr e) ↦ omega (arith, e)
          ];
    } in
    let wrong : 2 ≡ 3 = law old new 3 2 pair (others_stay (with_header (Some 3) (Some 3)) (with_header None (Some 3))) refl refl
    (pair_of (Some 3)) in
    omega (arith, wrong)
