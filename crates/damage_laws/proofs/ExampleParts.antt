-- Superblock, header and directory of the example.
use Rattle.damage_laws.proofs.Names.{ℕ, List, [], length, zero, suc, refl, subst, sym, inl, inr, arith, cases_eq, All-cons, All-nil, All, Counts, Opens}
use Rattle.damage_laws.proofs.Names.{HasDirectory, HasHeader, HasPlan, IsEntry, AreApart, IsPlan, IsWithin, MayBegin, extents, half_length, directory_length}
use Rattle.damage_laws.proofs.Names.{Extent, Three, HasNumber, numbered_gate_bytes, header_numbers, sealed_header_bytes, IsSound, gate_sector, header_sector}
use Rattle.damage_laws.proofs.Names.{directory_sums, AreWords, closed_has_none, one_number, written_has, are_slots, slots_in, example, example_header}
use Rattle.damage_laws.proofs.Names.{example_plan}
use Rattle.std.proofs.Common.{◌≡◌, ◌+◌, ◌%◌, ◌<◌, ◌≤◌, ◌∷◌}

-- ---- the plan

abbrev area : ℕ → ℕ → Extent
area sector length = record { sector = sector; length = length }

abbrev four : List Extent
four = area 56 32 ∷ area 88 9 ∷ area 104 152 ∷ area 256 152 ∷ []

areas : extents example_plan ≡ four
unfolding half_length directory_length
areas = refl

within_all : All (IsWithin 408) four
within_all =
    let P : Extent → Type 0 = IsWithin 408 in
    All-cons P (area 56 32) (area 88 9 ∷ area 104 152 ∷ area 256 152 ∷ []) (omega arith, omega arith) (
    All-cons P (area 88 9) (area 104 152 ∷ area 256 152 ∷ []) (omega arith, omega arith) (
    All-cons P (area 104 152) (area 256 152 ∷ []) (omega arith, omega arith) (
    All-cons P (area 256 152) [] (omega arith, omega arith) (All-nil P))))

begin_all : All (MayBegin Three) four
begin_all =
    let P : Extent → Type 0 = MayBegin Three in
    All-cons P (area 56 32) (area 88 9 ∷ area 104 152 ∷ area 256 152 ∷ []) (omega arith, refl) (
    All-cons P (area 88 9) (area 104 152 ∷ area 256 152 ∷ []) (omega arith, refl) (
    All-cons P (area 104 152) (area 256 152 ∷ []) (omega arith, refl) (
    All-cons P (area 256 152) [] (omega arith, refl) (All-nil P))))

apart_all : AreApart four
apart_all zero zero lt few = absurd (omega (arith, lt))
apart_all zero (suc zero) lt few = inl (omega arith)
apart_all zero (suc (suc zero)) lt few = inl (omega arith)
apart_all zero (suc (suc (suc zero))) lt few = inl (omega arith)
apart_all (suc zero) zero lt few = absurd (omega (arith, lt))
apart_all (suc zero) (suc zero) lt few = absurd (omega (arith, lt))
apart_all (suc zero) (suc (suc zero)) lt few = inl (omega arith)
apart_all (suc zero) (suc (suc (suc zero))) lt few = inl (omega arith)
apart_all (suc (suc zero)) zero lt few = absurd (omega (arith, lt))
apart_all (suc (suc zero)) (suc zero) lt few = absurd (omega (arith, lt))
apart_all (suc (suc zero)) (suc (suc zero)) lt few = absurd (omega (arith, lt))
apart_all (suc (suc zero)) (suc (suc (suc zero))) lt few = inl (omega arith)
apart_all i (suc (suc (suc (suc j)))) lt few = absurd (omega (arith, few))
apart_all (suc (suc (suc i))) j lt few = absurd (omega (arith, lt, few))

pub example_fits : IsPlan example_plan
example_fits = record {
  geometry = record {
    least_nodes = omega arith;
    most_nodes = omega arith;
    least_pages = omega arith;
    most_pages = omega arith;
    least_log = omega arith;
    most_log = omega arith;
  };
  some = omega arith;
  few = omega arith;
  total = omega arith;
  cover = ((refl, omega arith, inl (omega arith)), ((refl, omega arith, inr (omega arith)), refl));
  within = subst (All (IsWithin 408)) (sym areas) within_all;
  begin = subst (All (MayBegin Three)) (sym areas) begin_all;
  apart = subst AreApart (sym areas) apart_all;
}

pub example_has_plan : HasPlan example 408 example_plan
example_has_plan = record { least = omega arith; whole = omega arith; fits = example_fits; spelt = refl }

-- ---- the committed header

words : (s : ℕ) → s < 3 → AreWords (header_numbers (example_header s))
words s lt zero d less = omega arith
words s lt (suc zero) d less = omega (arith, lt)
words s lt (suc (suc zero)) d less = omega arith
words s lt (suc (suc (suc zero))) d less = omega arith
words s lt (suc (suc (suc (suc zero)))) d less = omega arith
words s lt (suc (suc (suc (suc (suc zero))))) d less = omega arith
words s lt (suc (suc (suc (suc (suc (suc zero)))))) d less = omega arith
words s lt (suc (suc (suc (suc (suc (suc (suc zero))))))) d less = omega arith
words s lt (suc (suc (suc (suc (suc (suc (suc (suc zero)))))))) d less = omega arith
words s lt (suc (suc (suc (suc (suc (suc (suc (suc (suc zero))))))))) d less = omega arith
words s lt (suc (suc (suc (suc (suc (suc (suc (suc (suc (suc zero)))))))))) d less = omega arith
words s lt (suc (suc (suc (suc (suc (suc (suc (suc (suc (suc (suc k))))))))))) d less = absurd (omega (arith, less))

counts : (s k : ℕ) → s % 3 ≡ k → s < 3 → 0 < s → example (header_sector k) ≡ sealed_header_bytes (example_header s) →
    example (gate_sector k) ≡ numbered_gate_bytes s → Counts (slots_in example) s
counts s k slot lt some header gate =
    let sound : IsSound (example (header_sector (s % 3))) s =
    subst (λ (i : ℕ). IsSound (example (header_sector i)) s) (sym slot) (example_header s, words s lt, header, refl) in
    let has : HasNumber (example (gate_sector (s % 3))) s =
    subst (λ (i : ℕ). HasNumber (example (gate_sector i)) s) (sym slot)
    (subst (λ (row : List ℕ). HasNumber row s) (sym gate) (written_has s some (omega (arith, lt))).0) in
    record {
      header = ((are_slots example).header (s % 3) s).1 sound;
      gate = ((are_slots example).gate (s % 3) s).1 has;
    }

first_counts : Counts (slots_in example) 1
first_counts = counts 1 1 refl (omega arith) (omega arith) refl refl

second_counts : Counts (slots_in example) 2
second_counts = counts 2 2 refl (omega arith) (omega arith) refl refl

-- no header but 1 and 2 counts
counted : (n : ℕ) → Counts (slots_in example) n → n ≤ 2
counted n is =
    let has : HasNumber (example (gate_sector (n % 3))) n = ((are_slots example).gate (n % 3) n).0 is.gate in
    elim (cases_eq (n % 3) 0) [
      | inl none ↦
          let here : HasNumber (numbered_gate_bytes 0) n = subst (λ (k : ℕ). HasNumber (example (gate_sector k)) n) none has in
          absurd (closed_has_none n here)
      | inr some ↦
          elim (cases_eq (n % 3) 1) [
            | inl one ↦
                let here : HasNumber (numbered_gate_bytes 1) n = subst (λ (k : ℕ). HasNumber (example (gate_sector k)) n) one has in
                let same = one_number (numbered_gate_bytes 1) n 1 here (written_has 1 (omega arith) (omega arith)).0 in
                omega (arith, same)
            | inr two ↦
                let slot : n % 3 ≡ 2 = omega (arith, some, two) in
                let here : HasNumber (numbered_gate_bytes 2) n = subst (λ (k : ℕ). HasNumber (example (gate_sector k)) n) slot has in
                let same = one_number (numbered_gate_bytes 2) n 2 here (written_has 2 (omega arith) (omega arith)).0 in
                omega (arith, same)
          ]
    ]

opens : Opens (slots_in example) 2 (sealed_header_bytes (example_header 2))
opens = record {
  committed = record {
    pair = record {
      positive = omega arith;
      counts = second_counts;
      neighbour = first_counts;
      greatest = λ n low high. counted (n + 1) high;
    };
    next = λ e. closed_has_none 3 (((are_slots example).gate 0 3).0 e);
  };
  bytes = refl;
}

pub example_has_header : HasHeader example example_plan (example_header 2)
example_has_header = record {
  committed = record { slots = slots_in example; are = are_slots example; opens = opens; fits = words 2 (omega arith) };
  fits = record {
    entries = omega arith;
    age = omega arith;
    generation = omega arith;
    sequence = omega arith;
    entries_fit = omega arith;
  };
}

-- ---- the directory

pub example_has_directory : HasDirectory example example_plan (example_header 2) []
unfolding directory_sums
example_has_directory = record {
  count = refl;
  fits = record {
    each = All-nil (IsEntry example_plan.geometry);
    rising = λ i lt. absurd (omega (arith, lt));
    apart = λ i j lt less. absurd (omega (arith, less));
  };
  spelt = λ j lt. absurd (omega (arith, lt));
  sums = refl;
}
