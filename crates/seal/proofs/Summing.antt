-- The sums of a row, as they are added up.
use Rattle.seal.proofs.Names.{ℕ, List, [], length, get_or, take, drop, ap, sym, subst, refl, inl, inr, arith, length-take, take_all, take_more, take_rest}
use Rattle.seal.proofs.Names.{get_or-take, get_or_past, cases_lt, little_number, Fit, numbers, sums_of, Sums}
use Rattle.std.proofs.Common.{◌≡◌, ◌+◌, ◌-◌, ◌*◌, ◌/◌, ◌^◌, ◌<◌, ◌≤◌, ◌∷◌, ◌++◌, ◌∙◌}
use Rattle.seal.proofs.Weights.{sums, step, sums_push}
use Rattle.seal.proofs.Bounds.{AreBelow, sums_fit}
use Rattle.seal.proofs.Numbers.{AreBytes, length_numbers, number_there, numbers_small}

-- the sums of the first i numbers of a row
abbrev pub sums_before : List ℕ → ℕ → Sums
sums_before row i = sums (take i (numbers row))

pub record IsSummed (row : List ℕ) (i : ℕ) (s : Sums) : Type 0 where
  pub whole : s ≡ sums_before row i

pub summed_none : (row : List ℕ) → IsSummed row 0 (record { a = 0; b = 0; c = 0 })
summed_none row = record { whole = refl }

pub summed_more : (row : List ℕ) (i h : ℕ) (s : Sums) → i < length row / 4 → h ≡ little_number 4 (drop (4 * i) row) → IsSummed row i s →
    IsSummed row (i + 1) (step s h)
summed_more row i h s lt is was =
    let hs : List ℕ = numbers row in
    let inside : i < length hs = omega (arith, lt, length_numbers row) in
    let number : h ≡ get_or hs i 0 = is ∙ sym (number_there row i lt) in
    let longer : take (i + 1) hs ≡ take i hs ++ h ∷ [] = take_more hs i 0 inside ∙ ap (λ (x : ℕ). take i hs ++ x ∷ []) (sym number) in
    record {
      whole = ap (λ (t : Sums). step t h) was.whole ∙ sums_push (take i hs) h ∙ ap sums (sym longer);
    }

-- the sums of the first i numbers are below 2^60
pub summed_fits : (row : List ℕ) (i : ℕ) (s : Sums) → AreBytes row → length row ≤ 4096 → IsSummed row i s → Fit s
summed_fits row i s bytes short was =
    let hs : List ℕ = take i (numbers row) in
    let few : length hs ≤ 1024 = omega (arith, length-take i (numbers row), length_numbers row, short) in
    let small : AreBelow (2 ^ 32 - 1) hs = λ k. elim (cases_lt k i) [
      | inl lt ↦ omega (arith, get_or-take i (numbers row) k 0 lt, numbers_small row bytes k)
      | inr ge ↦ omega (arith, get_or_past hs k 0 (omega (arith, length-take i (numbers row), ge)))
    ] in
    let all = sums_fit hs few small in
    subst Fit (sym was.whole) all

pub summed_all : (row : List ℕ) (i : ℕ) (s : Sums) → length row / 4 ≤ i → IsSummed row i s → s ≡ sums_of row
unfolding sums_of
summed_all row i s past was = was.whole ∙ ap sums (take_all i (numbers row) (omega (arith, length_numbers row, past)))

-- adding number h to the sums gives the sums of one more number, without overflow
pub record Goes (row : List ℕ) (i h : ℕ) (s : Sums) : Type 0 where
  pub a : s.a + h < 2 ^ 60
  pub b : s.b + (s.a + h) < 2 ^ 60
  pub c : s.c + (s.b + (s.a + h)) < 2 ^ 60
  pub next : IsSummed row (i + 1) (step s h)

pub goes_on : (row : List ℕ) (i h n : ℕ) (s : Sums) → AreBytes row → length row ≤ 4096 → i < n → n ≡ length row / 4
    → h ≡ little_number 4 (take (length row - 4 * i) (drop (4 * i) row)) → IsSummed row i s → Goes row i h s
goes_on row i h n s bytes short lt end is was =
    let read : h ≡ little_number 4 (drop (4 * i) row) = is ∙ ap (little_number 4) (take_rest row (4 * i)) in
    let next = summed_more row i h s (omega (arith, lt, end)) read was in
    let small = summed_fits row (i + 1) (step s h) bytes short next in
    record { a = small.a; b = small.b; c = small.c; next = next }
