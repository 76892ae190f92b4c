-- The number of a gate.
use Rattle.layout.proofs.Names.{ℕ, List, [], length, get_or, take, drop, zero, suc, ap, subst, sym, inl, inr, arith, cases_eq, cases_lt, drop-drop, drop_at}
use Rattle.layout.proofs.Names.{get_or_default, get_or_past, get_or-drop, length-replicate, length-take, get_or-replicate, same_lists, take_more}
use Rattle.layout.proofs.Names.{get_or-map-range_with_len, length-map-range_with_len, IsRead, little_number, little_number-reads_back, number, words_bytes}
use Rattle.layout.proofs.Names.{DifferInBurst, IsRow, differences, are_bytes, few_differ, same_byte, turned_round, HasNumber, copies, numbered_gate_bytes}
use Rattle.layout.proofs.Names.{gate_numbers, BurstsKeepNumbers, ClosedGatesHaveNone, GatesHaveOneNumber, IsWhole, WrittenGatesHaveTheirNumber}
use Rattle.std.proofs.Common.{replicate, ◌≡◌, ◌+◌, ◌*◌, ◌/◌, ◌^◌, ◌<◌, ◌≤◌, ◌∷◌, ◌++◌, ◌∙◌}
use Rattle.layout.proofs.Numbers.{length-number}
use Rattle.layout.proofs.GateCopies.{copies_all, copies_here, copies_later, copies_most, copies_of_two, copies_push, copies_stay}

pub length_numbers : (bytes : List ℕ) → length (gate_numbers bytes) ≡ 64
unfolding gate_numbers
length_numbers bytes = length-map-range_with_len (λ (k : ℕ). little_number 8 (drop (8 * k) bytes)) 0 64

pub number_there : (bytes : List ℕ) (k : ℕ) → k < 64 → get_or (gate_numbers bytes) k 0 ≡ little_number 8 (drop (8 * k) bytes)
unfolding gate_numbers
number_there bytes k lt = get_or-map-range_with_len (λ (j : ℕ). little_number 8 (drop (8 * j) bytes)) 0 64 k k 0 lt (omega arith)

-- ---- reading

pub numbers_read : (bytes into : List ℕ) → length into ≡ 64 → IsRead little_number 8 bytes into → into ≡ gate_numbers bytes
numbers_read bytes into size read =
    same_lists into (gate_numbers bytes) (size ∙ sym (length_numbers bytes)) (λ k d lt.
    let inside : k < 64 = omega (arith, lt, size) in
    get_or_default into k d 0 lt ∙ read k lt ∙ sym (number_there bytes k inside)
    ∙ sym (get_or_default (gate_numbers bytes) k d 0 (omega (arith, inside, length_numbers bytes))))

-- the copies among the first i + 1 numbers: those among the first i, and one if the next is n
one_more : (n : ℕ) (xs : List ℕ) (i : ℕ) → i < length xs → copies n (take (i + 1) xs) ≡ copies n (take i xs) + copies n (get_or xs i 0 ∷ [])
one_more n xs i lt = ap (λ (ys : List ℕ). copies n ys) (take_more xs i 0 lt) ∙ copies_push n (get_or xs i 0) (take i xs)

pub counted_here : (n : ℕ) (xs : List ℕ) (i count : ℕ) → i < length xs → count ≡ copies n (take i xs) → get_or xs i 0 ≡ n →
    count + 1 ≡ copies n (take (i + 1) xs)
counted_here n xs i count lt is here = omega (arith, is, one_more n xs i lt, copies_here n (get_or xs i 0) [] here)

pub counted_not : (n : ℕ) (xs : List ℕ) (i count : ℕ) → i < length xs → count ≡ copies n (take i xs) → (get_or xs i 0 ≡ n → ⊥) →
    count ≡ copies n (take (i + 1) xs)
counted_not n xs i count lt is other = omega (arith, is, one_more n xs i lt, copies_later n (get_or xs i 0) [] other)

pub few_counted : (n : ℕ) (xs : List ℕ) (i count : ℕ) → i < length xs → count ≡ copies n (take i xs) → count < length xs
few_counted n xs i count lt is = omega (arith, is, copies_most n (take i xs), length-take i xs, lt)

-- ---- laws

pub one_number : GatesHaveOneNumber
one_number bytes m n a b =
    elim (cases_eq m n) [
      | inl e ↦ e
      | inr ne ↦ absurd (omega (arith, a.most, b.most, copies_of_two m n (gate_numbers bytes) ne, length_numbers bytes))
    ]

copy_back : (n : ℕ) (rest : List ℕ) → n < 2 ^ 64 → little_number 8 (number n ++ rest) ≡ n
unfolding number
copy_back n rest fits = little_number-reads_back 8 n rest fits

one_copy_less : (n count k : ℕ) → drop (8 * suc k) (words_bytes (replicate (suc count) n)) ≡ drop (8 * k) (words_bytes (replicate count n))
unfolding words_bytes
one_copy_less n count k =
    let rest : List ℕ = words_bytes (replicate count n) in
    let next : 8 * suc k ≡ 8 + 8 * k = omega arith in
    ap (λ (m : ℕ). drop m (number n ++ rest)) next ∙ sym (drop-drop (8 * k) 8 (number n ++ rest))
    ∙ ap (drop (8 * k)) (drop_at (number n) rest 8 (length-number n))

copy_there : (n count k : ℕ) → n < 2 ^ 64 → k < count → little_number 8 (drop (8 * k) (words_bytes (replicate count n))) ≡ n
unfolding words_bytes
copy_there n zero k fits lt = absurd (omega (arith, lt))
copy_there n (suc count) zero fits lt = copy_back n (words_bytes (replicate count n)) fits
copy_there n (suc count) (suc k) fits lt = ap (little_number 8) (one_copy_less n count k) ∙ copy_there n count k fits (omega (arith, lt))

all_copies : (n : ℕ) → n < 2 ^ 64 → gate_numbers (numbered_gate_bytes n) ≡ replicate 64 n
unfolding numbered_gate_bytes
all_copies n fits =
    same_lists (gate_numbers (words_bytes (replicate 64 n))) (replicate 64 n)
    (length_numbers (words_bytes (replicate 64 n)) ∙ sym (length-replicate 64 n)) (λ k d lt.
    let inside : k < 64 = omega (arith, lt, length_numbers (words_bytes (replicate 64 n))) in
    get_or_default (gate_numbers (words_bytes (replicate 64 n))) k d 0 lt ∙ number_there (words_bytes (replicate 64 n)) k inside
    ∙ copy_there n 64 k fits inside ∙ sym (get_or-replicate 64 k n d inside))

many_copies : (n : ℕ) → n < 2 ^ 64 → copies n (gate_numbers (numbered_gate_bytes n)) ≡ 64
many_copies n fits = ap (copies n) (all_copies n fits) ∙ copies_all n 64

pub written_has : WrittenGatesHaveTheirNumber
written_has n some fits = (
  record { some = some; most = omega (arith, many_copies n fits) },
  inl (n, omega (arith, many_copies n fits)),
)

pub closed_has_none : ClosedGatesHaveNone
closed_has_none n is =
    omega (
      arith,
      is.most,
      copies_of_two 0 n (gate_numbers (numbered_gate_bytes 0)) (λ e. omega (arith, e, is.some)),
      many_copies 0 (omega arith),
      length_numbers (numbered_gate_bytes 0),
    )

-- ---- bursts

-- a number as the weighted sum of its eight bytes
number_of : (row : List ℕ) (at : ℕ) → little_number 8 (drop at row)
    ≡ get_or row (at + 0) 0 + 256 * (get_or row (at + 1) 0 + 256 * (get_or row (at + 2) 0 + 256 * (get_or row (at + 3) 0
    + 256 * (get_or row (at + 4) 0 + 256 * (get_or row (at + 5) 0 + 256 * (get_or row (at + 6) 0 + 256 * get_or row (at + 7) 0))))))
number_of row at =
    omega (
      arith,
      get_or-drop at row 0 0,
      get_or-drop at row 1 0,
      get_or-drop at row 2 0,
      get_or-drop at row 3 0,
      get_or-drop at row 4 0,
      get_or-drop at row 5 0,
      get_or-drop at row 6 0,
      get_or-drop at row 7 0,
    )

same_number : (x y : List ℕ) (k : ℕ) → ((j : ℕ) → j < 8 → get_or x (8 * k + j) 0 ≡ get_or y (8 * k + j) 0) →
    get_or (gate_numbers x) k 0 ≡ get_or (gate_numbers y) k 0
same_number x y k same =
    elim (cases_lt k 64) [
      | inl lt ↦
          omega (
            arith,
            number_there x k lt,
            number_there y k lt,
            number_of x (8 * k),
            number_of y (8 * k),
            same 0 (omega arith),
            same 1 (omega arith),
            same 2 (omega arith),
            same 3 (omega arith),
            same 4 (omega arith),
            same 5 (omega arith),
            same 6 (omega arith),
            same 7 (omega arith),
          )
      | inr past ↦
          get_or_past (gate_numbers x) k 0 (omega (arith, length_numbers x, past))
          ∙ sym (get_or_past (gate_numbers y) k 0 (omega (arith, length_numbers y, past)))
    ]

-- a burst changes at most two of a gate's numbers
two_differ : (i : ℕ) (x y : List ℕ) → IsRow x → IsRow y → DifferInBurst i x y → differences (gate_numbers x) (gate_numbers y) ≤ 2
two_differ i x y rx ry burst =
    few_differ 2 (i / 64) (gate_numbers x) (gate_numbers y) (length_numbers x ∙ sym (length_numbers y))
    (λ k lt. same_number x y k (λ j small. same_byte x y (8 * k + j) (are_bytes x rx.bytes) (are_bytes y ry.bytes) (λ b few.
    burst.before (8 * (8 * k + j) + b) (omega (arith, lt, small, few)))))
    (λ k ge. same_number x y k (λ j small. same_byte x y (8 * k + j) (are_bytes x rx.bytes) (are_bytes y ry.bytes) (λ b few.
    burst.after (8 * (8 * k + j) + b) (omega (arith, ge, small, few)))))

-- facts about two rows that differ in a burst: the copies of a number differ by at most two
module _ (i : ℕ) (x y : List ℕ) (rx : IsRow x) (ry : IsRow y) (burst : DifferInBurst i x y) where
  sizes : length (gate_numbers x) ≡ length (gate_numbers y)
  sizes = length_numbers x ∙ sym (length_numbers y)

  few_lost : (n : ℕ) → copies n (gate_numbers x) ≤ copies n (gate_numbers y) + 2
  few_lost n = omega (arith, copies_stay n (gate_numbers x) (gate_numbers y) sizes, two_differ i x y rx ry burst)

  few_gained : (n : ℕ) → copies n (gate_numbers y) ≤ copies n (gate_numbers x) + 2
  few_gained n =
      omega (
        arith,
        copies_stay n (gate_numbers y) (gate_numbers x) (sym sizes),
        turned_round (gate_numbers x) (gate_numbers y),
        two_differ i x y rx ry burst,
      )

  only_number : (m n : ℕ) → 35 ≤ copies m (gate_numbers x) → 31 ≤ copies n (gate_numbers x) → m ≡ n
  only_number m n most some =
      elim (cases_eq m n) [
        | inl e ↦ e
        | inr ne ↦ absurd (omega (arith, most, some, copies_of_two m n (gate_numbers x) ne, length_numbers x))
      ]

  number_stays : (n : ℕ) → IsWhole x → HasNumber x n → HasNumber y n
  number_stays n (inl one) is =
      let same = only_number one.0 n one.1 (omega (arith, is.most)) in
      let most : 35 ≤ copies n (gate_numbers x) = subst (λ (m : ℕ). 35 ≤ copies m (gate_numbers x)) same one.1 in
      record { some = is.some; most = omega (arith, most, few_lost n) }
  number_stays n (inr none) is = absurd (omega (arith, none n, is.most))

  number_stood : (n : ℕ) → IsWhole x → HasNumber y n → HasNumber x n
  number_stood n (inl one) is =
      let same = only_number one.0 n one.1 (omega (arith, is.most, few_gained n)) in
      let most : 35 ≤ copies n (gate_numbers x) = subst (λ (m : ℕ). 35 ≤ copies m (gate_numbers x)) same one.1 in
      record { some = is.some; most = omega (arith, most) }
  number_stood n (inr none) is = absurd (omega (arith, none n, is.most, few_gained n))

pub bursts_keep : BurstsKeepNumbers
bursts_keep i x y n rx ry size burst whole = (number_stays i x y rx ry burst n whole, number_stood i x y rx ry burst n whole)
