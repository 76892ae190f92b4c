-- Rows that differ in a burst differ in at most three numbers.
use Rattle.seal.proofs.Names.{ℕ, zero, suc, List, [], length, get_or, ap, sym, inl, inr, arith, cases_lt, get_or_past, All-get_or, same_from_bits_below, bit_at}
use Rattle.seal.proofs.Names.{All, DifferInBurst, IsRow, differences, row_bit, BurstsChangeSums, FewChangesChangeSums, numbers, sums_of}
use Rattle.std.proofs.Common.{◌≡◌, ◌+◌, ◌*◌, ◌/◌, ◌%◌, ◌<◌, ◌≤◌, ◌∷◌, ◌∙◌}
use Rattle.seal.proofs.Numbers.{AreBytes, length_numbers, same_number, same_rows}
use Rattle.seal.proofs.Runs.{head_counts, same_heads, three_told}

pub are_bytes : (row : List ℕ) → All (λ b. b < 256) row → AreBytes row
are_bytes row all i =
    elim (cases_lt i (length row)) [
      | inl lt ↦ All-get_or (λ b. b < 256) row i 0 lt all
      | inr past ↦ omega (arith, get_or_past row i 0 past)
    ]

bit_in_byte : (row : List ℕ) (q j : ℕ) → j < 8 → row_bit row (8 * q + j) ≡ bit_at (get_or row q 0) j
bit_in_byte row q j lt =
    let byte : (8 * q + j) / 8 ≡ q = omega arith in
    let bit : (8 * q + j) % 8 ≡ j = omega arith in
    ap (λ (n : ℕ). bit_at (get_or row n 0) ((8 * q + j) % 8)) byte ∙ ap (λ (n : ℕ). bit_at (get_or row q 0) n) bit

pub same_byte : (x y : List ℕ) (q : ℕ) → AreBytes x → AreBytes y → ((j : ℕ) → j < 8 → row_bit x (8 * q + j) ≡ row_bit y (8 * q + j)) →
    get_or x q 0 ≡ get_or y q 0
same_byte x y q bx by same =
    same_from_bits_below 8 (get_or x q 0) (get_or y q 0) (bx q) (by q) (λ j lt. sym (bit_in_byte x q j lt) ∙ same j lt
    ∙ bit_in_byte y q j lt)

-- rows that differ at most in the twelve bytes of numbers w, w + 1 and w + 2
pub record IsNear (w : ℕ) (x y : List ℕ) : Type 0 where
  pub before : (q : ℕ) → q < 4 * w → get_or x q 0 ≡ get_or y q 0
  pub after : (q : ℕ) → 4 * w + 12 ≤ q → get_or x q 0 ≡ get_or y q 0

pub near : (i : ℕ) (x y : List ℕ) → IsRow x → IsRow y → DifferInBurst i x y → IsNear (i / 32) x y
near i x y rx ry burst = record {
  before = λ q lt. same_byte x y q (are_bytes x rx.bytes) (are_bytes y ry.bytes) (λ j small. burst.before (8 * q + j) (omega arith));
  after = λ q ge. same_byte x y q (are_bytes x rx.bytes) (are_bytes y ry.bytes) (λ j small. burst.after (8 * q + j) (omega arith));
}

-- if two lists of one length differ only in the n places from w on, they differ in at most n places
pub few_differ : (n w : ℕ) (xs ys : List ℕ) → length xs ≡ length ys → ((k : ℕ) → k < w → get_or xs k 0 ≡ get_or ys k 0)
    → ((k : ℕ) → w + n ≤ k → get_or xs k 0 ≡ get_or ys k 0) → differences xs ys ≤ n
few_differ n w [] [] len before after = omega arith
few_differ n w [] (y ∷ ys) len before after = absurd (omega (arith, len))
few_differ n w (x ∷ xs) [] len before after = absurd (omega (arith, len))
few_differ zero zero (x ∷ xs) (y ∷ ys) len before after =
    let heads : x ≡ y = after 0 (omega arith) in
    let rest = few_differ zero zero xs ys (omega (arith, len)) (λ k lt. absurd (omega (arith, lt)))
    (λ k ge. after (suc k) (omega (arith, ge))) in
    omega (arith, same_heads x y xs ys heads, rest)
few_differ (suc n) zero (x ∷ xs) (y ∷ ys) len before after =
    let rest = few_differ n zero xs ys (omega (arith, len)) (λ k lt. absurd (omega (arith, lt))) (λ k ge. after (suc k) (omega (arith, ge)))
    in
    omega (arith, head_counts x y xs ys, rest)
few_differ n (suc w) (x ∷ xs) (y ∷ ys) len before after =
    let heads : x ≡ y = before 0 (omega arith) in
    let rest = few_differ n w xs ys (omega (arith, len)) (λ k lt. before (suc k) (omega (arith, lt)))
    (λ k ge. after (suc k) (omega (arith, ge))) in
    omega (arith, same_heads x y xs ys heads, rest)

module _ (w : ℕ) (x y : List ℕ) (len : length x ≡ length y) (is : IsNear w x y) where
  pub number_before : (k : ℕ) → k < w → get_or (numbers x) k 0 ≡ get_or (numbers y) k 0
  number_before k lt = same_number x y k len (λ j small. is.before (4 * k + j) (omega (arith, lt, small)))

  pub number_after : (k : ℕ) → w + 3 ≤ k → get_or (numbers x) k 0 ≡ get_or (numbers y) k 0
  number_after k ge = same_number x y k len (λ j small. is.after (4 * k + j) (omega (arith, ge, small)))

pub same_count : (x y : List ℕ) → length x ≡ length y → length (numbers x) ≡ length (numbers y)
same_count x y len = length_numbers x ∙ ap (λ (n : ℕ). n / 4) len ∙ sym (length_numbers y)

pub few_changes : FewChangesChangeSums
unfolding sums_of
few_changes x y rx ry len few same =
    same_rows x y (are_bytes x rx.bytes) (are_bytes y ry.bytes) rx.whole len
    (three_told (numbers x) (numbers y) (same_count x y len) few same)

pub near_changes : (w : ℕ) (x y : List ℕ) → IsRow x → IsRow y → length x ≡ length y → IsNear w x y → sums_of x ≡ sums_of y → x ≡ y
near_changes w x y rx ry len is same =
    few_changes x y rx ry len
    (few_differ 3 w (numbers x) (numbers y) (same_count x y len) (number_before w x y len is) (number_after w x y len is)) same

pub bursts_change : BurstsChangeSums
bursts_change i x y rx ry burst same = near_changes (i / 32) x y rx ry burst.size (near i x y rx ry burst) same
