-- Sealed rows that differ at most in one burst are equal.
use Rattle.seal.proofs.Names.{ℕ, List, [], length, get_or, take, drop, replicate, ap, suc, subst, sym, refl, inl, inr, arith, cases_lt, drop-drop}
use Rattle.seal.proofs.Names.{drop-replicate, get_or-drop, get_or-take, get_or_default, get_or_past, length-drop, length-replicate}
use Rattle.seal.proofs.Names.{length-take-le, same_lists, take-append-drop, take-replicate, mul-zero, All-take, IsRow, BodiesDecideSeals}
use Rattle.seal.proofs.Names.{BurstsBreakSeals, SumsFit, ZerosAreSealed, IsSealed, body_of, seal_of, numbers, sums_bytes, sums_of, weighted}
use Rattle.std.proofs.Common.{◌≡◌, ◌+◌, ◌-◌, ◌*◌, ◌/◌, ◌%◌, ◌<◌, ◌≤◌, ◌∷◌, ◌++◌, ◌∙◌}
use Rattle.seal.proofs.Bounds.{sums_fit}
use Rattle.seal.proofs.Bursts.{IsNear, are_bytes, few_differ, near, near_changes, number_before, same_count}
use Rattle.seal.proofs.Numbers.{length_numbers, number_zero, numbers_small, same_rows}
use Rattle.seal.proofs.Runs.{two_told}
use Rattle.seal.proofs.Spelled.{AreWords, length_sums, one_spelling, tail_spelling, zero_bytes}
use Rattle.seal.proofs.Weights.{one, place, same_sums, triangle}

pub sums_small : SumsFit
unfolding sums_of
sums_small row r = sums_fit (numbers row) (omega (arith, length_numbers row, r.size)) (numbers_small row (are_bytes row r.bytes))

pub row_words : (row : List ℕ) → IsRow row → AreWords (sums_of row)
row_words row r =
    let small = sums_small row r in
    record { a = omega (arith, small.a); b = omega (arith, small.b); c = omega (arith, small.c) }

-- ---- a sealed row is its body and the body's sums

pub bodies_decide : BodiesDecideSeals
bodies_decide x y sx sy same =
    let seals : seal_of x ≡ seal_of y = sx ∙ ap (λ (row : List ℕ). sums_bytes (sums_of row)) same ∙ sym sy in
    sym (take-append-drop (length x - 24) x) ∙ ap (λ (t : List ℕ). t ++ seal_of x) same ∙ ap (λ (t : List ℕ). body_of y ++ t) seals
    ∙ take-append-drop (length y - 24) y

sealed_room : (row : List ℕ) → IsSealed row → 24 ≤ length row
sealed_room row is =
    let size : length (seal_of row) ≡ 24 = ap (λ (t : List ℕ). length t) is ∙ length_sums (sums_of (body_of row)) in
    omega (arith, size, length-drop (length row - 24) row)

pub length_body : (row : List ℕ) → length (body_of row) ≡ length row - 24
length_body row = length-take-le (length row - 24) row (omega arith)

pub body_row : (row : List ℕ) → 24 ≤ length row → IsRow row → IsRow (body_of row)
body_row row room r = record {
  bytes = All-take (λ b. b < 256) (length row - 24) row r.bytes;
  whole = omega (arith, length_body row, r.whole, room);
  size = omega (arith, length_body row, r.size);
}

same_length : (x y : List ℕ) → length x ≡ length y → length (body_of x) ≡ length (body_of y)
same_length x y len = length_body x ∙ ap (λ (n : ℕ). n - 24) len ∙ sym (length_body y)

-- ---- the bytes of two rows

tail_same : (n : ℕ) (x y : List ℕ) → length x ≡ length y → ((q : ℕ) → n ≤ q → get_or x q 0 ≡ get_or y q 0) → drop n x ≡ drop n y
tail_same n x y len same =
    same_lists (drop n x) (drop n y) (length-drop n x ∙ ap (λ (m : ℕ). m - n) len ∙ sym (length-drop n y)) (λ k d lt.
    let inside : k < length (drop n y) = omega (arith, lt, length-drop n x, length-drop n y, len) in
    get_or_default (drop n x) k d 0 lt ∙ get_or-drop n x k 0 ∙ same (n + k) (omega arith) ∙ sym (get_or-drop n y k 0)
    ∙ get_or_default (drop n y) k 0 d inside)

body_byte : (x y : List ℕ) (q : ℕ) → length x ≡ length y → get_or x q 0 ≡ get_or y q 0 → get_or (body_of x) q 0 ≡ get_or (body_of y) q 0
body_byte x y q len same =
    elim (cases_lt q (length x - 24)) [
      | inl lt ↦ get_or-take (length x - 24) x q 0 lt ∙ same ∙ sym (get_or-take (length y - 24) y q 0 (omega (arith, lt, len)))
      | inr past ↦
          get_or_past (body_of x) q 0 (omega (arith, past, length_body x))
          ∙ sym (get_or_past (body_of y) q 0 (omega (arith, past, length_body y, len)))
    ]

body_near : (w : ℕ) (x y : List ℕ) → length x ≡ length y → IsNear w x y → IsNear w (body_of x) (body_of y)
body_near w x y len is = record {
  before = λ q lt. body_byte x y q len (is.before q lt);
  after = λ q ge. body_byte x y q len (is.after q ge);
}

-- ---- where the burst lies

module _ (w : ℕ) (x y : List ℕ) (rx : IsRow x) (ry : IsRow y) (len : length x ≡ length y) (is : IsNear w x y) (sx : IsSealed x)
    (sy : IsSealed y) where
  row_x : IsRow (body_of x)
  row_x = body_row x (sealed_room x sx) rx

  row_y : IsRow (body_of y)
  row_y = body_row y (sealed_room y sy) ry

  -- if the burst lies before the seal, the bodies are equal, because the seals are equal, and so are the sums
  in_body : 4 * w + 12 ≤ length x - 24 → body_of x ≡ body_of y
  in_body clear =
      let tails : seal_of x ≡ seal_of y =
      tail_same (length x - 24) x y len (λ q ge. is.after q (omega (arith, ge, clear))) ∙ ap (λ (n : ℕ). drop (n - 24) y) len in
      let sums : sums_of (body_of x) ≡ sums_of (body_of y) =
      one_spelling (sums_of (body_of x)) (sums_of (body_of y)) (row_words (body_of x) row_x) (row_words (body_of y) row_y)
      (sym sx ∙ tails ∙ sy) in
      near_changes w (body_of x) (body_of y) row_x row_y (same_length x y len) (body_near w x y len is) sums

  -- if the burst lies in the seal, the bodies are equal
  in_seal : length x - 24 ≤ 4 * w → body_of x ≡ body_of y
  in_seal late =
      same_lists (body_of x) (body_of y) (same_length x y len) (λ q d lt.
      let inside : q < length (body_of y) = omega (arith, lt, same_length x y len) in
      get_or_default (body_of x) q d 0 lt ∙ body_byte x y q len (is.before q (omega (arith, lt, length_body x, late)))
      ∙ get_or_default (body_of y) q 0 d inside)

  -- if the burst lies across body and seal, the bodies are equal: b and c are equal, and at most two numbers differ
  across : 4 * w < length x - 24 → length x - 24 < 4 * w + 12 → body_of x ≡ body_of y
  unfolding sums_of
  across early late =
      let n : ℕ = length x - 24 in
      let whole : n % 4 ≡ 0 = omega (arith, rx.whole, sealed_room x sx) in
      let behind : drop (n + 8) x ≡ drop (n + 8) y = tail_same (n + 8) x y len (λ q ge. is.after q (omega (arith, ge, early, whole))) in
      let tails : drop 8 (seal_of x) ≡ drop 8 (seal_of y) = drop-drop 8 n x ∙ behind ∙ sym (drop-drop 8 n y)
      ∙ ap (λ (m : ℕ). drop 8 (drop (m - 24) y)) len in
      let spelled : drop 8 (sums_bytes (sums_of (body_of x))) ≡ drop 8 (sums_bytes (sums_of (body_of y))) =
      ap (drop 8) (sym sx) ∙ tails ∙ ap (drop 8) sy in
      let bc = tail_spelling (sums_of (body_of x)) (sums_of (body_of y)) (row_words (body_of x) row_x) (row_words (body_of y) row_y) spelled
      in
      let lens = same_length x y len in
      let counts = same_count (body_of x) (body_of y) lens in
      let short : length (numbers (body_of x)) ≤ w + 2 = omega (arith, length_numbers (body_of x), length_body x, late, whole) in
      let few = few_differ 2 w (numbers (body_of x)) (numbers (body_of y)) counts
      (number_before w (body_of x) (body_of y) lens (body_near w x y len is))
      (λ k ge.
      get_or_past (numbers (body_of x)) k 0 (omega (arith, ge, short))
      ∙ sym (get_or_past (numbers (body_of y)) k 0 (omega (arith, ge, short, counts)))) in
      same_rows (body_of x) (body_of y) (are_bytes (body_of x) row_x.bytes) (are_bytes (body_of y) row_y.bytes) row_x.whole lens
      (two_told (numbers (body_of x)) (numbers (body_of y)) counts few bc.0 bc.1)

  near_breaks : x ≡ y
  near_breaks =
      bodies_decide x y sx sy (
      elim (cases_lt (length x - 24) (4 * w + 12)) [
        | inl late ↦
            elim (cases_lt (4 * w) (length x - 24)) [
              | inl early ↦ across early late
              | inr behind ↦ in_seal behind
            ]
        | inr clear ↦ in_body clear
      ]
      )

pub bursts_break : BurstsBreakSeals
bursts_break i x y rx ry burst sx sy = near_breaks (i / 32) x y rx ry burst.size (near i x y rx ry burst) sx sy

-- ---- zeros

weighted_zero : (weight : ℕ → ℕ) (hs : List ℕ) → ((k : ℕ) → get_or hs k 0 ≡ 0) → weighted weight hs ≡ 0
weighted_zero weight [] zeros = refl
weighted_zero weight (h ∷ hs) zeros =
    let first : weight (suc (length hs)) * h ≡ 0 = ap (λ (n : ℕ). weight (suc (length hs)) * n) (zeros 0)
    ∙ mul-zero (weight (suc (length hs))) in
    omega (arith, first, weighted_zero weight hs (λ k. zeros (suc k)))

zero_sums : (n : ℕ) → sums_of (replicate n 0) ≡ record { a = 0; b = 0; c = 0 }
unfolding sums_of
zero_sums n =
    let hs : List ℕ = numbers (replicate n 0) in
    let zeros : (k : ℕ) → get_or hs k 0 ≡ 0 = number_zero n in
    same_sums (sums_of (replicate n 0)) (record { a = 0; b = 0; c = 0 }) (weighted_zero one hs zeros) (weighted_zero place hs zeros)
    (weighted_zero triangle hs zeros)

zeros_from : (n : ℕ) → 24 ≤ n → drop (n - 24) (replicate n 0) ≡ sums_bytes (sums_of (take (n - 24) (replicate n 0)))
zeros_from n room =
    let seal : n - (n - 24) ≡ 24 = omega (arith, room) in
    drop-replicate (n - 24) n 0 ∙ ap (λ (m : ℕ). replicate m 0) seal ∙ sym zero_bytes
    ∙ ap sums_bytes (sym (zero_sums (n - 24))) ∙ ap (λ (row : List ℕ). sums_bytes (sums_of row))
    (sym (take-replicate (n - 24) n 0 (omega arith)))

pub zeros_sealed : ZerosAreSealed
zeros_sealed n room =
    subst (λ (m : ℕ). drop (m - 24) (replicate n 0) ≡ sums_bytes (sums_of (take (m - 24) (replicate n 0)))) (sym (length-replicate n 0))
    (zeros_from n room)
