-- The 4-byte numbers of a row of bytes, and the bytes of these numbers.
use Rattle.seal.proofs.Names.{ℕ, zero, suc, List, length, get_or, drop, replicate, ap, sym, subst, inl, inr, arith, cases_lt, get_or-drop}
use Rattle.seal.proofs.Names.{get_or-replicate, get_or_past, get_or_default, length-replicate, same_lists, length-map-range_with_len, get_or-map-range_with_len}
use Rattle.seal.proofs.Names.{little_number, numbers}
use Rattle.std.proofs.Common.{◌≡◌, ◌+◌, ◌-◌, ◌*◌, ◌/◌, ◌%◌, ◌^◌, ◌<◌, ◌∙◌}
use Rattle.seal.proofs.Bounds.{AreBelow}

pub length_numbers : (row : List ℕ) → length (numbers row) ≡ length row / 4
unfolding numbers
length_numbers row = length-map-range_with_len (λ (k : ℕ). little_number 4 (drop (4 * k) row)) 0 (length row / 4)

pub number_there : (row : List ℕ) (k : ℕ) → k < length row / 4 → get_or (numbers row) k 0 ≡ little_number 4 (drop (4 * k) row)
unfolding numbers
number_there row k lt = get_or-map-range_with_len (λ (j : ℕ). little_number 4 (drop (4 * j) row)) 0 (length row / 4) k k 0 lt (omega arith)

-- a number is the weighted sum of its four bytes, lowest byte first
number_of : (row : List ℕ) (at : ℕ) → little_number 4 (drop at row)
    ≡ get_or row (at + 0) 0 + 256 * (get_or row (at + 1) 0 + 256 * (get_or row (at + 2) 0 + 256 * get_or row (at + 3) 0))
number_of row at = omega (arith, get_or-drop at row 0 0, get_or-drop at row 1 0, get_or-drop at row 2 0, get_or-drop at row 3 0)

abbrev pub AreBytes : List ℕ → Type 0
AreBytes row = (i : ℕ) → get_or row i 0 < 256

-- each number of a row of bytes is below 2^32
pub numbers_small : (row : List ℕ) → AreBytes row → AreBelow (2 ^ 32 - 1) (numbers row)
numbers_small row small k =
    elim (cases_lt k (length row / 4)) [
      | inl lt ↦
          let at : ℕ = 4 * k in
          omega (arith, number_there row k lt, number_of row at, small (at + 0), small (at + 1), small (at + 2), small (at + 3))
      | inr past ↦ omega (arith, get_or_past (numbers row) k 0 (omega (arith, length_numbers row, past)))
    ]

-- the same four bytes make the same number
pub same_number : (x y : List ℕ) (k : ℕ) → length x ≡ length y → ((j : ℕ) → j < 4 → get_or x (4 * k + j) 0 ≡ get_or y (4 * k + j) 0) →
    get_or (numbers x) k 0 ≡ get_or (numbers y) k 0
same_number x y k len same =
    elim (cases_lt k (length x / 4)) [
      | inl lt ↦
          let at : ℕ = 4 * k in
          omega (
            arith,
            number_there x k lt,
            number_there y k (omega (arith, lt, len)),
            number_of x at,
            number_of y at,
            same 0 (omega arith),
            same 1 (omega arith),
            same 2 (omega arith),
            same 3 (omega arith),
          )
      | inr past ↦
          omega (
            arith,
            get_or_past (numbers x) k 0 (omega (arith, length_numbers x, past)),
            get_or_past (numbers y) k 0 (omega (arith, length_numbers y, past, len)),
          )
    ]

-- a number determines its four bytes
four_bytes : (a b c d e f g h : ℕ) → a < 256 → b < 256 → c < 256 → d < 256 → e < 256 → f < 256 → g < 256 → h < 256 →
    a + 256 * (b + 256 * (c + 256 * d)) ≡ e + 256 * (f + 256 * (g + 256 * h))
    → (a ≡ e) × (b ≡ f) × (c ≡ g) × (d ≡ h)
four_bytes a b c d e f g h a' b' c' d' e' f' g' h' same = (omega arith, omega arith, omega arith, omega arith)

one_of_four : (f g : ℕ → ℕ) → f 0 ≡ g 0 → f 1 ≡ g 1 → f 2 ≡ g 2 → f 3 ≡ g 3 → (j : ℕ) → j < 4 → f j ≡ g j
one_of_four f g a b c d zero lt = a
one_of_four f g a b c d (suc zero) lt = b
one_of_four f g a b c d (suc (suc zero)) lt = c
one_of_four f g a b c d (suc (suc (suc zero))) lt = d
one_of_four f g a b c d (suc (suc (suc (suc j)))) lt = absurd (omega (arith, lt))

byte_back : (x y : List ℕ) (at : ℕ) → AreBytes x → AreBytes y → little_number 4 (drop at x) ≡ little_number 4 (drop at y) → (j : ℕ) →
    j < 4 → get_or x (at + j) 0 ≡ get_or y (at + j) 0
byte_back x y at bx by same j lt =
    let all =
    four_bytes (get_or x (at + 0) 0) (get_or x (at + 1) 0) (get_or x (at + 2) 0) (get_or x (at + 3) 0) (get_or y (at + 0) 0)
    (get_or y (at + 1) 0)
    (get_or y (at + 2) 0) (get_or y (at + 3) 0) (bx (at + 0)) (bx (at + 1)) (bx (at + 2)) (bx (at + 3)) (by (at + 0)) (by (at + 1))
    (by (at + 2)) (by (at + 3))
    (sym (number_of x at) ∙ same ∙ number_of y at) in
    one_of_four (λ (i : ℕ). get_or x (at + i) 0) (λ (i : ℕ). get_or y (at + i) 0) all.0 all.1 all.2 all.3 j lt

-- rows with the same numbers are equal
pub same_rows : (x y : List ℕ) → AreBytes x → AreBytes y → length x % 4 ≡ 0 → length x ≡ length y → numbers x ≡ numbers y → x ≡ y
same_rows x y bx by whole len same =
    same_lists x y len (λ i d lt.
    let k : ℕ = i / 4 in
    let inside : k < length x / 4 = omega (arith, lt, whole) in
    let number : little_number 4 (drop (4 * k) x) ≡ little_number 4 (drop (4 * k) y) =
    sym (number_there x k inside) ∙ ap (λ (hs : List ℕ). get_or hs k 0) same ∙ number_there y k (omega (arith, inside, len)) in
    let split : 4 * k + i % 4 ≡ i = omega arith in
    let byte : get_or x i 0 ≡ get_or y i 0 =
    subst (λ (n : ℕ). get_or x n 0 ≡ get_or y n 0) split (byte_back x y (4 * k) bx by number (i % 4) (omega arith)) in
    get_or_default x i d 0 lt ∙ byte ∙ sym (get_or_default y i d 0 (omega (arith, lt, len))))

-- ---- zeros

zero_byte : (n i : ℕ) → ◌≡◌ {A = ℕ} (get_or (replicate n 0) i 0) 0
zero_byte n i =
    elim (cases_lt i n) [
      | inl lt ↦ get_or-replicate n i 0 0 lt
      | inr past ↦ get_or_past (replicate n 0) i 0 (omega (arith, past, length-replicate {A = ℕ} n 0))
    ]

pub number_zero : (n k : ℕ) → get_or (numbers (replicate n 0)) k 0 ≡ 0
number_zero n k =
    let row : List ℕ = replicate n 0 in
    elim (cases_lt k (length row / 4)) [
      | inl lt ↦
          let at : ℕ = 4 * k in
          omega (
            arith,
            number_there row k lt,
            number_of row at,
            zero_byte n (at + 0),
            zero_byte n (at + 1),
            zero_byte n (at + 2),
            zero_byte n (at + 3),
          )
      | inr past ↦ get_or_past (numbers row) k 0 (omega (arith, length_numbers row, past))
    ]
