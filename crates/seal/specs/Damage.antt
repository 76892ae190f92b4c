-- How damaged rows of bytes differ.
use Rattle.std.specs.Prelude.{◌≡◌, ℕ, ◌+◌, ◌/◌, ◌%◌, ◌<◌, ◌≤◌, ◌==◌, if◌then◌else◌, List, ◌∷◌, length, slice_index}
use Rattle.std.specs.Int.{bit_at}
use Rattle.std.specs.List.{All}

-- a row that can have sums: bytes, a multiple of 4 of them, at most 4096
pub record IsRow (row : List ℕ) : Type 0 where
  pub bytes : All (λ b. b < 256) row
  pub whole : length row % 4 ≡ 0
  pub size : length row ≤ 4096

-- bit i of a row: each byte has 8, the lowest first
abbrev pub row_bit : List ℕ → ℕ → ℕ
row_bit row i = bit_at (slice_index row (i / 8)) (i % 8)

-- two rows of one length that differ only in a burst: in some of the 64 bits from bit i on
pub record DifferInBurst (i : ℕ) (x y : List ℕ) : Type 0 where
  pub size : length x ≡ length y
  pub before : (j : ℕ) → j < i → row_bit x j ≡ row_bit y j
  pub after : (j : ℕ) → i + 64 ≤ j → row_bit x j ≡ row_bit y j

-- at how many places two lists have different numbers
abbrev pub differences : List ℕ → List ℕ → ℕ
differences (x ∷ xs) (y ∷ ys) = (if x == y then 0 else 1) + differences xs ys
differences _ _ = 0
