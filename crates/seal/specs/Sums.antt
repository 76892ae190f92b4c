-- The sums of a row of bytes.
use Rattle.std.specs.Prelude.{ℕ, ◌+◌, ◌*◌, ◌/◌, ◌^◌, ◌<◌, List, [], ◌∷◌, ◌++◌, length, map, drop}
use Rattle.std.specs.List.{range_with_len}
use Rattle.byteorder.specs.Endian.{little_bytes, little_number}
use Rattle.seal.specs.declared.sums.Sums.{Sums}

-- a row of bytes as 4-byte numbers, the lowest byte first
unfoldable pub numbers : List ℕ → List ℕ
numbers row = map (λ k. little_number 4 (drop (4 * k) row)) (range_with_len 0 (length row / 4))

-- the sum of numbers, each times the weight of its place; places count from the end, and the last number has place 1
abbrev pub weighted : (ℕ → ℕ) → List ℕ → ℕ
weighted weight [] = 0
weighted weight (h ∷ hs) = weight (length (h ∷ hs)) * h + weighted weight hs

-- three sums of a row's numbers: a number with place k is multiplied by 1, by k, and by 1 + 2 + .. + k
unfoldable pub sums_of : List ℕ → Sums
sums_of row = record {
  a = weighted (λ k. 1) (numbers row);
  b = weighted (λ k. k) (numbers row);
  c = weighted (λ k. k * (k + 1) / 2) (numbers row);
}

-- no sum reaches 2^60
pub record Fit (s : Sums) : Type 0 where
  pub a : s.a < 2 ^ 60
  pub b : s.b < 2 ^ 60
  pub c : s.c < 2 ^ 60

-- the 24 bytes of sums, 8 for each, the lowest first
unfoldable pub sums_bytes : Sums → List ℕ
sums_bytes s = (little_bytes 8 s.a ++ little_bytes 8 s.b) ++ little_bytes 8 s.c
