-- The numbered gate of a header.
use Rattle.layout.specs.Names.{ℕ, List, [], map, drop, replicate, range_with_len, little_number}
use Rattle.std.specs.Prelude.{◌+◌, ◌*◌, ◌<◌, ◌≤◌, ◌==◌, if◌then◌else◌, ◌∷◌}
use Rattle.layout.specs.Frame.{words_bytes}

-- the sector of a gate: 64 copies of its number
unfoldable pub numbered_gate_bytes : ℕ → List ℕ
numbered_gate_bytes n = words_bytes (replicate 64 n)

-- the 64 numbers in a sector
unfoldable pub gate_numbers : List ℕ → List ℕ
gate_numbers bytes = map (λ k. little_number 8 (drop (8 * k) bytes)) (range_with_len 0 64)

-- how often n occurs in a list
abbrev pub copies : ℕ → List ℕ → ℕ
copies n [] = 0
copies n (x ∷ xs) = (if x == n then 1 else 0) + copies n xs

-- the number of a gate: it isn't 0, and most of the 64 copies hold it
pub record HasNumber (bytes : List ℕ) (n : ℕ) : Type 0 where
  pub some : 0 < n
  pub most : 33 ≤ copies n (gate_numbers bytes)
