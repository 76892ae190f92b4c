-- The words of a page.
use Rattle.std.specs.Prelude.{ℕ, ◌≡◌, ◌<◌, ◌≤◌, List, slice_index}

-- each of 512 words from an index on is 0
abbrev pub IsZeroFrom : ℕ → List ℕ → Type 0
IsZeroFrom end words = (end ≤ 512) × ((i : ℕ) → end ≤ i → i < 512 → slice_index words i ≡ 0)
