-- Sets of numbers, by a mark for each.
use Rattle.std.specs.Prelude.{◌≡◌, ℕ, ◌<◌, ◌≤◌, Bool, true, false, List, length, slice_index_or}

-- whether a number is marked
abbrev pub is_marked : List Bool → ℕ → Bool
is_marked marks n = slice_index_or marks n false

-- n is the least marked number from `from` on
pub record IsNextMarked (marks : List Bool) (from n : ℕ) : Type 0 where
  pub past : from ≤ n
  pub inside : n < length marks
  pub marked : is_marked marks n ≡ true
  pub least : (m : ℕ) → from ≤ m → m < n → is_marked marks m ≡ false

-- no number from `from` on is marked
abbrev pub HasNoneMarked : List Bool → ℕ → Type 0
HasNoneMarked marks from = (m : ℕ) → from ≤ m → is_marked marks m ≡ false

-- n is the least number from `from` on that isn't marked
pub record IsNextUnmarked (marks : List Bool) (from n : ℕ) : Type 0 where
  pub past : from ≤ n
  pub inside : n < length marks
  pub unmarked : is_marked marks n ≡ false
  pub least : (m : ℕ) → from ≤ m → m < n → is_marked marks m ≡ true

-- all numbers from `from` to the end are marked
abbrev pub HasAllMarked : List Bool → ℕ → Type 0
HasAllMarked marks from = (m : ℕ) → from ≤ m → m < length marks → is_marked marks m ≡ true
