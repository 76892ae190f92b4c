-- Items by place, where a place may have none.
use Rattle.std.specs.Prelude.{◌≡◌, ◌<◌, ℕ, nat_lt, List, Option, None, length, map, slice_get, slice_index_or}
use Rattle.std.specs.List.{count_by}

-- the item of a place, if it has one
abbrev pub item_at : {T : Type 0} → List (Option T) → ℕ → Option T
item_at xs k = slice_index_or xs k None

-- the item of each place: `at` has its position in `items`, or one past all items if the place has none
unfoldable pub items_in : {T : Type 0} → List T → List ℕ → List (Option T)
items_in items at = map (slice_get items) at

abbrev pub position : List ℕ → ℕ → ℕ
position at k = slice_index_or at k (length at)

-- each of `count` items belongs to one place; a place without an item has a position past all places
pub record ArePositions (at : List ℕ) (count : ℕ) : Type 0 where
  pub known : (k : ℕ) → position at k < length at → position at k < count
  pub apart : (j k : ℕ) → position at j ≡ position at k → position at j < length at → j ≡ k
  pub each : count_by (λ a. nat_lt a (length at)) at ≡ count
