-- The committed header is found.
use Rattle.std.proofs.Common.{ℕ, ◌%◌, ◌<◌, ◌≤◌}
use Rattle.header_slots.specs.Committed.{IsPair}
use Rattle.header_slots.specs.Slots.{Slots}

-- n is the greatest header in a slot below i that counts together with header n - 1, or 0 if there is none
pub record IsGreatestBelow (slots : Slots) (i n : ℕ) : Type 0 where
  pub pair : 0 < n → IsPair slots n
  pub greatest : (t : ℕ) → t % 3 < i → IsPair slots t → t ≤ n
