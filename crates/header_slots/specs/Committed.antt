-- Which header is committed, by the numbers in three slots.
use Rattle.std.specs.Prelude.{◌≡◌, ℕ, ◌+◌, ◌-◌, ◌%◌, ◌<◌, List, [], None, Some, slice_index_or}
use Rattle.header_slots.specs.declared.deciding.NotCommitted.{NotCommitted}
use Rattle.header_slots.specs.declared.deciding.NotCommitted.TheVariants.{NextGate, NoPair}
use Rattle.header_slots.specs.declared.deciding.SlotNumbers.{SlotNumbers}
use Rattle.header_slots.specs.Slots.{Counts, IsGreatestPair, Slots}

-- slots with these numbers, whatever their bytes are
abbrev pub slots_of : List SlotNumbers → Slots
slots_of xs = λ k. record {
  header = (slice_index_or xs k (record { header = None; gate = None })).header;
  gate = (slice_index_or xs k (record { header = None; gate = None })).gate;
  bytes = [];
}

-- headers s and s - 1 both count
pub record IsPair (slots : Slots) (s : ℕ) : Type 0 where
  pub positive : 0 < s
  pub counts : Counts slots s
  pub neighbour : Counts slots (s - 1)

-- why no header is committed: no pair counts, or the gate after the greatest pair has the next number
abbrev pub IsRefused : Slots → NotCommitted → Type 0
IsRefused slots NoPair = (s : ℕ) → IsPair slots s → ⊥
IsRefused slots NextGate = (s : ℕ) × IsGreatestPair slots s × ((slots ((s + 1) % 3)).gate ≡ Some (s + 1))
