-- Three header slots, and the header that is committed.
use Rattle.std.specs.Prelude.{◌≡◌, ℕ, ◌+◌, ◌-◌, ◌%◌, ◌<◌, ◌≤◌, List, Option, Some}

-- A header slot: the sequence number of its header, if the header is sound; the number of its gate, if it has one; and
-- the header's bytes.
pub record Slot : Type 0 where
  pub header : Option ℕ
  pub gate : Option ℕ
  pub bytes : List ℕ

-- the slots, by their numbers 0, 1 and 2
abbrev pub Slots : Type 0
Slots = ℕ → Slot

-- header s counts: it is in its slot, s mod 3, and the gate there has its number
pub record Counts (slots : Slots) (s : ℕ) : Type 0 where
  pub header : (slots (s % 3)).header ≡ Some s
  pub gate : (slots (s % 3)).gate ≡ Some s

-- headers s and s - 1 count, and no greater pair does
pub record IsGreatestPair (slots : Slots) (s : ℕ) : Type 0 where
  pub positive : 0 < s
  pub counts : Counts slots s
  pub neighbour : Counts slots (s - 1)
  pub greatest : (n : ℕ) → Counts slots n → Counts slots (n + 1) → n + 1 ≤ s

-- header s is committed: s is the greatest pair, and the gate of the next slot doesn't have the number s + 1
pub record IsCommitted (slots : Slots) (s : ℕ) : Type 0 where
  pub pair : IsGreatestPair slots s
  pub next : (slots ((s + 1) % 3)).gate ≡ Some (s + 1) → ⊥

-- header s is committed, and has these bytes
pub record Opens (slots : Slots) (s : ℕ) (row : List ℕ) : Type 0 where
  pub committed : IsCommitted slots s
  pub bytes : (slots (s % 3)).bytes ≡ row
