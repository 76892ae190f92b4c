-- What a crash leaves while the gates of an image are closed, one by one, before another image overwrites it.
-- There are three slots. If header s is committed, the third slot is the one for neither s nor s - 1.
use Rattle.std.specs.Prelude.{◌≡◌, ◌⊎◌, ℕ, ◌+◌, ◌%◌, ◌<◌, List, None}
use Rattle.header_slots.specs.Publish.{OthersStay}
use Rattle.header_slots.specs.Slots.{Counts, Opens, Slots}

-- one gate is being written: it may have any number or none; all else stays
pub record TearsGateOf (slot : ℕ) (old new : Slots) : Type 0 where
  pub others : OthersStay slot old new
  pub header : (new slot).header ≡ (old slot).header
  pub bytes : (new slot).bytes ≡ (old slot).bytes

-- the gate of one slot is closed, durably
pub record ClosesGateOf (slot : ℕ) (old new : Slots) : Type 0 where
  pub torn : TearsGateOf slot old new
  pub closed : (new slot).gate ≡ None

-- what a crash leaves while the gates of three slots are closed in this order, each with a sync of its own
abbrev pub LeftByClosing : ℕ → ℕ → ℕ → Slots → Slots → Type 0
LeftByClosing i j k old new =
    TearsGateOf i old new
    ⊎ ((one : Slots) × ClosesGateOf i old one × TearsGateOf j one new)
    ⊎ ((one : Slots) × (two : Slots) × ClosesGateOf i old one × ClosesGateOf j one two × TearsGateOf k two new)

-- If header s is committed, and the third slot holds an older header that counts: close that header's gate, then those
-- of s - 1 and s. A crash leaves s committed, or no header.
abbrev pub OldThirdFirst : Type 0
OldThirdFirst = (old new : Slots) (s n t : ℕ) (a b : List ℕ) → Opens old s a → Counts old n →
    n % 3 ≡ (s + 1) % 3 → n < s → LeftByClosing ((s + 1) % 3) ((s + 2) % 3) (s % 3) old new →
    Opens new t b → (t ≡ s) × (b ≡ a)

-- If the header in the third slot doesn't count, or is newer than s: close the gates of s - 1, of s, and of the third
-- slot. A crash leaves s committed, or no header.
abbrev pub OtherThirdLast : Type 0
OtherThirdLast = (old new : Slots) (s t : ℕ) (a b : List ℕ) → Opens old s a →
    ((n : ℕ) → Counts old n → n % 3 ≡ (s + 1) % 3 → s < n) →
    LeftByClosing ((s + 2) % 3) (s % 3) ((s + 1) % 3) old new → Opens new t b → (t ≡ s) × (b ≡ a)
