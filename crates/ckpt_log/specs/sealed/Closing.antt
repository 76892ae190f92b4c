-- What a crash leaves while the gates of all header slots are closed, so that no header is committed.
use Rattle.std.specs.Prelude.{◌≡◌, ℕ, ◌%◌, ◌<◌}
use Rattle.device.specs.Disk.{Disk, Image}
use Rattle.header_slots.specs.Slots.{Counts, Slots}
use Rattle.layout.specs.declared.sealed.header.SealedHeader.{SealedHeader}
use Rattle.layout.specs.sealed.Gate.{numbered_gate_bytes}
use Rattle.ckpt_log.specs.declared.sealed.closing.Order.{Order}
use Rattle.layout.specs.sealed.Opening.{AreSlots, Commits, gate_sector}

-- each gate is closed: its 64 numbers are 0
abbrev pub AreClosed : Image → Type 0
AreClosed image = (k : ℕ) → k < 3 → image (gate_sector k) ≡ numbered_gate_bytes 0

-- no header is committed
abbrev pub CommitsNone : Image → Type 0
CommitsNone image = (h : SealedHeader) → Commits image h → ⊥

-- only gates may differ, and a header that is committed was committed before
pub record KeepsOrHasNone (old new : Image) : Type 0 where
  pub elsewhere : (i : ℕ) → ((k : ℕ) → k < 3 → i ≡ gate_sector k → ⊥) → new i ≡ old i
  pub committed : (h : SealedHeader) → Commits new h → Commits old h

-- c differs only in gates from an image that a crash now may leave; it has the same committed header, or none
abbrev pub WasKeptOrHasNone : Disk → Image → Type 0
WasKeptOrHasNone disk c = (d : Image) × disk.may_leave d × KeepsOrHasNone d c

-- if the header of slot j counts, so does that of slot i, and its number is less
abbrev pub GoesFirst : Slots → ℕ → ℕ → Type 0
GoesFirst slots i j = (n : ℕ) → n % 3 ≡ j → Counts slots n → (m : ℕ) × (m % 3 ≡ i) × Counts slots m × (m < n)

-- an order of the three slots: first those whose headers count, in rising order of their numbers, then the others
pub record IsOrder (slots : Slots) (o : Order) : Type 0 where
  pub first_low : o.first < 3
  pub second_low : o.second < 3
  pub third_low : o.third < 3
  pub apart : o.first ≡ o.second → ⊥
  pub first_apart : o.first ≡ o.third → ⊥
  pub second_apart : o.second ≡ o.third → ⊥
  pub early : GoesFirst slots o.first o.second
  pub late : GoesFirst slots o.second o.third

abbrev pub IsOrderOf : Image → Order → Type 0
IsOrderOf image o = (slots : Slots) × AreSlots image slots × IsOrder slots o
