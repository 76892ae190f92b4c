-- What a crash leaves while the gates of both headers are closed, so that no header is committed.
use Rattle.ckpt_log.specs.Names.{ℕ, None, false, is_open, committed_bytes, committed_slot, sequence_in, Image, Disk}
use Rattle.std.specs.Prelude.{◌≡◌, ◌⊎◌, ◌≤◌}
use Rattle.ckpt_log.specs.declared.header_slot.HeaderSlot.{HeaderSlot}
use Rattle.ckpt_log.specs.declared.header_slot.HeaderSlot.TheVariants.{First, Second}

-- both gates are closed
pub record AreClosed (image : Image) : Type 0 where
  pub first : is_open (image 2) ≡ false
  pub second : is_open (image 4) ≡ false

-- the same bytes in each sector except the two gates
abbrev pub SparesRest : Image → Image → Type 0
SparesRest old new = (i : ℕ) → (i ≡ 2 → ⊥) → (i ≡ 4 → ⊥) → new i ≡ old i

-- only gates differ, and the committed header is the same
pub record KeepsImage (old new : Image) : Type 0 where
  pub elsewhere : SparesRest old new
  pub committed : committed_bytes new ≡ committed_bytes old

-- only gates differ, and the committed header is the same, or there is none
pub record KeepsOrHasNone (old new : Image) : Type 0 where
  pub elsewhere : SparesRest old new
  pub committed : (committed_bytes new ≡ committed_bytes old) ⊎ (committed_slot new ≡ None)

-- c differs only in gates from an image that a crash now may leave; it has the same committed header, or none
abbrev pub WasKeptOrHasNone : Disk → Image → Type 0
WasKeptOrHasNone disk c = (d : Image) × disk.may_leave d × KeepsOrHasNone d c

-- of the two headers, that in this slot has the lesser sequence number, or both are equal
abbrev pub IsLesser : Image → HeaderSlot → Type 0
IsLesser image First = sequence_in (image 1) ≤ sequence_in (image 3)
IsLesser image Second = sequence_in (image 3) ≤ sequence_in (image 1)
