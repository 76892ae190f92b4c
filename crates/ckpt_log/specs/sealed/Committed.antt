-- Why an image has no committed header.
use Rattle.std.specs.Prelude.{◌⊎◌, ℕ, ⊤}
use Rattle.device.specs.Disk.{Image}
use Rattle.header_slots.specs.Committed.{IsRefused}
use Rattle.header_slots.specs.Slots.{Slots}
use Rattle.header_slots.specs.declared.deciding.NotCommitted.{NotCommitted}
use Rattle.header_slots.specs.declared.deciding.NotCommitted.TheVariants.{NextGate, NoPair}
use Rattle.layout.specs.declared.bad_image.BadImage.TheVariants as bad
use Rattle.layout.specs.declared.open_fault.OpenFault.{OpenFault}
use Rattle.layout.specs.declared.open_fault.OpenFault.TheVariants as fault
use Rattle.layout.specs.declared.sealed.header.SealedHeader.{SealedHeader}
use Rattle.layout.specs.Header.{IsHeader}
use Rattle.layout.specs.sealed.Opening.{AreSlots, Commits}

-- h is committed, and is within the limits of a log half with `room` slots
pub record HasHeader (image : Image) (room : ℕ) (h : SealedHeader) : Type 0 where
  pub committed : Commits image h
  pub fits : IsHeader 2 room h.header

-- no header is committed, and why
abbrev pub Refuses : Image → NotCommitted → Type 0
Refuses image why = (slots : Slots) × AreSlots image slots × IsRefused slots why

-- the committed header is beyond its limits
abbrev pub IsBeyond : Image → ℕ → Type 0
IsBeyond image room = (h : SealedHeader) × Commits image h × (IsHeader 2 room h.header → ⊥)

-- why no header is read; true of any image if the device failed
abbrev pub HasNone : Image → ℕ → OpenFault → Type 0
HasNone image room fault.Failed = ⊤
HasNone image room (fault.Bad bad.NoHeader) = Refuses image NoPair
HasNone image room (fault.Bad bad.BadHeader) = Refuses image NextGate ⊎ IsBeyond image room
HasNone image room _ = ⊥
