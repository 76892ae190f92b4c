-- The content of the header slots, as it was read.
use Rattle.std.specs.Prelude.{◌≡◌, ◌⊎◌, ℕ, ◌%◌, ◌<◌, List, length, map, Option, Some, None, get_or}
use Rattle.device.specs.Disk.{Image}
use Rattle.header_slots.specs.Committed.{IsRefused, slots_of}
use Rattle.header_slots.specs.Slots.{IsCommitted, Slots}
use Rattle.header_slots.specs.declared.deciding.NotCommitted.{NotCommitted}
use Rattle.header_slots.specs.declared.deciding.NotCommitted.TheVariants.{NextGate, NoPair}
use Rattle.header_slots.specs.declared.deciding.SlotNumbers.{SlotNumbers}
use Rattle.layout.specs.declared.bad_image.BadImage.{BadImage}
use Rattle.layout.specs.declared.bad_image.BadImage.TheVariants as bad
use Rattle.layout.specs.declared.sealed.header.SealedHeader.{SealedHeader}
use Rattle.layout.specs.sealed.Gate.{HasNumber}
use Rattle.layout.specs.Header.{IsHeader}
use Rattle.layout.specs.sealed.Header.{sealed_header_bytes, header_numbers}
use Rattle.layout.specs.sealed.Sector.{AreWords}
use Rattle.layout.specs.sealed.Opening.{gate_sector, header_sector}
use Rattle.ckpt_log.specs.declared.sealed.opening.HeaderSlot.{HeaderSlot}

-- these bytes encode this sound header; or, if it is `None`, no sound header
abbrev pub IsHeaderIn : List ℕ → Option SealedHeader → Type 0
IsHeaderIn bytes (Some h) = AreWords (header_numbers h) × (bytes ≡ sealed_header_bytes h)
IsHeaderIn bytes None = (h : SealedHeader) → AreWords (header_numbers h) → bytes ≡ sealed_header_bytes h → ⊥

-- these bytes are a gate with this number; or, if it is `None`, without a number
abbrev pub IsGateIn : List ℕ → Option ℕ → Type 0
IsGateIn bytes (Some n) = HasNumber bytes n
IsGateIn bytes None = (n : ℕ) → HasNumber bytes n → ⊥

-- slot k of the image has this content
pub record IsSlotIn (image : Image) (k : ℕ) (slot : HeaderSlot) : Type 0 where
  pub header : IsHeaderIn (image (header_sector k)) slot.header
  pub gate : IsGateIn (image (gate_sector k)) slot.gate

-- the three slots of the image have these contents
pub record AreRead (image : Image) (slots : List HeaderSlot) : Type 0 where
  pub count : length slots ≡ 3
  pub each : (k : ℕ) (d : HeaderSlot) → k < 3 → IsSlotIn image k (get_or slots k d)

-- the sequence number of a header, if there is one; the numbers in a slot, and in all slots
abbrev pub number_of : Option SealedHeader → Option ℕ
number_of None = None
number_of (Some h) = Some h.header.sequence

abbrev pub numbers_of : HeaderSlot → SlotNumbers
numbers_of slot = record { header = number_of slot.header; gate = slot.gate }

abbrev pub numbered : List HeaderSlot → Slots
numbered slots = slots_of (map numbers_of slots)

-- h is the header in these slots that is committed
pub record IsChosen (slots : List HeaderSlot) (h : SealedHeader) : Type 0 where
  pub committed : IsCommitted (numbered slots) h.header.sequence
  pub there : (d : HeaderSlot) → (get_or slots (h.header.sequence % 3) d).header ≡ Some h

-- the reason to refuse an image in which no header is committed
abbrev pub reason_of : NotCommitted → BadImage
reason_of NoPair = bad.NoHeader
reason_of NextGate = bad.BadHeader

-- why no header in these slots is committed and within its limits
abbrev pub HasNoneBy : List HeaderSlot → ℕ → BadImage → Type 0
HasNoneBy slots room bad.NoHeader = IsRefused (numbered slots) NoPair
HasNoneBy slots room bad.BadHeader =
    IsRefused (numbered slots) NextGate ⊎ ((h : SealedHeader) × IsChosen slots h × (IsHeader 2 room h.header → ⊥))
HasNoneBy slots room _ = ⊥
