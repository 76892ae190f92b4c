-- The header slots of an image, and its committed header.
use Rattle.std.specs.Prelude.{◌≡◌, ◌↔◌, ℕ, ◌+◌, ◌*◌, List, Some}
use Rattle.device.specs.Disk.{Image}
use Rattle.header_slots.specs.Slots.{Opens, Slots}
use Rattle.layout.specs.declared.sealed.header.SealedHeader.{SealedHeader}
use Rattle.layout.specs.sealed.Gate.{HasNumber}
use Rattle.layout.specs.sealed.Header.{sealed_header_bytes, header_numbers}
use Rattle.layout.specs.sealed.Sector.{AreWords}

-- the sectors of slot k's header and of its gate
abbrev pub header_sector : ℕ → ℕ
header_sector k = 8 + 16 * k

abbrev pub gate_sector : ℕ → ℕ
gate_sector k = 16 + 16 * k

-- these bytes are a sound header with this sequence number
abbrev pub IsSound : List ℕ → ℕ → Type 0
IsSound bytes s = (h : SealedHeader) × AreWords (header_numbers h) × (bytes ≡ sealed_header_bytes h)
    × (h.header.sequence ≡ s)

-- these slots have the numbers of the image's sound headers and of its gates, and the bytes of the headers
pub record AreSlots (image : Image) (slots : Slots) : Type 0 where
  pub header : (k s : ℕ) → ((slots k).header ≡ Some s) ↔ IsSound (image (header_sector k)) s
  pub gate : (k n : ℕ) → ((slots k).gate ≡ Some n) ↔ HasNumber (image (gate_sector k)) n
  pub bytes : (k : ℕ) → (slots k).bytes ≡ image (header_sector k)

-- the committed header of an image is h
pub record Commits (image : Image) (h : SealedHeader) : Type 0 where
  pub slots : Slots
  pub are : AreSlots image slots
  pub opens : Opens slots h.header.sequence (sealed_header_bytes h)
  pub fits : AreWords (header_numbers h)
