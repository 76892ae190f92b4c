-- Which header of an image is committed, in each version.
use Rattle.layout.specs.Names.{ℕ, nat_lt, Bool, Option, Some, None, List, drop, Image, Sums}
use Rattle.std.specs.Prelude.{◌≡◌, ◌+◌, ◌*◌, ◌%◌, ◌==◌, ◌&&◌, if◌then◌else◌, true, false}
use Rattle.header_slots.specs.Committed.{IsRefused}
use Rattle.header_slots.specs.Slots.{Slots}
use Rattle.header_slots.specs.declared.deciding.NotCommitted.TheVariants.{NoPair}
use Rattle.layout.specs.declared.sealed.header.SealedHeader.{SealedHeader}
use Rattle.layout.specs.declared.version.Version.{Version}
use Rattle.layout.specs.Bytes.{number_from}
use Rattle.layout.specs.Gate.{is_open}
use Rattle.layout.specs.Header.{header_bytes}
use Rattle.layout.specs.Version.{row}
use Rattle.layout.specs.sealed.Header.{header_numbers}
use Rattle.layout.specs.sealed.Opening.{AreSlots, Commits as CommitsSealed}
use Rattle.layout.specs.sealed.Sector.{AreWords}

-- ---- versions 1 and 2

-- the sequence number of a header, whatever the other bytes are
abbrev pub sequence_in : List ℕ → ℕ
sequence_in bytes = number_from (drop 8 bytes)

-- a header counts if its gate is open and it lies in the slot of its sequence number
abbrev pub does_count : List ℕ → List ℕ → ℕ → Bool
does_count header gate slot = is_open gate && (sequence_in header % 2 == slot)

-- the committed slot: if both headers count, the one with the greater sequence number
abbrev pub committed_of : Bool → ℕ → Bool → ℕ → Option ℕ
committed_of first m second n =
    if first && second then Some (if nat_lt m n then 1 else 0) else
    if first then Some 0 else
    if second then Some 1 else None

-- header slot 0 and its gate are sectors 1 and 2, header slot 1 and its gate sectors 3 and 4
abbrev pub committed_slot : Image → Option ℕ
committed_slot image = committed_of (does_count (image 1) (image 2) 0) (sequence_in (image 1))
    (does_count (image 3) (image 4) 1) (sequence_in (image 3))

abbrev pub option_at : Image → Option ℕ → Option (List ℕ)
option_at image None = None
option_at image (Some slot) = Some (image (1 + 2 * slot))

-- the sector of the committed header
abbrev pub committed_bytes : Image → Option (List ℕ)
committed_bytes image = option_at image (committed_slot image)

abbrev pub no_sums : Sums
no_sums = record { a = 0; b = 0; c = 0 }

-- a header of a version without seals: root and directory sums are zeros
pub record HasNoSums (h : SealedHeader) : Type 0 where
  pub root : h.root ≡ no_sums
  pub directory : h.directory ≡ no_sums

-- the committed header of an image without seals is h
pub record CommitsUnsealed (image : Image) (h : SealedHeader) : Type 0 where
  pub spelt : committed_bytes image ≡ Some (header_bytes h.header)
  pub sums : HasNoSums h
  pub fits : AreWords (header_numbers h)

-- ---- all versions

abbrev pub CommitsIf : Bool → Image → SealedHeader → Type 0
CommitsIf true image h = CommitsSealed image h
CommitsIf false image h = CommitsUnsealed image h

-- the committed header of an image is h
abbrev pub Commits : Version → Image → SealedHeader → Type 0
Commits v image h = CommitsIf (row v).sealed image h

abbrev pub CommitsNoneIf : Bool → Image → Type 0
CommitsNoneIf true image = (slots : Slots) × AreSlots image slots × IsRefused slots NoPair
CommitsNoneIf false image = committed_slot image ≡ None

-- no header counts; in version 3, no two with neighbouring numbers
abbrev pub HasNoCounting : Version → Image → Type 0
HasNoCounting v image = CommitsNoneIf (row v).sealed image
