-- What the searches for a place in the sectors return.
use Rattle.std.specs.Prelude.{◌≡◌, ◌≢◌, ℕ, ◌+◌, ◌*◌, ◌%◌, ◌<◌, ◌≤◌, nat_le, IsTrue, List, Option, None, Some, ⊤}
use Rattle.device.specs.Disk.{Image}
use Rattle.ckpt_log.specs.declared.sealed.opening.HeaderSlot.{HeaderSlot}
use Rattle.ckpt_log.specs.sealed.Reading.{IsChosen, numbered}
use Rattle.header_slots.specs.Slots.{IsGreatestPair}
use Rattle.layout.specs.declared.bad_image.BadImage.{BadImage}
use Rattle.layout.specs.declared.bad_image.BadImage.TheVariants as bad
use Rattle.layout.specs.declared.directory.Entry.{Entry}
use Rattle.layout.specs.declared.header.CheckpointHeader.{CheckpointHeader}
use Rattle.layout.specs.declared.open_fault.OpenFault.{OpenFault}
use Rattle.layout.specs.declared.open_fault.OpenFault.TheVariants as open_fault
use Rattle.layout.specs.declared.sealed.header.SealedHeader.{SealedHeader}
use Rattle.layout.specs.Image.{frame_in}
use Rattle.layout.specs.Superblock.{Plan}
use Rattle.layout.specs.sealed.Opening.{header_sector}
use Rattle.layout.specs.sealed.Root.{root_of}
use Rattle.layout.specs.sealed.Units.{begins_unit, unit_bytes, units_in}
use Rattle.migrator.specs.Units.{IsUnitAt}
use Rattle.seal.specs.Seal.{IsSealed}
use Rattle.model.specs.declared.geometry.Geometry.{Geometry}
use Rattle.image_explainer.specs.declared.sectors.fault.DirectoryPart.{DirectoryPart}
use Rattle.image_explainer.specs.declared.sectors.fault.DirectoryPart.TheVariants as entry
use Rattle.image_explainer.specs.declared.sectors.fault.FramePart.{FramePart}
use Rattle.image_explainer.specs.declared.sectors.fault.FramePart.TheVariants as frame
use Rattle.image_explainer.specs.declared.sectors.fault.HeaderPart.TheVariants as header
use Rattle.image_explainer.specs.declared.sectors.fault.SectorFault.{SectorFault}
use Rattle.image_explainer.specs.declared.sectors.fault.SectorFault.TheVariants as fault
use Rattle.image_explainer.specs.SectorBreaking.{AreRightBefore, BreaksFrame, BreaksLimits, BreaksUnit, HoldsCap}
use Rattle.image_explainer.specs.SectorBreaking.{IsBadSlot, IsWholeFrame, StopsAt, number_at}

-- the fault is a failed device or lack of memory: the image isn't bad
abbrev pub IsNoReason : OpenFault → Type 0
IsNoReason (open_fault.Bad reason) = ⊥
IsNoReason _ = ⊤

-- the number of a gate, or 0 if it has none
abbrev pub gate_or_none : Option ℕ → ℕ
gate_or_none None = 0
gate_or_none (Some n) = n

-- header n isn't there, but its gate has its number, and n - 1 is the greatest pair of these slots
abbrev pub IsLostIn : List HeaderSlot → ℕ → Type 0
IsLostIn slots n = (s : ℕ) × IsGreatestPair (numbered slots) s × (n ≡ s + 1) × ((numbered slots (n % 3)).gate ≡ Some n)

-- what is wrong with the committed header in these slots
abbrev pub IsSlotsFault : List HeaderSlot → ℕ → SectorFault → Type 0
IsSlotsFault slots log (fault.Header sector (header.Lost n)) = IsLostIn slots n × (sector ≡ header_sector (n % 3))
IsSlotsFault slots log (fault.Header sector part) =
    (h : SealedHeader) × IsChosen slots h × (sector ≡ header_sector (h.header.sequence % 3)) ×
    BreaksLimits 2 log h.header part
IsSlotsFault slots log _ = ⊥

-- a sector isn't sealed, or is
abbrev pub IsSealPart : List ℕ → DirectoryPart → Type 0
IsSealPart bytes entry.Unsealed = IsSealed bytes → ⊥
IsSealPart bytes entry.Rest = IsSealed bytes
IsSealPart bytes _ = ⊥

-- the first of the sectors of n entries, from `at` on, that isn't one of entries
abbrev pub IsPieceFault : Image → ℕ → ℕ → SectorFault → Type 0
IsPieceFault c at n (fault.Directory sector part) =
    (k : ℕ) × StopsAt c at n k × (sector ≡ at + k) × IsSealPart (c sector) part
IsPieceFault c at n _ = ⊥

-- the first malformed frame
abbrev pub IsFrameFault : Image → Plan → CheckpointHeader → List Entry → SectorFault → Type 0
IsFrameFault c p h es (fault.Frame number is_page part) =
    (number < p.geometry.nodes + p.geometry.pages) × (is_page ≡ nat_le p.geometry.nodes number)
    × ((m : ℕ) → m < number → IsWholeFrame c p h es m) × (IsWholeFrame c p h es number → ⊥)
    × BreaksFrame p.geometry h.age number (frame_in c p h.generation es number) part
IsFrameFault c p h es _ = ⊥

-- the first unit that isn't right; or all are, and the root is another
abbrev pub IsUnitFault : Image → Plan → SealedHeader → List Entry → SectorFault → Type 0
IsUnitFault c p h es (fault.Unit number is_page part) =
    (number < p.geometry.nodes + p.geometry.pages) × (is_page ≡ nat_le p.geometry.nodes number)
    × IsTrue (begins_unit p number) × AreRightBefore c p h.header.generation es number
    × (IsUnitAt c p h.header.generation es number → ⊥) × BreaksUnit (unit_bytes c p h.header.generation es number) part
IsUnitFault c p h es fault.Root =
    AreRightBefore c p h.header.generation es (p.geometry.nodes + p.geometry.pages)
    × (root_of (units_in c p h.header.generation es) ≢ h.root)
IsUnitFault c p h es _ = ⊥

-- the reason is one of 4 to 7
abbrev pub IsBehindFront : BadImage → Type 0
IsBehindFront bad.Small = ⊥
IsBehindFront bad.NotASuperblock = ⊥
IsBehindFront bad.BadGeometry = ⊥
IsBehindFront _ = ⊤

-- the first bad slot of a node's frame; the body if no slot is bad
abbrev pub BreaksSlots : Geometry → ℕ → List ℕ → FramePart → Type 0
BreaksSlots g age bytes (frame.Count slot count most) =
    IsBadSlot g age bytes slot × (count ≡ number_at bytes (48 + 24 * slot)) × (most ≡ age) × (most < count)
BreaksSlots g age bytes (frame.Slot slot) = IsBadSlot g age bytes slot × (number_at bytes (48 + 24 * slot) ≤ age)
BreaksSlots g age bytes frame.Body = (k : ℕ) → k < 32 → HoldsCap g age bytes k
BreaksSlots g age bytes _ = ⊥
