-- What is wrong with the sectors of an image: reasons 1 to 7, and the places where they apply.
use Rattle.std.specs.Prelude.{◌≡◌, ◌≢◌, ◌⊎◌, ◌+◌, ◌-◌, ◌*◌, ◌%◌, ◌^◌, ◌<◌, ◌≤◌, ◌==◌, nat_le, nat_lt, if◌then◌else◌}
use Rattle.std.specs.Prelude.{false, true, Bool, ℕ, codes, drop, length, take, IsTrue, List, Some}
use Rattle.device.specs.Disk.{Image}
use Rattle.header_slots.specs.Slots.{IsGreatestPair, Slots}
use Rattle.migrator.specs.Units.{IsUnitAt}
use Rattle.model.specs.declared.capability.Cap.{Cap}
use Rattle.model.specs.declared.frame.Frame.{Frame}
use Rattle.model.specs.declared.geometry.Geometry.{Geometry}
use Rattle.model.specs.Keepable.{IsKeptCap}
use Rattle.seal.specs.Seal.{IsSealed}
use Rattle.layout.specs.declared.bad_image.BadImage.{BadImage}
use Rattle.layout.specs.declared.bad_image.BadImage.TheVariants as bad
use Rattle.layout.specs.declared.directory.Entry.{Entry}
use Rattle.layout.specs.declared.header.CheckpointHeader.{CheckpointHeader}
use Rattle.layout.specs.declared.sealed.header.SealedHeader.{SealedHeader}
use Rattle.layout.specs.declared.version.Version.{Version}
use Rattle.layout.specs.Bytes.{half_number, number_from, zeros}
use Rattle.layout.specs.Capability.{capability_bytes}
use Rattle.layout.specs.Committed.{committed_slot, sequence_in}
use Rattle.layout.specs.Denoted.{AreEntriesOf, HasDirectory, HasHeader, HasPlan, IsBadBy, sums_if}
use Rattle.layout.specs.Directory.{AllFitting, IsEntry, entry_at}
use Rattle.layout.specs.Frame.{IsFrameOf}
use Rattle.layout.specs.Gate.{is_open}
use Rattle.layout.specs.Header.{IsHeader, header_bytes}
use Rattle.layout.specs.Image.{directory_sector, frame_in, total_in}
use Rattle.layout.specs.Superblock.{IsGeometry, IsPlan, Plan, superblock_bytes, version_number}
use Rattle.layout.specs.Version.{row}
use Rattle.layout.specs.sealed.Directory.{HaveEntries, directory_length, entries_bytes, piece}
use Rattle.layout.specs.sealed.Gate.{HasNumber}
use Rattle.layout.specs.sealed.Opening.{AreSlots, Commits, IsSound, gate_sector, header_sector}
use Rattle.layout.specs.sealed.Units.{HasUnits, begins_unit, unit_bytes, units_in}
use Rattle.layout.specs.sealed.Root.{root_of}
use Rattle.image_explainer.specs.declared.sectors.fault.DirectoryPart.{DirectoryPart}
use Rattle.image_explainer.specs.declared.sectors.fault.DirectoryPart.TheVariants as entry
use Rattle.image_explainer.specs.declared.sectors.fault.FramePart.{FramePart}
use Rattle.image_explainer.specs.declared.sectors.fault.FramePart.TheVariants as frame
use Rattle.image_explainer.specs.declared.sectors.fault.GeometryPart.{GeometryPart}
use Rattle.image_explainer.specs.declared.sectors.fault.GeometryPart.TheVariants as geometry
use Rattle.image_explainer.specs.declared.sectors.fault.HeaderPart.{HeaderPart}
use Rattle.image_explainer.specs.declared.sectors.fault.HeaderPart.TheVariants as header
use Rattle.image_explainer.specs.declared.sectors.fault.NotCounted.{NotCounted}
use Rattle.image_explainer.specs.declared.sectors.fault.NotCounted.TheVariants as uncounted
use Rattle.image_explainer.specs.declared.sectors.fault.NotPaired.{NotPaired}
use Rattle.image_explainer.specs.declared.sectors.fault.NotPaired.TheVariants as unpaired
use Rattle.image_explainer.specs.declared.sectors.fault.SectorFault.{SectorFault}
use Rattle.image_explainer.specs.declared.sectors.fault.SectorFault.TheVariants as fault
use Rattle.image_explainer.specs.declared.sectors.fault.SuperblockPart.{SuperblockPart}
use Rattle.image_explainer.specs.declared.sectors.fault.SuperblockPart.TheVariants as superblock
use Rattle.image_explainer.specs.declared.sectors.fault.UnitPart.{UnitPart}
use Rattle.image_explainer.specs.declared.sectors.fault.UnitPart.TheVariants as unit

-- the reason to refuse an image that has this fault
abbrev pub sector_reason : SectorFault → BadImage
sector_reason (fault.Small sectors needed) = bad.Small
sector_reason (fault.Superblock part) = bad.NotASuperblock
sector_reason (fault.Geometry part) = bad.BadGeometry
sector_reason (fault.NoHeader first second) = bad.NoHeader
sector_reason (fault.NoPair first second third) = bad.NoHeader
sector_reason (fault.Header sector part) = bad.BadHeader
sector_reason (fault.Directory sector part) = bad.BadDirectory
sector_reason (fault.Unit number is_page part) = bad.BadFrame
sector_reason fault.Root = bad.BadFrame
sector_reason (fault.Frame number is_page part) = bad.BadFrame

-- the number that the eight bytes from `at` on encode
abbrev pub number_at : List ℕ → ℕ → ℕ
number_at bytes at = number_from (drop at bytes)

-- the bytes have the number of this version
abbrev pub HasVersion : List ℕ → Version → Type 0
HasVersion bytes v = take 4 (drop 8 bytes) ≡ half_number (version_number v)

-- the bytes after the ranges are zeros, up to the seal if there is one
abbrev pub AreBlank : Bool → List ℕ → Type 0
AreBlank true bytes = take 232 (drop 256 bytes) ≡ zeros 232
AreBlank false bytes = drop 256 bytes ≡ zeros 256

-- reason 2: the first wrong part of sector 0, of the magic, the version, the zeros after the ranges and the seal
abbrev pub BreaksMark : List ℕ → SuperblockPart → Type 0
BreaksMark bytes superblock.Magic = take 8 bytes ≡ codes "EROSCKPT" → ⊥
BreaksMark bytes superblock.Version =
    (take 8 bytes ≡ codes "EROSCKPT") × ((v : Version) → HasVersion bytes v → ⊥)
BreaksMark bytes superblock.Tail =
    (take 8 bytes ≡ codes "EROSCKPT") × (v : Version) × HasVersion bytes v × (AreBlank (row v).sealed bytes → ⊥)
BreaksMark bytes superblock.Seal =
    (take 8 bytes ≡ codes "EROSCKPT") × (v : Version) × HasVersion bytes v × ((row v).sealed ≡ true) ×
    AreBlank true bytes × (IsSealed bytes → ⊥)

-- n is less than `least` or greater than `most`
abbrev pub IsOutside : ℕ → ℕ → ℕ → Type 0
IsOutside least most n = (n < least) ⊎ (most < n)

abbrev pub geometry_in : List ℕ → Geometry
geometry_in bytes = record { nodes = number_at bytes 16; pages = number_at bytes 24; log = number_at bytes 32 }

-- n is from `least` to `most`
abbrev pub IsWithin : ℕ → ℕ → ℕ → Type 0
IsWithin least most n = (least ≤ n) × (n ≤ most)

-- reason 3: the first number outside its limits; if all are within, the places of the ranges or of the log are wrong
abbrev pub BreaksGeometry : List ℕ → GeometryPart → Type 0
BreaksGeometry bytes (geometry.Nodes n) = (n ≡ number_at bytes 16) × IsOutside 16 4096 n
BreaksGeometry bytes (geometry.Pages n) =
    IsWithin 16 4096 (number_at bytes 16) × (n ≡ number_at bytes 24) × IsOutside 1 4096 n
BreaksGeometry bytes (geometry.Log n) =
    IsWithin 16 4096 (number_at bytes 16) × IsWithin 1 4096 (number_at bytes 24) × (n ≡ number_at bytes 32) ×
    IsOutside 16 4096 n
BreaksGeometry bytes (geometry.Total n) = IsGeometry (geometry_in bytes) × (n ≡ number_at bytes 56) × (131072 < n)
BreaksGeometry bytes geometry.Places =
    IsGeometry (geometry_in bytes) × (number_at bytes 56 ≤ 131072) ×
    ((p : Plan) → IsPlan p → bytes ≡ superblock_bytes p → ⊥)

-- reason 4, versions 1 and 2: why the header of a slot doesn't count
abbrev pub IsNotCounted : List ℕ → List ℕ → ℕ → NotCounted → Type 0
IsNotCounted header gate slot uncounted.Closed = is_open gate ≡ false
IsNotCounted header gate slot (uncounted.Misplaced sequence) =
    (is_open gate ≡ true) × (sequence ≡ sequence_in header) × (sequence % 2 ≢ slot)

abbrev pub header_in : List ℕ → CheckpointHeader
header_in bytes = record {
  sequence = number_at bytes 8;
  generation = number_at bytes 16;
  entries = number_at bytes 24;
  age = number_at bytes 32;
}

-- reason 4, version 3: the first reason why the header of slot k is in no pair, whose gate has the number n. `Alone`:
-- it counts, but no neighbour does
abbrev pub IsLone : List ℕ → ℕ → ℕ → NotPaired → Type 0
IsLone header k n unpaired.Unnumbered = ⊥
IsLone header k n unpaired.Unsound = (s : ℕ) → IsSound header s → ⊥
IsLone header k n (unpaired.Misplaced s) = IsSound header s × (s % 3 ≢ k)
IsLone header k n (unpaired.Renumbered s gate) = IsSound header s × (s % 3 ≡ k) × (gate ≡ n) × (gate ≢ s)
IsLone header k n (unpaired.Alone s) = IsSound header s × (s % 3 ≡ k) × (n ≡ s)

abbrev pub IsNotPaired : Image → ℕ → NotPaired → Type 0
IsNotPaired c k unpaired.Unnumbered = (n : ℕ) → HasNumber (c (gate_sector k)) n → ⊥
IsNotPaired c k why = (n : ℕ) × HasNumber (c (gate_sector k)) n × IsLone (c (header_sector k)) k n why

-- the first field above its limit, of entries, age, generation and sequence number. The first header of an image has
-- the number `first`
abbrev pub BreaksLimits : ℕ → ℕ → CheckpointHeader → HeaderPart → Type 0
BreaksLimits first log h (header.Entries entries slots) = (entries ≡ h.entries) × (slots ≡ log) × (slots < entries)
BreaksLimits first log h (header.Age age) = (h.entries ≤ log) × (age ≡ h.age) × (2 ^ 62 < age)
BreaksLimits first log h (header.Generation generation age) =
    (h.entries ≤ log) × (age ≤ 2 ^ 62) × (generation ≡ h.generation) × (age ≡ h.age) × (2 * age < generation)
BreaksLimits first log h (header.Sequence sequence age) =
    (h.entries ≤ log) × (age ≤ 2 ^ 62) × (h.generation ≤ 2 * age) × (sequence ≡ h.sequence) × (age ≡ h.age) ×
    (2 * age + first + (if h.entries == 0 then 1 else 0) < sequence)
BreaksLimits first log h _ = ⊥

-- reason 5, versions 1 and 2: a field above its limit; if there is none, another wrong byte
abbrev pub BreaksHeader : ℕ → List ℕ → HeaderPart → Type 0
BreaksHeader log bytes header.Bytes = IsHeader 0 log (header_in bytes) × (bytes ≡ header_bytes (header_in bytes) → ⊥)
BreaksHeader log bytes part = BreaksLimits 0 log (header_in bytes) part

-- reason 5, by version: what is wrong with the header in a sector. `Lost`: header n was committed, because its gate has
-- its number and n - 1 is the greatest pair; but it doesn't count
abbrev pub BreaksHeaderIf : Bool → Image → ℕ → ℕ → HeaderPart → Type 0
BreaksHeaderIf false c log sector part =
    (slot : ℕ) × (committed_slot c ≡ Some slot) × (sector ≡ 1 + 2 * slot) × BreaksHeader log (c sector) part
BreaksHeaderIf true c log sector (header.Lost n) =
    (slots : Slots) × (s : ℕ) × AreSlots c slots × IsGreatestPair slots s × (n ≡ s + 1) ×
    ((slots (n % 3)).gate ≡ Some n) × (sector ≡ header_sector (n % 3))
BreaksHeaderIf true c log sector part =
    (h : SealedHeader) × Commits c h × (sector ≡ header_sector (h.header.sequence % 3)) ×
    BreaksLimits 2 log h.header part

-- reason 6: an entry's number is no object's, its slot doesn't exist, its number isn't above the one before it, or
-- another entry has its slot
abbrev pub BreaksDirectory : Geometry → List Entry → DirectoryPart → Type 0
BreaksDirectory g es (entry.Object k object) = (k < length es) × ((entry_at es k).object ≡ object) ×
    (g.nodes + g.pages ≤ object)
BreaksDirectory g es (entry.Slot k slot) = (k < length es) × ((entry_at es k).slot ≡ slot) × (g.log ≤ slot)
BreaksDirectory g es (entry.Order k object before) =
    (0 < k) × (k < length es) × ((entry_at es k).object ≡ object) × ((entry_at es (k - 1)).object ≡ before) ×
    (object ≤ before)
BreaksDirectory g es (entry.Shared j k slot) = (j < k) × (k < length es) × ((entry_at es j).slot ≡ slot) ×
    ((entry_at es k).slot ≡ slot)
BreaksDirectory g es _ = ⊥

-- entry k is valid by itself, and together with the entries before it
pub record IsAmong (g : Geometry) (es : List Entry) (k : ℕ) : Type 0 where
  pub own : IsEntry g (entry_at es k)
  pub rises : 1 ≤ k → (entry_at es (k - 1)).object < (entry_at es k).object
  pub apart : (j : ℕ) → j < k → (entry_at es j).slot ≡ (entry_at es k).slot → ⊥

-- the index of the wrong entry
abbrev pub entry_of : DirectoryPart → ℕ
entry_of (entry.Object k object) = k
entry_of (entry.Slot k slot) = k
entry_of (entry.Order k object before) = k
entry_of (entry.Shared j k slot) = k
entry_of _ = 0

-- every entry before this one is valid
abbrev pub IsFirstEntry : Geometry → List Entry → DirectoryPart → Type 0
IsFirstEntry g es part = (j : ℕ) → j < entry_of part → IsAmong g es j

-- the directory's sectors hold these entries, whatever they are
pub record HoldsEntries (c : Image) (p : Plan) (h : SealedHeader) (es : List Entry) : Type 0 where
  pub count : length es ≡ h.header.entries
  pub fits : AllFitting es
  pub spelt : AreEntriesOf c p h.header.generation es

-- the first k of n sectors from `at` on hold entries of a directory with n entries, and the next sector holds none
pub record StopsAt (c : Image) (at n k : ℕ) : Type 0 where
  pub within : k < directory_length n
  pub before : (es : List Entry) × (length es ≡ n) × HaveEntries c at es k
  pub none : (es : List Entry) → length es ≡ n → AllFitting es → c (at + k) ≡ entries_bytes (piece es k) → ⊥

-- reason 6, by part: in version 3 first the sectors, then their sums; then the entries
abbrev pub BreaksDirectoryAt : Image → Plan → SealedHeader → ℕ → DirectoryPart → Type 0
BreaksDirectoryAt c p h sector entry.Unsealed =
    ((row p.version).sealed ≡ true) × (k : ℕ) × StopsAt c (directory_sector p h.header.generation) h.header.entries k ×
    (sector ≡ directory_sector p h.header.generation + k) × (IsSealed (c sector) → ⊥)
BreaksDirectoryAt c p h sector entry.Rest =
    ((row p.version).sealed ≡ true) × (k : ℕ) × StopsAt c (directory_sector p h.header.generation) h.header.entries k ×
    (sector ≡ directory_sector p h.header.generation + k) × IsSealed (c sector)
BreaksDirectoryAt c p h sector entry.Sums =
    (es : List Entry) × HoldsEntries c p h es × (sector ≡ directory_sector p h.header.generation) ×
    (sums_if (row p.version).sealed es ≢ h.directory)
BreaksDirectoryAt c p h sector part =
    (es : List Entry) × HoldsEntries c p h es × (sector ≡ directory_sector p h.header.generation) ×
    (sums_if (row p.version).sealed es ≡ h.directory) × BreaksDirectory p.geometry es part ×
    IsFirstEntry p.geometry es part

-- slot k of a node's frame encodes a capability that an image may hold
abbrev pub HoldsCap : Geometry → ℕ → List ℕ → ℕ → Type 0
HoldsCap g age bytes k = (c : Cap) × IsKeptCap g age c × (take 24 (drop (32 + 24 * k) bytes) ≡ capability_bytes c)

-- the first slot of a node's frame whose bytes encode no capability that an image may hold
abbrev pub IsBadSlot : Geometry → ℕ → List ℕ → ℕ → Type 0
IsBadSlot g age bytes slot =
    (slot < 32) × (HoldsCap g age bytes slot → ⊥) × ((k : ℕ) → k < slot → HoldsCap g age bytes k)

-- reason 7: the first wrong part of a frame, of its counts and its slots; if there is none, its body
abbrev pub BreaksFrame : Geometry → ℕ → ℕ → List ℕ → FramePart → Type 0
BreaksFrame g age n bytes (frame.Allocations count most) = (count ≡ number_at bytes 8) × (most ≡ age) × (most < count)
BreaksFrame g age n bytes (frame.Calls count most) =
    (number_at bytes 8 ≤ age) × (count ≡ number_at bytes 16) × (most ≡ age) × (most < count)
BreaksFrame g age n bytes (frame.Count slot count most) =
    (number_at bytes 8 ≤ age) × (number_at bytes 16 ≤ age) × (n < g.nodes) × IsBadSlot g age bytes slot ×
    (count ≡ number_at bytes (48 + 24 * slot)) × (most ≡ age) × (most < count)
BreaksFrame g age n bytes (frame.Slot slot) =
    (number_at bytes 8 ≤ age) × (number_at bytes 16 ≤ age) × (n < g.nodes) × IsBadSlot g age bytes slot ×
    (number_at bytes (48 + 24 * slot) ≤ age)
BreaksFrame g age n bytes frame.Body =
    (number_at bytes 8 ≤ age) × (number_at bytes 16 ≤ age) × (n < g.nodes → (k : ℕ) → k < 32 → HoldsCap g age bytes k)

-- reason 7, version 3: the bytes of a unit that isn't right aren't sealed; or they are, and the rest is wrong, which is
-- a byte after the frames of a cluster, or a header sector of a page without the sums of its words
abbrev pub BreaksUnit : List ℕ → UnitPart → Type 0
BreaksUnit bytes unit.Unsealed = IsSealed bytes → ⊥
BreaksUnit bytes unit.Rest = IsSealed bytes

-- the units of the numbers before n are right
abbrev pub AreRightBefore : Image → Plan → ℕ → List Entry → ℕ → Type 0
AreRightBefore c p generation es n = (m : ℕ) → m < n → IsTrue (begins_unit p m) → IsUnitAt c p generation es m

-- the bytes of object n's frame encode a frame that an image may hold
abbrev pub IsWholeFrame : Image → Plan → CheckpointHeader → List Entry → ℕ → Type 0
IsWholeFrame c p h es n = (f : Frame) × IsFrameOf p.geometry h.age n (frame_in c p h.generation es n) f

-- the image has this superblock, committed header and directory
pub record HasSaved (size : ℕ) (c : Image) (p : Plan) (h : SealedHeader) (es : List Entry) : Type 0 where
  pub plan : HasPlan c size p
  pub header : HasHeader c p h
  pub directory : HasDirectory c p h es

-- the fault is in the `size` sectors of the image
abbrev pub BreaksSectors : ℕ → Image → SectorFault → Type 0
BreaksSectors size c (fault.Small sectors needed) = (sectors ≡ size) ×
    (needed ≡ (if nat_lt size 5 then 5 else total_in (c 0))) × (sectors < needed)
BreaksSectors size c (fault.Superblock part) = BreaksMark (c 0) part
BreaksSectors size c (fault.Geometry part) = BreaksGeometry (c 0) part
BreaksSectors size c (fault.NoHeader first second) =
    (p : Plan) × HasPlan c size p × ((row p.version).sealed ≡ false) × IsNotCounted (c 1) (c 2) 0 first ×
    IsNotCounted (c 3) (c 4) 1 second
BreaksSectors size c (fault.NoPair first second third) =
    (p : Plan) × HasPlan c size p × ((row p.version).sealed ≡ true) × IsNotPaired c 0 first × IsNotPaired c 1 second ×
    IsNotPaired c 2 third
BreaksSectors size c (fault.Header sector part) =
    (p : Plan) × HasPlan c size p × BreaksHeaderIf (row p.version).sealed c p.geometry.log sector part
BreaksSectors size c (fault.Directory sector part) =
    (p : Plan) × (h : SealedHeader) × HasPlan c size p × HasHeader c p h × BreaksDirectoryAt c p h sector part
BreaksSectors size c (fault.Unit number is_page part) =
    (p : Plan) × (h : SealedHeader) × (es : List Entry) × HasSaved size c p h es × ((row p.version).sealed ≡ true)
    × (number < p.geometry.nodes + p.geometry.pages) × (is_page ≡ nat_le p.geometry.nodes number)
    × IsTrue (begins_unit p number) × AreRightBefore c p h.header.generation es number
    × (IsUnitAt c p h.header.generation es number → ⊥) × BreaksUnit (unit_bytes c p h.header.generation es number) part
BreaksSectors size c fault.Root =
    (p : Plan) × (h : SealedHeader) × (es : List Entry) × HasSaved size c p h es × ((row p.version).sealed ≡ true)
    × AreRightBefore c p h.header.generation es (p.geometry.nodes + p.geometry.pages)
    × (root_of (units_in c p h.header.generation es) ≢ h.root)
BreaksSectors size c (fault.Frame number is_page part) =
    (p : Plan) × (h : SealedHeader) × (es : List Entry) × HasSaved size c p h es
    × ((row p.version).sealed ≡ true → HasUnits c p h.root h.header.generation es)
    × (number < p.geometry.nodes + p.geometry.pages) × (is_page ≡ nat_le p.geometry.nodes number)
    × ((m : ℕ) → m < number → IsWholeFrame c p h.header es m) × (IsWholeFrame c p h.header es number → ⊥)
    × BreaksFrame p.geometry h.header.age number (frame_in c p h.header.generation es number) part

-- the image has this fault, with the least reason that applies
abbrev pub IsFault : ℕ → Image → SectorFault → Type 0
IsFault size c f = IsBadBy c size (sector_reason f) × BreaksSectors size c f
