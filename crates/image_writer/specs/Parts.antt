-- The parts of a fresh image, as its functions write them one after another.
use Rattle.image_writer.specs.Names.{ℕ, Bool, List, [], true, false, flat_map, range_with_len, Disk, Image, Frame}
use Rattle.image_writer.specs.Names.{frame_at, object_count, Entry, CheckpointHeader, SealedHeader, Plan, Version}
use Rattle.image_writer.specs.Names.{IsPlan, row, entry_at, header_bytes, sealed_header_bytes, superblock_bytes}
use Rattle.image_writer.specs.Names.{frame_bytes, frame_in, home_place, place_length, sectors_from, slot_sector}
use Rattle.image_writer.specs.Names.{gate_place, is_open, numbered_gate_bytes, AreEntriesOf, AreWords, HasNoSums}
use Rattle.image_writer.specs.Names.{HasUnits, Unit, begins_unit, header_numbers, seal_in, sums_if, IsFirstOf}
use Rattle.std.specs.Prelude.{◌≡◌, ◌<◌, ◌∷◌, if◌then◌else◌}
use Rattle.image_writer.specs.Homes.{LieAt, unit_of}
use Rattle.image_writer.specs.Written.{EndInZeros}

-- ---- closed gates

-- a gate is closed: its first byte isn't 1; with seals, its numbers are 0
abbrev pub IsClosedBy : Bool → List ℕ → Type 0
IsClosedBy false bytes = is_open bytes ≡ false
IsClosedBy true bytes = bytes ≡ numbered_gate_bytes 0

-- all gates of a version are closed
abbrev pub GatesAreClosed : Version → Image → Type 0
GatesAreClosed v image = (k : ℕ) → k < (row v).header_slots → IsClosedBy (row v).sealed (image (gate_place v k))

-- an image has the superblock of this plan, and its gates are closed
pub record IsShut (p : Plan) (image : Image) : Type 0 where
  pub superblock : image 0 ≡ superblock_bytes p
  pub gates : GatesAreClosed p.version image

-- each crash leaves an image of this plan with closed gates
abbrev pub LeavesShut : Plan → Disk → Type 0
LeavesShut p disk = (c : Image) → disk.may_leave c → IsShut p c

-- all gates of the versions without seals, or those of the version with seals: only these differ
abbrev pub SparesAll : Bool → Image → Image → Type 0
SparesAll false old new = (i : ℕ) → (i ≡ 2 → ⊥) → (i ≡ 4 → ⊥) → new i ≡ old i
SparesAll true old new = (i : ℕ) → (i ≡ 16 → ⊥) → (i ≡ 32 → ⊥) → (i ≡ 48 → ⊥) → new i ≡ old i

-- they are zeros
abbrev pub AreZeros : Bool → Image → Type 0
AreZeros false image = (image 2 ≡ numbered_gate_bytes 0) × (image 4 ≡ numbered_gate_bytes 0)
AreZeros true image = (image 16 ≡ numbered_gate_bytes 0) × (image 32 ≡ numbered_gate_bytes 0) × (image 48 ≡ numbered_gate_bytes 0)

-- the version is that of the superblock, if the image has one
abbrev pub IsNamed : Image → Version → Type 0
IsNamed image v = (p : Plan) → IsPlan p → image 0 ≡ superblock_bytes p → p.version ≡ v

-- ---- headers, homes and slots

-- h is a header to commit: it has the fields of `header`, its numbers fit, and without seals it has no sums
pub record IsHeaderOf (p : Plan) (header : CheckpointHeader) (h : SealedHeader) : Type 0 where
  pub same : h.header ≡ header
  pub words : AreWords (header_numbers h)
  pub plain : (row p.version).sealed ≡ false → HasNoSums h

-- with seals, the first of two headers with the same state: its sequence number is 1
abbrev pub header_before : SealedHeader → SealedHeader
header_before h = record { header = record h.header { sequence = 1 }; root = h.root; directory = h.directory }

-- a header in the first slot; with seals, h in the last slot and the one before it in the second
abbrev pub HaveHeaders : Bool → SealedHeader → Image → Type 0
HaveHeaders false h image = image 1 ≡ header_bytes h.header
HaveHeaders true h image = (image 24 ≡ sealed_header_bytes (header_before h)) × (image 40 ≡ sealed_header_bytes h)

-- each home whose first number is below n has the frames of all objects that share it
abbrev pub AreHomes : Plan → List Frame → ℕ → Image → Type 0
AreHomes p frames n image = (first : ℕ) → first < n → IsFirstOf p first first → LieAt p frames first
    (home_place p first) image

-- the unit that a number begins, at home; the units of the numbers below n
abbrev pub home_unit : Image → Plan → ℕ → Unit
home_unit image p n = record {
  number = n;
  seal = seal_in (unit_of p n (sectors_from image (home_place p n) (place_length p n)));
}

abbrev pub home_units : Image → Plan → ℕ → List Unit
home_units image p n =
    flat_map (λ number. if begins_unit p number then home_unit image p number ∷ [] else []) (range_with_len 0 n)

-- for each of the first n entries, the slot has the frames of all objects that share the home of the entry's object
abbrev pub AreInSlots : Plan → ℕ → List Entry → List Frame → ℕ → Image → Type 0
AreInSlots p generation es frames n image = (j : ℕ) → j < n →
    LieAt p frames (entry_at es j).object (slot_sector p generation (entry_at es j).slot) image

-- the frames of an image, its directory, and the sums that its header has of them; each frame is where the directory says
pub record HasFrames (p : Plan) (h : SealedHeader) (es : List Entry) (frames : List Frame) (image : Image) : Type 0
  where
    pub directory : AreEntriesOf image p h.header.generation es
    pub sums : sums_if (row p.version).sealed es ≡ h.directory
    pub placed : (a : ℕ) → a < object_count p.geometry → frame_in image p h.header.generation es a
        ≡ frame_bytes p.geometry a (frame_at frames a)
    pub zeros : EndInZeros p h.header.generation es image
    pub units : (row p.version).sealed ≡ true → HasUnits image p h.root h.header.generation es

-- all parts of an image are written, with all gates closed
pub record IsWritten (p : Plan) (h : SealedHeader) (es : List Entry) (frames : List Frame) (image : Image) : Type 0
  where
    pub plan : IsPlan p
    pub shut : IsShut p image
    pub headers : HaveHeaders (row p.version).sealed h image
    pub fits : IsHeaderOf p h.header h
    pub parts : HasFrames p h es frames image

-- only the gates that a new image opens differ: the first one; with seals, the second and the third
abbrev pub SparesBy : Bool → Image → Image → Type 0
SparesBy false old new = (i : ℕ) → (i ≡ 2 → ⊥) → new i ≡ old i
SparesBy true old new = (i : ℕ) → (i ≡ 32 → ⊥) → (i ≡ 48 → ⊥) → new i ≡ old i

-- these gates are open
abbrev pub AreOpenBy : Bool → Image → Type 0
AreOpenBy false image = is_open (image 2) ≡ true
AreOpenBy true image = (image 32 ≡ numbered_gate_bytes 1) × (image 48 ≡ numbered_gate_bytes 2)
