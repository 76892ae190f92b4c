-- What a fresh image saves, and what a crash leaves while it is being written.
use Rattle.image_writer.specs.Names.{ℕ, Bool, List, [], length, true, false, None, Disk, Image, Frame, Geometry}
use Rattle.image_writer.specs.Names.{object_count, Entry, CheckpointHeader, SealedHeader, Plan, Version, SavedState}
use Rattle.image_writer.specs.Names.{IsPlan, row, entry_at, superblock_bytes, home_place, slot_sector, committed_bytes}
use Rattle.image_writer.specs.Names.{committed_slot, gate_place, Commits, Holds, SavedFrames}
use Rattle.std.specs.Prelude.{◌≡◌, ◌⊎◌, ◌↔◌, ◌<◌}
use Rattle.image_writer.specs.Homes.{HasZeros}

-- ---- saved states

-- the saved state with these parts
abbrev pub state_of : Plan → CheckpointHeader → List Entry → List Frame → SavedState
state_of p h es frames = record { plan = p; header = h; directory = es; frames = frames }

-- the header of generation 0 with the first sequence number of a version, whose objects are all home
abbrev pub first_header : Version → ℕ → CheckpointHeader
first_header v age = record { sequence = (row v).first_sequence; generation = 0; entries = 0; age = age }

-- the state that a fresh image denotes
abbrev pub first_state : Plan → ℕ → List Frame → SavedState
first_state p age frames = record { plan = p; header = first_header p.version age; directory = []; frames = frames }

-- the saved frames of a fresh image
abbrev pub first_saved : Geometry → ℕ → List Frame → SavedFrames
first_saved g age frames = record { geometry = g; frames = frames; generation = 0; entries = 0; age = age }

-- ---- zeros after frames

-- the homes of the first n numbers have zeros after their frames, and their seals in a version with seals
abbrev pub EndAtHome : Plan → ℕ → Image → Type 0
EndAtHome p n image = (a : ℕ) → a < n → HasZeros p a (home_place p a) image

-- each block has zeros after its frames, and its seal: at home, and in the slots of a directory's entries
pub record EndInZeros (p : Plan) (generation : ℕ) (es : List Entry) (image : Image) : Type 0 where
  pub home : EndAtHome p (object_count p.geometry) image
  pub slots : (j : ℕ) → j < length es →
      HasZeros p (entry_at es j).object (slot_sector p generation (entry_at es j).slot) image

-- ---- what a crash leaves while an image is being written

-- no header counts; with seals, no header is committed
abbrev pub HasNoneBy : Bool → Image → Type 0
HasNoneBy false image = committed_slot image ≡ None
HasNoneBy true image = (h : SealedHeader) → Commits image h → ⊥

-- an image without a superblock, or without a committed header: it can't be opened
abbrev pub HasNoHeader : Image → Type 0
HasNoHeader image = (p : Plan) → IsPlan p → image 0 ≡ superblock_bytes p → HasNoneBy (row p.version).sealed image

-- the same bytes in each sector except the gates of a version
abbrev pub SparesGates : Version → Image → Image → Type 0
SparesGates v old new = (i : ℕ) → ((k : ℕ) → k < (row v).header_slots → i ≡ gate_place v k → ⊥) → new i ≡ old i

-- the committed header is the same
abbrev pub SameHeaderBy : Bool → Image → Image → Type 0
SameHeaderBy false old new = committed_bytes new ≡ committed_bytes old
SameHeaderBy true old new = (h : SealedHeader) → Commits old h ↔ Commits new h

-- only gates of this version differ, and the committed header is the same
pub record KeepsAs (v : Version) (old new : Image) : Type 0 where
  pub elsewhere : SparesGates v old new
  pub committed : SameHeaderBy (row v).sealed old new

-- only gates differ; if there is a superblock, only those of its version, and the committed header is the same
pub record KeepsImage (old new : Image) : Type 0 where
  pub elsewhere : (i : ℕ) → ((v : Version) (k : ℕ) → k < (row v).header_slots → i ≡ gate_place v k → ⊥) → new i ≡ old i
  pub kept : (p : Plan) → IsPlan p → old 0 ≡ superblock_bytes p → KeepsAs p.version old new

-- c differs only in gates from an image that a crash now may leave, and has the same committed header
abbrev pub WasBefore : Disk → Image → Type 0
WasBefore disk c = (d : Image) × disk.may_leave d × KeepsImage d c

-- c satisfies `WasBefore`, or no header is committed, so it can't be opened
abbrev pub IsBeforeOrNone : Disk → Image → Type 0
IsBeforeOrNone disk c = WasBefore disk c ⊎ HasNoHeader c

-- c satisfies `WasBefore`, or no header is committed, or it holds the new saved frames
abbrev pub IsLeftWriting : Disk → SavedFrames → Image → Type 0
IsLeftWriting disk saved c = WasBefore disk c ⊎ HasNoHeader c ⊎ Holds disk.sectors c saved
