-- The sectors of an image as bytes: the total, directories and frames, and where they lie.
use Rattle.layout.specs.Names.{ℕ, zero, suc, Bool, Option, Some, None, List, [], take, drop, Image}
use Rattle.std.specs.Prelude.{◌+◌, ◌*◌, ◌==◌, if◌then◌else◌, ◌∷◌, ◌++◌, true, false}
use Rattle.layout.specs.declared.directory.Entry.{Entry}
use Rattle.layout.specs.declared.shape.Shape.{Shape}
use Rattle.layout.specs.Bytes.{number_from}
use Rattle.layout.specs.Half.{half_of}
use Rattle.layout.specs.Homes.{home_place, shape_of}
use Rattle.layout.specs.Shape.{shape_length, shape_bytes}
use Rattle.layout.specs.Superblock.{Plan, half_start}
use Rattle.layout.specs.Version.{directory_length, row}

-- the bytes of the n sectors from `at` on
unfoldable pub sectors_from : Image → ℕ → ℕ → List ℕ
sectors_from image at zero = []
sectors_from image at (suc n) = image at ++ sectors_from image (at + 1) n

-- the total of a superblock, whatever the other bytes are
abbrev pub total_in : List ℕ → ℕ
total_in bytes = number_from (drop 56 bytes)

-- ---- where frames lie

-- the first sector of the log half of a generation, of a slot in it, and of its directory
abbrev pub half_sector : Plan → ℕ → ℕ
half_sector p generation = half_start p (half_of generation)

abbrev pub slot_sector : Plan → ℕ → ℕ → ℕ
slot_sector p generation slot = half_sector p generation + 9 * slot

abbrev pub directory_sector : Plan → ℕ → ℕ
directory_sector p generation = half_sector p generation + 9 * p.geometry.log

-- the bytes of a directory of n entries: those after the last entry don't matter
abbrev pub directory_in : Image → Plan → ℕ → ℕ → List ℕ
directory_in image p generation n = take (16 * n)
    (sectors_from image (directory_sector p generation) (directory_length p.version n))

-- the slot of the entry for an object, if there is one
abbrev pub slot_in : List Entry → ℕ → Option ℕ
slot_in [] object = None
slot_in (e ∷ es) object = if e.object == object then Some e.slot else slot_in es object

-- the slot of the first entry whose object has the same home as this one; in a cluster that is the least entry
abbrev pub slot_beside : Plan → List Entry → ℕ → Option ℕ
slot_beside p [] object = None
slot_beside p (e ∷ es) object = if home_place p e.object == home_place p object then Some e.slot else slot_beside p es
    object

abbrev pub or_beside : Option ℕ → Option ℕ → Option ℕ
or_beside (Some slot) beside = Some slot
or_beside None beside = beside

-- the slot that has an object's frame: in a sealed version that of its cluster's least entry, else that of its own entry
-- if it has one
abbrev pub slot_by : Bool → Plan → List Entry → ℕ → Option ℕ
slot_by true p es object = slot_beside p es object
slot_by false p es object = or_beside (slot_in es object) (slot_beside p es object)

abbrev pub frame_slot_in : Plan → List Entry → ℕ → Option ℕ
frame_slot_in p es object = slot_by (row p.version).sealed p es object

abbrev pub sector_or : Option ℕ → (ℕ → ℕ) → ℕ → ℕ
sector_or None in_log home = home
sector_or (Some slot) in_log home = in_log slot

-- the first sector of an object's frame: in its slot, or at home if it has none
abbrev pub frame_sector : Plan → ℕ → List Entry → ℕ → ℕ
frame_sector p generation es object = sector_or (frame_slot_in p es object) (slot_sector p generation)
    (home_place p object)

-- the bytes of a frame of this shape in the block at a sector
abbrev pub shaped_at : Image → ℕ → Shape → List ℕ
shaped_at image at shape = shape_bytes shape (sectors_from image at (shape_length shape))

-- the bytes of an object's frame in the block at a sector
abbrev pub bytes_at : Image → ℕ → Plan → ℕ → List ℕ
bytes_at image at p object = shaped_at image at (shape_of p object)

-- the bytes of an object's frame, in the log or at home
abbrev pub frame_in : Image → Plan → ℕ → List Entry → ℕ → List ℕ
frame_in image p generation es object = bytes_at image (frame_sector p generation es object) p object
