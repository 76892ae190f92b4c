-- A cluster that a device failed to write.
use Rattle.migrator.specs.Names.{⊤, ℕ, nat_le, nat_lt, Option, Some, None, List, length, Geometry, Image, image_of}
use Rattle.migrator.specs.Names.{Entry, Shape, entry_at, place_length, IsFrameOf, frame_from, slot_sector, shape_bytes}
use Rattle.migrator.specs.Names.{most, Plan, IsObject, IsShapeFor}
use Rattle.std.specs.Prelude.{◌≡◌, ◌+◌, ◌-◌, ◌<◌, ◌&&◌, if◌then◌else◌}

-- a cluster that the device failed to write: its bytes, and the first sector of the slot where they belong
pub record Unwritten : Type 0 where
  pub sector : ℕ
  pub bytes : List ℕ

-- an image with the unwritten cluster in place
abbrev pub mended : Image → Option Unwritten → Image
mended image None = image
mended image (Some u) = λ i. if nat_le u.sector i && nat_lt i (u.sector + 8) then image_of u.bytes (i - u.sector) else
    image i

-- the unwritten cluster belongs in the slot of one of these entries, whose object is a node
pub record IsUnwritten (p : Plan) (generation : ℕ) (es : List Entry) (u : Unwritten) : Type 0 where
  pub size : length u.bytes ≡ 4096
  pub index : ℕ
  pub within : index < length es
  pub sector_is : u.sector ≡ slot_sector p generation (entry_at es index).slot
  pub sectors : place_length p (entry_at es index).object ≡ 8

abbrev pub IfUnwritten : Plan → ℕ → List Entry → Option Unwritten → Type 0
IfUnwritten p generation es None = ⊤
IfUnwritten p generation es (Some u) = IsUnwritten p generation es u

-- the unwritten cluster encodes the frame of this object, which has this shape
pub record IsSpeltIn (u : Unwritten) (shape : Shape) (g : Geometry) (number : ℕ) : Type 0 where
  pub object : IsObject g number
  pub fits : IsShapeFor g number shape
  pub sectors : shape.sectors ≡ 8
  pub spelt : IsFrameOf g most number (shape_bytes shape u.bytes) (frame_from g number (shape_bytes shape u.bytes))

-- the unwritten cluster, if the device failed to write one: its sector, and its bytes in memory
abbrev pub unwritten_of : Option ℕ → List ℕ → Option Unwritten
unwritten_of None bytes = None
unwritten_of (Some sector) bytes = Some (record { sector = sector; bytes = bytes })
