-- The calls that a host carries out on its storage, how they are encoded, and what a crash of the storage may leave.
use Rattle.vezhnake.specs.Names.{ℕ, List, [], length, flat_map, w64, to_le_bytes, Keep, Event, MayLeave, at_first, cut}
use Rattle.vezhnake.specs.Names.{replay, synced, writes_of, Image, image_of, sectors_of}
use Rattle.std.specs.Prelude.{◌*◌, ◌-◌, ◌^◌, ◌∷◌, ◌++◌}

-- what the host does: write these bytes from a sector on; make all earlier writes durable; or do the same for a power
-- cut, which keeps every byte
pub data HostCall : Type 0 where
  write : ℕ → List ℕ → HostCall
  sync : HostCall
  power_cut : HostCall

-- a number in eight bytes, little-endian
unfoldable pub number_bytes : ℕ → List ℕ
number_bytes n = to_le_bytes w64 n

-- the header of a write: the offset of its first byte, and its length
abbrev pub header_of : ℕ → ℕ → List ℕ
header_of byte count = number_bytes byte ++ number_bytes count

-- a call as bytes: a header, then the bytes to write. A sync has 2^64 - 1 in its header, and no bytes
abbrev pub encoding : HostCall → List ℕ
encoding (write at bytes) = header_of (512 * at) (length bytes) ++ bytes
encoding sync = header_of (2 ^ 64 - 1) 0
encoding power_cut = header_of (2 ^ 64 - 1) 0

-- several calls as bytes, one after another
abbrev pub encoded : List HostCall → List ℕ
encoded calls = flat_map encoding calls

-- the events of a call in the device model
abbrev pub events_by : HostCall → List Event
events_by (write at bytes) = writes_of at (sectors_of bytes) bytes
events_by sync = synced ∷ []
events_by power_cut = cut Keep ∷ []

abbrev pub events_of : List HostCall → List Event
events_of calls = flat_map events_by calls

-- storage of this many sectors held these bytes and carried out these calls; a crash may leave this image
abbrev pub StorageLeaves : ℕ → List ℕ → List HostCall → Image → Type 0
StorageLeaves sectors first calls c = MayLeave sectors (replay (at_first (image_of first)) (events_of calls)) c
