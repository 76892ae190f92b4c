-- Log slots that contain the frames of a whole cluster.
use Rattle.migrator.specs.Names.{ℕ, Option, List, length, Image, Disk, Elsewhere, Entry, entry_at, true, home_place}
use Rattle.migrator.specs.Names.{shape_of, bytes_at, slot_in, slot_sector, half_sector, sectors_from, row, shape_bytes}
use Rattle.migrator.specs.Names.{Plan, IsObject, IsTrue, range_with, sector_or, IsCluster, begins_unit, cluster_count}
use Rattle.std.specs.Prelude.{◌≡◌, ◌*◌, ◌<◌}
use Rattle.migrator.specs.Gathered.{IsFirst}
use Rattle.migrator.specs.Mended.{Unwritten, mended, IfUnwritten}
use Rattle.migrator.specs.Put.{IsSlotSummed, slot_bytes}
use Rattle.migrator.specs.Spared.{Touches}

-- the bytes of an object's new frame: in the slot of its own entry, or at home if it has none
abbrev pub new_bytes : Image → Plan → ℕ → List Entry → ℕ → List ℕ
new_bytes image p generation es n =
    bytes_at image (sector_or (slot_in es n) (slot_sector p generation) (home_place p n)) p n

-- these bytes contain the new frame of each object that shares the home of `number`
abbrev pub IsFilled : Image → Plan → ℕ → List Entry → ℕ → List ℕ → Type 0
IsFilled image p generation es number bytes = (n : ℕ) → IsObject p.geometry n → home_place p n ≡ home_place p number →
    shape_bytes (shape_of p n) bytes ≡ new_bytes image p generation es n

-- these bytes are a sealed cluster of the nodes that share the home of `number`
abbrev pub IsClusterOf : Plan → ℕ → List ℕ → Type 0
IsClusterOf p number bytes = (n : ℕ) → n < p.geometry.nodes → IsTrue (begins_unit p n) →
    home_place p n ≡ home_place p number → IsCluster (cluster_count p.version (range_with p.ranges n) n) bytes

-- the slot of an entry contains the new frames of all objects in its cluster; in version 3 it is a sealed cluster
pub record HasCluster (image : Image) (p : Plan) (generation : ℕ) (es : List Entry) (e : Entry) : Type 0 where
  pub frames : (n : ℕ) → IsObject p.geometry n → home_place p n ≡ home_place p e.object →
      slot_bytes image p generation e.slot n ≡ new_bytes image p generation es n
  pub seal : (row p.version).sealed ≡ true →
      IsClusterOf p e.object (sectors_from image (slot_sector p generation e.slot) 8)

-- if entry i is the first of its home, its slot contains the whole cluster
abbrev pub IsComplete : Image → Plan → ℕ → List Entry → ℕ → Type 0
IsComplete image p generation es i = IsFirst p es i → HasCluster image p generation es (entry_at es i)

-- the slot of the first entry of each cluster contains the whole cluster
abbrev pub AreComplete : Image → Plan → ℕ → List Entry → Type 0
AreComplete image p generation es = (i : ℕ) → i < length es → IsComplete image p generation es i

-- slots of a half were written, and the frames of these entries didn't change, with their sums
pub record Keeps (p : Plan) (generation : ℕ) (es : List Entry) (old : Disk) (was : Option Unwritten) (new : Disk)
    (is : Option Unwritten) : Type 0 where
  pub touches : Touches (half_sector p generation) (9 * p.geometry.log) old new
  pub elsewhere : Elsewhere (half_sector p generation) (9 * p.geometry.log) (mended old.seen was) (mended new.seen is)
  pub frames : (i : ℕ) → i < length es → slot_bytes (mended new.seen is) p generation (entry_at es i).slot
      (entry_at es i).object ≡ slot_bytes (mended old.seen was) p generation (entry_at es i).slot (entry_at es i).object
  pub sums : (i : ℕ) → i < length es →
      IsSlotSummed (mended old.seen was) p generation (entry_at es i).slot (entry_at es i).object →
      IsSlotSummed (mended new.seen is) p generation (entry_at es i).slot (entry_at es i).object
  pub unwritten : IfUnwritten p generation es is

-- the slot of one entry was written, and the entry's frame didn't change, with its sums
pub record KeepsOne (p : Plan) (generation : ℕ) (es : List Entry) (i : ℕ) (old new : Disk) (is : Option Unwritten) :
    Type 0 where
  pub touches : Touches (slot_sector p generation (entry_at es i).slot) 8 old new
  pub elsewhere : Elsewhere (slot_sector p generation (entry_at es i).slot) 8 old.seen (mended new.seen is)
  pub own : slot_bytes (mended new.seen is) p generation (entry_at es i).slot (entry_at es i).object ≡ slot_bytes
      old.seen p generation (entry_at es i).slot (entry_at es i).object
  pub sums : IsSlotSummed old.seen p generation (entry_at es i).slot (entry_at es i).object →
      IsSlotSummed (mended new.seen is) p generation (entry_at es i).slot (entry_at es i).object
  pub unwritten : IfUnwritten p generation es is
