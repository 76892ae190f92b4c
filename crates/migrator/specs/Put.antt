-- The frames that were written to a half of the log.
use Rattle.migrator.specs.Names.{ℕ, List, [], length, map, slice_index_or, range_with_len, Frame, frame_at, Image}
use Rattle.migrator.specs.Names.{IsFrameOf, IfSummed, frame_from, bytes_at, sectors_from, shape_of, place_length}
use Rattle.migrator.specs.Names.{slot_sector, count_of, Plan, most}
use Rattle.std.specs.Prelude.{◌≡◌, ◌≢◌, ◌⊎◌, ◌+◌, ◌<◌, ◌≤◌, ◌∷◌}
use Rattle.migrator.specs.declared.table.Place.{Place}
use Rattle.migrator.specs.declared.table.Place.TheVariants.{Nowhere, Torn, Whole}
use Rattle.migrator.specs.Table.{place_at, IsTable, taken_count}

-- what was written of an object to a half: nothing, a frame that the device failed to write, or a frame
pub data Put : Type 0 where
  Absent : Put
  Broken : Put
  Kept : Frame → Put

abbrev pub put_at : List Put → ℕ → Put
put_at puts n = slice_index_or puts n Absent

-- how many frames of an object were written; how many slots it takes
abbrev pub kept_frame : Put → ℕ
kept_frame Absent = 0
kept_frame Broken = 0
kept_frame (Kept f) = 1

abbrev pub held_slot : Put → ℕ
held_slot Absent = 0
held_slot Broken = 1
held_slot (Kept f) = 1

unfoldable pub sum_of : (Put → ℕ) → List Put → ℕ
sum_of count [] = 0
sum_of count (put ∷ puts) = count put + sum_of count puts

-- how many frames were written
abbrev pub kept_count : List Put → ℕ
kept_count puts = sum_of kept_frame puts

-- object n has a slot, or fewer than `room` slots are taken
abbrev pub HasFreeSlot : ℕ → List Put → ℕ → Type 0
HasFreeSlot room puts n = (put_at puts n ≢ Absent) ⊎ (sum_of held_slot puts < room)

-- the frame that was written, or f if none was
abbrev pub put_or : Put → Frame → Frame
put_or Absent f = f
put_or Broken f = f
put_or (Kept put) f = put

-- the frames, each replaced by the one that was written, if one was
unfoldable pub overlaid : List Put → List Frame → List Frame
overlaid puts fs = map (λ n. put_or (put_at puts n) (frame_at fs n)) (range_with_len 0 (length fs))

-- the bytes of an object's frame in a slot; the frame that they decode to
abbrev pub slot_bytes : Image → Plan → ℕ → ℕ → ℕ → List ℕ
slot_bytes image p generation slot n = bytes_at image (slot_sector p generation slot) p n

abbrev pub slot_frame : Image → Plan → ℕ → ℕ → ℕ → Frame
slot_frame image p generation slot n = frame_from p.geometry n (slot_bytes image p generation slot n)

-- the block of an object in a slot has the sums of its words, if frames of this shape have sums
abbrev pub IsSlotSummed : Image → Plan → ℕ → ℕ → ℕ → Type 0
IsSlotSummed image p generation slot n =
    IfSummed (shape_of p n) (sectors_from image (slot_sector p generation slot) (place_length p n))

abbrev pub put_of : Image → Plan → ℕ → ℕ → Place → Put
put_of image p generation n Nowhere = Absent
put_of image p generation n (Torn slot) = Broken
put_of image p generation n (Whole slot) = Kept (slot_frame image p generation slot n)

-- what was written to the half of a generation, object by object
unfoldable pub puts_in : Image → Plan → ℕ → List Place → List Put
puts_in image p generation ps = map (λ n. put_of image p generation n (place_at ps n)) (range_with_len 0 (count_of p))

-- the table is valid, and each slot that it calls whole encodes a frame of its object, with its sums
pub record ArePut (image : Image) (p : Plan) (generation : ℕ) (ps : List Place) : Type 0 where
  pub count : length ps ≡ count_of p
  pub few : taken_count ps ≤ p.geometry.log
  pub table : IsTable ps
  pub spelt : (n s : ℕ) → n < count_of p → place_at ps n ≡ Whole s →
      IsFrameOf p.geometry most n (slot_bytes image p generation s n) (slot_frame image p generation s n)
  pub summed : (n s : ℕ) → n < count_of p → place_at ps n ≡ Whole s → IsSlotSummed image p generation s n
