-- Slots and directories of the log lie after the headers and before the end, and don't overlap.
use Rattle.ckpt_log.specs.Names.{ℕ, Extent, Plan, IsPlan, IsWithin, IsApart, IsInside, half_extent, place_length}
use Rattle.ckpt_log.specs.Names.{half_sector, slot_sector, directory_sector, directory_length}
use Rattle.std.specs.Prelude.{◌≡◌, ◌%◌, ◌<◌, ◌≤◌}

-- the sectors of a slot in the half of a generation
abbrev pub slot_extent : Plan → ℕ → ℕ → Extent
slot_extent p generation slot = record { sector = slot_sector p generation slot; length = 9 }

-- the sectors of an object's frame in a slot
abbrev pub place_extent : Plan → ℕ → ℕ → ℕ → Extent
place_extent p generation slot object =
    record { sector = slot_sector p generation slot; length = place_length p object }

-- the sectors of a directory of n entries
abbrev pub directory_extent : Plan → ℕ → ℕ → Extent
directory_extent p generation n = record {
  sector = directory_sector p generation;
  length = directory_length p.version n;
}

-- slots and directories lie inside their half, and frames inside their slot
abbrev pub SlotsAreInside : Type 0
SlotsAreInside = (p : Plan) (generation slot : ℕ) → slot < p.geometry.log →
    IsInside (slot_extent p generation slot) (half_extent p.version p.geometry (half_sector p generation))

abbrev pub FramesAreInSlots : Type 0
FramesAreInSlots = (p : Plan) (generation slot object : ℕ) → IsInside (place_extent p generation slot object)
    (slot_extent p generation slot)

abbrev pub DirectoriesAreInside : Type 0
DirectoriesAreInside = (p : Plan) (generation n : ℕ) → n ≤ p.geometry.log →
    IsInside (directory_extent p generation n) (half_extent p.version p.geometry (half_sector p generation))

-- each half lies after the headers and before the end
abbrev pub HalvesAreWithin : Type 0
HalvesAreWithin = (p : Plan) (generation : ℕ) → IsPlan p →
    IsWithin p.total (half_extent p.version p.geometry (half_sector p generation))

-- generations that differ mod 2 have halves that don't overlap
abbrev pub HalvesAreApart : Type 0
HalvesAreApart = (p : Plan) (a b : ℕ) → IsPlan p → (a % 2 ≡ b % 2 → ⊥) →
    IsApart (half_extent p.version p.geometry (half_sector p a)) (half_extent p.version p.geometry (half_sector p b))

-- the slots of a half overlap neither one another nor the directory
abbrev pub SlotsAreApart : Type 0
SlotsAreApart = (p : Plan) (generation a b : ℕ) → (a ≡ b → ⊥) →
    IsApart (slot_extent p generation a) (slot_extent p generation b)

abbrev pub SlotsSpareDirectories : Type 0
SlotsSpareDirectories = (p : Plan) (generation slot n : ℕ) → slot < p.geometry.log →
    IsApart (slot_extent p generation slot) (directory_extent p generation n)
