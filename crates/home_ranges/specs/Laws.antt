-- Homes overlap neither one another nor the log. In version 2 an image takes at most 8 sectors per range more than in
-- version 1.
use Rattle.home_ranges.specs.Names.{ℕ, List, None, row, Image, Elsewhere, Entry, Extent, One, home_place, place_length}
use Rattle.home_ranges.specs.Names.{Plan, IsPlan, IsWithin, IsApart, half_extent, frame_slot_in, bytes_at, frame_in}
use Rattle.home_ranges.specs.Names.{half_sector, IsObject, length, Two, Geometry}
use Rattle.std.specs.Prelude.{◌≡◌, ◌+◌, ◌*◌, ◌≤◌}
use Rattle.home_ranges.specs.Laid.{plan_from}
use Rattle.home_ranges.specs.declared.number_range.NumberRange.{NumberRange}

-- the sectors of a number's home
abbrev pub home_extent : Plan → ℕ → Extent
home_extent p number = record { sector = home_place p number; length = place_length p number }

-- homes lie after the header slots and before the end
abbrev pub PlacesAreWithin : Type 0
PlacesAreWithin = (p : Plan) (a : ℕ) → IsPlan p → IsObject p.geometry a → IsWithin p.total (home_extent p a)

-- different homes have no sector in common
abbrev pub PlacesAreApart : Type 0
PlacesAreApart = (p : Plan) (a b : ℕ) → IsPlan p → IsObject p.geometry a → IsObject p.geometry b →
    (home_place p a ≡ home_place p b → ⊥) → IsApart (home_extent p a) (home_extent p b)

-- if a cluster has one node, different numbers have no sector of their homes in common
abbrev pub NumbersAreApart : Type 0
NumbersAreApart = (p : Plan) (a b : ℕ) → IsPlan p → (row p.version).cluster_nodes ≡ 1 → IsObject p.geometry a → IsObject p.geometry b →
    (a ≡ b → ⊥) → IsApart (home_extent p a) (home_extent p b)

-- no home has a sector in common with the log half of any generation
abbrev pub PlacesSpareLog : Type 0
PlacesSpareLog = (p : Plan) (a generation : ℕ) → IsPlan p → IsObject p.geometry a →
    IsApart (home_extent p a) (half_extent p.version p.geometry (half_sector p generation))

-- a change outside a number's home keeps the frame there
abbrev pub FramesStay : Type 0
FramesStay = (old new : Image) (p : Plan) (a at n : ℕ) → IsApart (home_extent p a) (record { sector = at; length = n })
    → Elsewhere at n old new → bytes_at new (home_place p a) p a ≡ bytes_at old (home_place p a) p a

-- if no number with this home has a log slot, the number's frame is the one at home
abbrev pub FramesAreHome : Type 0
FramesAreHome = (image : Image) (p : Plan) (generation : ℕ) (es : List Entry) (a : ℕ) → frame_slot_in p es a ≡ None →
    frame_in image p generation es a ≡ bytes_at image (home_place p a) p a

-- in version 2 an image takes at most 8 sectors per range more than in version 1
abbrev pub SecondTakesFewMore : Type 0
SecondTakesFewMore = (g : Geometry) (rs : List NumberRange) → (plan_from Two g rs).total ≤ (plan_from One g rs).total +
    8 * length rs
