-- The layout of an image whose home ranges follow one another.
use Rattle.home_ranges.specs.Names.{ℕ, List, [], length, map, Geometry, HomeRange, Version, Plan, plan_of, IsGeometry}
use Rattle.home_ranges.specs.Names.{Cover, aligned, range_extent, half_length, row}
use Rattle.std.specs.Prelude.{◌+◌, ◌≤◌, ◌∷◌}
use Rattle.home_ranges.specs.declared.number_range.NumberRange.{NumberRange}

-- range r, with its frames from sector `at` on
abbrev pub placed : ℕ → NumberRange → HomeRange
placed at r = record { first = r.first; count = r.count; sector = at }

-- how many sectors the frames of a range take
abbrev pub sectors_of : Version → Geometry → NumberRange → ℕ
sectors_of v g r = (range_extent v g (placed 0 r)).length

-- the ranges, one after the other, from sector `at` on; each begins at the first multiple of the version's alignment
-- behind the one before it
unfoldable pub laid : Version → Geometry → ℕ → List NumberRange → List HomeRange
laid v g at [] = []
laid v g at (r ∷ rs) = placed at r ∷ laid v g (aligned v (at + sectors_of v g r)) rs

-- the first such multiple from the end of the last of these ranges on
unfoldable pub behind : Version → Geometry → ℕ → List NumberRange → ℕ
behind v g at [] = at
behind v g at (r ∷ rs) = behind v g (aligned v (at + sectors_of v g r)) rs

-- the plan with the ranges right after the opening structures, then the two halves of the log, and nothing else
abbrev pub plan_from : Version → Geometry → List NumberRange → Plan
plan_from v g rs = plan_of v g (laid v g (row v).first_home rs) (behind v g (row v).first_home rs)
    (behind v g (row v).first_home rs + half_length v g)
    (behind v g (row v).first_home rs + half_length v g + half_length v g)

-- a home range without its sector
abbrev pub numbers_of : HomeRange → NumberRange
numbers_of r = record { first = r.first; count = r.count }

-- the plan in version v with the objects and ranges of p
abbrev pub laid_again : Version → Plan → Plan
laid_again v p = plan_from v p.geometry (map numbers_of p.ranges)

-- what the format requires of geometry and ranges, apart from version and sectors
pub record MayBeLaid (g : Geometry) (rs : List NumberRange) : Type 0 where
  pub geometry : IsGeometry g
  pub some : 1 ≤ length rs
  pub few : length rs ≤ 8
  pub cover : Cover g 0 (map (placed 0) rs)
