-- The parts of an existing plan can be laid out again.
use Rattle.home_ranges.proofs.Names.{ℕ, List, [], length, set, take, drop, map, append_assoc, arith, append-nil, drop_all, drop_more, length-map, length-set}
use Rattle.home_ranges.proofs.Names.{take_all, take_more_set, Geometry, HomeRange, Plan, IsPlan, Cover, NumberRange, MayBeLaid, numbers_of, placed, range_at}
use Rattle.std.proofs.Common.{◌≡◌, ◌+◌, ◌<◌, ◌≤◌, ◌∷◌, ◌++◌}

cover_numbers : (g : Geometry) (n : ℕ) (rs : List HomeRange) → Cover g n rs → Cover g n (map (placed 0) (map numbers_of rs))
cover_numbers g n [] end = end
cover_numbers g n (r ∷ rs) cover = (cover.0, cover_numbers g (n + r.count) rs cover.1)

pub may_be_laid : (p : Plan) → IsPlan p → MayBeLaid p.geometry (map numbers_of p.ranges)
may_be_laid p fits = search (arith, length-map, cover_numbers)

-- ---- the numbers of ranges are listed one by one

pub record NumbersTo (rs : List HomeRange) (into : List NumberRange) (i : ℕ) : Type 0 where
  pub size : length into ≡ length rs
  pub rest : map numbers_of rs ≡ take i into ++ map numbers_of (drop i rs)

pub numbers_more : (rs : List HomeRange) (into : List NumberRange) (i : ℕ) → i < length rs → NumbersTo rs into i →
    NumbersTo rs (set into i (numbers_of (range_at rs i))) (i + 1)
numbers_more rs into i lt was = search (arith, drop_more, take_more_set, length-set, append_assoc)

pub all_numbers : (rs : List HomeRange) (into : List NumberRange) (i : ℕ) → length rs ≤ i → NumbersTo rs into i → into ≡ map numbers_of rs
all_numbers rs into i done was = search (arith, drop_all, append-nil, take_all)
