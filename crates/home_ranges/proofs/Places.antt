-- The homes of numbers, in ranges that cover all numbers.
use Rattle.home_ranges.proofs.Names.{ℕ, zero, suc, Option, Some, None, List, [], length, get_or, sym, ap, subst, inl, inr, arith, true, false, nat_lt, min}
use Rattle.home_ranges.proofs.Names.{cases_lt, length-map, get_or_append_left, get_or-map, nat_tests, Geometry, Image, Extent, HomeRange, Half, First, Second}
use Rattle.home_ranges.proofs.Names.{Shape, Version, row, page_shape, shape_end, AreBeside, IsFirstOf, frames_in_block, half_of, range_with, place_in, place_by}
use Rattle.home_ranges.proofs.Names.{home_place, rank_in, shape_of, place_length, sectors_from, node_shape, shape_length, Plan, IsPlan, Cover, IsOfOneKind}
use Rattle.home_ranges.proofs.Names.{IsWithin, IsApart, IsInside, extent_at, extents, range_extent, half_extent, half_start, itself, apart_inside, apart_turned}
use Rattle.home_ranges.proofs.Names.{many, half_at, IsObject, HaveHome, HoldsHome, home_extent, PlacesAreWithin, PlacesAreApart, NumbersAreApart}
use Rattle.home_ranges.proofs.Names.{PlacesSpareLog, same_Some, range_at}
use Rattle.layout.specs.Superblock.{MayBegin}
use Rattle.std.proofs.Common.{◌≡◌, ◌⊎◌, ◌+◌, ◌-◌, ◌*◌, ◌/◌, ◌%◌, ◌<◌, ◌≤◌, ◌∷◌, ◌∙◌}
use Rattle.std.specs.Prelude.{if◌then◌else◌}

-- range r contains this number, and has only nodes or only pages
pub record Has (g : Geometry) (r : HomeRange) (number : ℕ) : Type 0 where
  pub low : r.first ≤ number
  pub high : number < r.first + r.count
  pub kind : IsOfOneKind g r

-- range i contains the number, and `range_with` finds it
pub record IsFound (g : Geometry) (rs : List HomeRange) (number i : ℕ) : Type 0 where
  pub within : i < length rs
  pub has : Has g (range_at rs i) number
  pub found : range_with rs number ≡ Some (range_at rs i)

find_in : (g : Geometry) (n : ℕ) {number : ℕ} (rs : List HomeRange) → Cover g n rs → n ≤ number → number < g.nodes + g.pages →
    (i : ℕ) × IsFound g rs number i
find_in g n [] c low high = absurd (omega (arith, c))
find_in g n {number} (r ∷ rs) c low high = elim (cases_lt number (n + r.count)) [
  | inl lt ↦
      let low : r.first ≤ number = omega (arith, c.0.0) in
      let high : number < r.first + r.count = omega (arith, c.0.0) in (
        0,
        record {
          within = omega arith;
          has = record { low = low; high = high; kind = c.0.2 };
          found = grind (arith, nat_tests);
        },
      )
  | inr le ↦
      let rest = find_in g (n + r.count) rs c.1 le high in
      let past : r.first + r.count ≤ number = omega (arith, c.0.0) in (
        suc rest.0,
        record {
          within = omega (arith, rest.1.within);
          has = rest.1.has;
          found = let behind : range_with (r ∷ rs) number ≡ range_with rs number = grind (arith, nat_tests) in behind ∙ rest.1.found;
        },
      )
]

pub found : {p : Plan} (number : ℕ) → IsPlan p → IsObject p.geometry number → (i : ℕ) × IsFound p.geometry p.ranges number i
found {p} number fits is = find_in p.geometry 0 p.ranges fits.cover (omega arith) is

-- ---- in one range

-- the shape of a number's frame, from its range
abbrev shape_in : Version → Geometry → HomeRange → ℕ → Shape
shape_in v g r number = if nat_lt number g.nodes then node_shape v ((number - r.first) % (row v).cluster_nodes) else page_shape v

abbrev extent_of : ℕ → ℕ → Extent
extent_of sector length = record { sector = sector; length = length }

-- the sectors of a number's home, from its range
abbrev extent_in : Version → Geometry → HomeRange → ℕ → Extent
extent_in v g r number = extent_of (place_in v g r number) (shape_length (shape_in v g r number))

apart_in_one : (v : Version) {g : Geometry} {r : HomeRange} {a b : ℕ} → Has g r a → Has g r b → (place_in v g r a ≡ place_in v g r b → ⊥) →
    IsApart (extent_in v g r a) (extent_in v g r b)
apart_in_one v {g} {r} {a} {b} has_a has_b differ = grind (arith, nat_tests)

-- ---- ranges and log halves as extents

ranges_extent : (p : Plan) {i : ℕ} → i < length p.ranges → extent_at (extents p) i ≡ range_extent p.version p.geometry (range_at p.ranges i)
ranges_extent p {i} lt = grind (arith, nat_tests, length-map, get_or_append_left, get_or-map)

range_within : {p : Plan} {i : ℕ} → IsPlan p → i < length p.ranges → IsWithin p.total
    (range_extent p.version p.geometry (range_at p.ranges i))
range_within {p} {i} fits lt = subst (IsWithin p.total) (ranges_extent p lt)
    (fits.within i (record { sector = 0; length = 0 }) (omega (arith, many p)))

ranges_apart : {p : Plan} {i j : ℕ} → IsPlan p → i < j → j < length p.ranges →
    IsApart (range_extent p.version p.geometry (range_at p.ranges i)) (range_extent p.version p.geometry (range_at p.ranges j))
ranges_apart {p} {i} {j} fits lt within =
    let apart = fits.apart i j lt (omega (arith, many p)) in
    let in_i : i < length p.ranges = omega arith in
    grind (arith, nat_tests, ranges_extent)

-- ---- the laws

-- the home of a number begins at its place in its range
pub place_is : (p : Plan) {number i : ℕ} → IsFound p.geometry p.ranges number i →
    home_place p number ≡ place_in p.version p.geometry (range_at p.ranges i) number
place_is p {number} at = ap (λ (r : Option HomeRange). place_by p.version p.geometry r number) at.found

-- the home of a number takes the sectors of its block
home_is : (p : Plan) {number i : ℕ} → IsFound p.geometry p.ranges number i →
    home_extent p number ≡ extent_in p.version p.geometry (range_at p.ranges i) number
home_is p {number} {i} at = grind (arith, nat_tests)

home_inside : (p : Plan) {number i : ℕ} → IsFound p.geometry p.ranges number i →
    IsInside (home_extent p number) (range_extent p.version p.geometry (range_at p.ranges i))
home_inside p {number} {i} at = grind (arith, nat_tests)

pub places_within : PlacesAreWithin
places_within p a fits is =
    let at = found a fits is in
    let inside = home_inside p at.1 in
    let within = range_within fits at.1.within in
    grind (arith, nat_tests)

range_begins : {p : Plan} {i : ℕ} → IsPlan p → i < length p.ranges →
    MayBegin p.version (range_extent p.version p.geometry (range_at p.ranges i))
range_begins {p} {i} fits lt = subst (MayBegin p.version) (ranges_extent p lt)
    (fits.begin i (record { sector = 0; length = 0 }) (omega (arith, many p)))

-- homes lie after the header slots
pub places_begin : (p : Plan) (a : ℕ) → IsPlan p → IsObject p.geometry a → (row p.version).first_home ≤ home_place p a
places_begin p a fits is =
    let at = found a fits is in
    let inside = home_inside p at.1 in
    let begins = range_begins fits at.1.within in
    omega (arith, inside.starts, begins.0)

-- two homes don't overlap, or one range contains both numbers
either_range : {p : Plan} {a b : ℕ} → IsPlan p → IsObject p.geometry a → IsObject p.geometry b →
    IsApart (home_extent p a) (home_extent p b) ⊎ ((i : ℕ) × IsFound p.geometry p.ranges a i × IsFound p.geometry p.ranges b i)
either_range {p} {a} {b} fits is_a is_b =
    let at_a = found a fits is_a in
    let at_b = found b fits is_b in
    let in_a = home_inside p at_a.1 in
    let in_b = home_inside p at_b.1 in
    let range_a : Extent = range_extent p.version p.geometry (range_at p.ranges at_a.0) in
    let range_b : Extent = range_extent p.version p.geometry (range_at p.ranges at_b.0) in
    elim (cases_lt at_a.0 at_b.0) [
      | inl lt ↦ inl (apart_inside (home_extent p a) (home_extent p b) range_a range_b in_a in_b (ranges_apart fits lt at_b.1.within))
      | inr le ↦ elim (cases_lt at_b.0 at_a.0) [
        | inl lt ↦ inl (apart_turned (home_extent p b) (home_extent p a)
            (apart_inside (home_extent p b) (home_extent p a) range_b range_a in_b in_a (ranges_apart fits lt at_a.1.within)))
        | inr ge ↦
            let one : at_b.0 ≡ at_a.0 = omega (arith, le, ge) in
            inr (at_a.0, at_a.1, subst (IsFound p.geometry p.ranges b) one at_b.1)
      ]
    ]

-- two homes don't overlap if they don't in each range that contains both numbers
apart_by : {p : Plan} {a b : ℕ} → IsPlan p → IsObject p.geometry a → IsObject p.geometry b
    → ((i : ℕ) → IsFound p.geometry p.ranges a i → IsFound p.geometry p.ranges b i →
    IsApart (extent_in p.version p.geometry (range_at p.ranges i) a)
    (extent_in p.version p.geometry (range_at p.ranges i) b)) → IsApart (home_extent p a) (home_extent p b)
apart_by {p} {a} {b} fits is_a is_b in_one = grind (arith, nat_tests, either_range, home_is)

pub places_apart : PlacesAreApart
places_apart = grind (arith, nat_tests, apart_by, apart_in_one, place_is)

pub numbers_apart : NumbersAreApart
numbers_apart = grind (arith, nat_tests, apart_by, apart_in_one)

spares_at : {p : Plan} {a : ℕ} (k : ℕ) → IsPlan p → IsObject p.geometry a → k < 2 →
    IsApart (home_extent p a) (extent_at (half_extent p.version p.geometry p.half_0 ∷ half_extent p.version p.geometry p.half_1 ∷ []) k)
spares_at {p} {a} k fits is few =
    let at = found a fits is in
    let range : Extent = range_extent p.version p.geometry (range_at p.ranges at.0) in
    let half : Extent = extent_at (half_extent p.version p.geometry p.half_0 ∷ half_extent p.version p.geometry p.half_1 ∷ []) k in
    let apart = fits.apart at.0 (length p.ranges + k) (omega (arith, at.1.within)) (omega (arith, many p)) in
    let one = subst (λ (e : Extent). IsApart e (extent_at (extents p) (length p.ranges + k))) (ranges_extent p at.1.within) apart in
    let there = subst (IsApart range) (half_at p k) one in
    apart_inside (home_extent p a) half range half (home_inside p at.1) (itself half) there

spares_half : {p : Plan} {a : ℕ} (h : Half) → IsPlan p → IsObject p.geometry a →
    IsApart (home_extent p a) (half_extent p.version p.geometry (half_start p h))
spares_half First fits is = spares_at 0 fits is (omega arith)
spares_half Second fits is = spares_at 1 fits is (omega arith)

pub places_spare_log : PlacesSpareLog
places_spare_log p a generation fits is = spares_half (half_of generation) fits is

-- ---- objects that share a home

-- the numbers of range i are not below n, if the ranges cover the numbers from n on
covered_from : (g : Geometry) (n i : ℕ) (rs : List HomeRange) → Cover g n rs → i < length rs → n ≤ (range_at rs i).first
covered_from g n i [] c lt = absurd (omega (arith, lt))
covered_from g n zero (r ∷ rs) c lt = omega (arith, c.0.0)
covered_from g n (suc i) (r ∷ rs) c lt =
    let later = covered_from g (n + r.count) i rs c.1 (omega (arith, lt)) in omega (arith, later)

pub found_too : {g : Geometry} (n i : ℕ) {number : ℕ} (rs : List HomeRange) → Cover g n rs → i < length rs → Has g (range_at rs i) number →
    IsFound g rs number i
found_too n i [] c lt has = absurd (omega (arith, lt))
found_too n zero {number} (r ∷ rs) c lt has = record {
  within = lt;
  has = has;
  found = grind (arith, nat_tests, has.low, has.high);
}
found_too {g} n (suc i) {number} (r ∷ rs) c lt has =
    let rest = found_too (n + r.count) i rs c.1 (omega (arith, lt)) has in
    let later = covered_from g (n + r.count) i rs c.1 (omega (arith, lt)) in
    let past : r.first + r.count ≤ number = omega (arith, c.0.0, later, has.low) in record {
      within = lt;
      has = has;
      found = let behind : range_with (r ∷ rs) number ≡ range_with rs number = grind (arith, nat_tests) in behind ∙ rest.found;
    }

some_sectors : (p : Plan) (n : ℕ) → 1 ≤ place_length p n
some_sectors p n = grind (arith, nat_tests)

-- two extents that begin at the same sector overlap
never_apart : {d e : Extent} → d.sector ≡ e.sector → 1 ≤ d.length → 1 ≤ e.length → IsApart d e → ⊥
never_apart {d} {e} same some_d some_e apart = grind (arith, nat_tests)

-- range i contains both numbers, which share a home
pub record HasBoth (p : Plan) (a b : ℕ) (i : ℕ) : Type 0 where
  pub one : IsFound p.geometry p.ranges a i
  pub other : IsFound p.geometry p.ranges b i
  pub place : place_in p.version p.geometry (range_at p.ranges i) a ≡ place_in p.version p.geometry (range_at p.ranges i) b

pub one_range : {p : Plan} {a b : ℕ} → IsPlan p → IsObject p.geometry a → IsObject p.geometry b → home_place p a ≡ home_place p b →
    (i : ℕ) × HasBoth p a b i
one_range {p} {a} {b} fits is_a is_b same = grind (arith, nat_tests, either_range, never_apart, some_sectors, place_is)

-- the shape of a number is the one computed from its range
pub shape_is : (p : Plan) {number i : ℕ} → IsFound p.geometry p.ranges number i →
    shape_of p number ≡ shape_in p.version p.geometry (range_at p.ranges i) number
shape_is p {number} at = ap (λ (r : Option HomeRange). if nat_lt number p.geometry.nodes then node_shape p.version
    (rank_in p.version r number) else page_shape p.version) at.found

-- numbers that share a home have homes of the same length
pub one_length : (p : Plan) (a b : ℕ) → IsPlan p → IsObject p.geometry a → IsObject p.geometry b → home_place p a ≡ home_place p b →
    place_length p a ≡ place_length p b
one_length p a b fits is_a is_b same = grind (arith, nat_tests, one_range, shape_is)

-- bytes read from a home contain the frames of all objects that share it
pub home_held : {p : Plan} {number at n : ℕ} {s : Shape} {bytes : List ℕ} (image : Image) → IsPlan p → IsObject p.geometry number →
    at ≡ home_place p number → s ≡ shape_of p number → n ≡ shape_length s → sectors_from image at n ≡ bytes → HoldsHome p number bytes image
home_held {p} {number} {at} {n} {s} {bytes} image fits is place shape size held = grind (arith, nat_tests, one_length)

-- ---- the range that was found

-- the range that contains a number, and so the number's home
pub record IsRangeOf (p : Plan) (number : ℕ) (r : HomeRange) : Type 0 where
  pub sector : r.sector ≤ 131072
  pub place : home_place p number ≡ place_in p.version p.geometry r number

pub range_of : {p : Plan} {number : ℕ} {r : HomeRange} → IsPlan p → IsObject p.geometry number → Some r ≡ range_with p.ranges number →
    IsRangeOf p number r
range_of {p} {number} {r} fits is reported =
    let at = found number fits is in
    let same : r ≡ range_at p.ranges at.0 = same_Some _ _ (reported ∙ at.1.found) in
    grind (arith, nat_tests, range_within)

pub no_range : {p : Plan} {number : ℕ} → IsPlan p → IsObject p.geometry number → None ≡ range_with p.ranges number → ⊥
no_range {p} {number} fits is reported =
    let at = found number fits is in let never : None ≡ Some (range_at p.ranges at.0) = reported ∙ at.1.found in cc

-- this is the home of the number, after the headers and before the end
pub record IsPlace (p : Plan) (number place : ℕ) : Type 0 where
  pub value : place ≡ home_place p number
  pub behind : 5 ≤ place
  pub inside : place + place_length p number ≤ p.total

pub place_lies : {p : Plan} {number place : ℕ} {r : HomeRange} → IsPlan p → IsObject p.geometry number →
    Some r ≡ range_with p.ranges number → place ≡ place_in p.version p.geometry r number → IsPlace p number place
place_lies {p} {number} {place} {r} fits is reported made = grind (arith, nat_tests, places_within, range_of)

-- ---- which numbers share a home

-- a frame fills its block
abbrev pub IsWhole : Shape → Type 0
IsWhole s = s.bytes ≡ 512 * s.sectors

module _ {g : Geometry} {r : HomeRange} {a b : ℕ} (has_a : Has g r a) (has_b : Has g r b) where
  -- two numbers of a range that share a home are in the same block
  one_block : (v : Version) → place_in v g r a ≡ place_in v g r b → (a - r.first) / frames_in_block v g b
      ≡ (b - r.first) / frames_in_block v g b
  one_block v same = grind (arith, nat_tests)

  one_place : (v : Version) → (a - r.first) / frames_in_block v g b ≡ (b - r.first) / frames_in_block v g b →
      place_in v g r a ≡ place_in v g r b
  one_place v same = grind (arith, nat_tests)

  -- in a block, the frame of a greater number comes after those of lesser ones
  rise_in : (v : Version) → place_in v g r a ≡ place_in v g r b → a < b → shape_end (shape_in v g r a) ≤ (shape_in v g r b).offset
  rise_in v same lt = grind (arith, nat_tests)

  whole_alone : (v : Version) → place_in v g r a ≡ place_in v g r b → IsWhole (shape_in v g r b) → a ≡ b
  whole_alone v same whole = grind (arith, nat_tests)

module _ {p : Plan} {a b : ℕ} (fits : IsPlan p) (is_a : IsObject p.geometry a) (is_b : IsObject p.geometry b)
    (same : home_place p a ≡ home_place p b) where
  -- if two objects share a home, the frame of the greater number comes after the other
  pub frames_rise : a < b → shape_end (shape_of p a) ≤ (shape_of p b).offset
  frames_rise lt =
      let both = one_range fits is_a is_b same in
      rw (shape_is p both.1.one, shape_is p both.1.other) (rise_in both.1.one.has both.1.other.has p.version both.1.place lt)

  -- if a frame fills its block, no other object shares its home
  pub alone : IsWhole (shape_of p b) → a ≡ b
  alone whole =
      let both = one_range fits is_a is_b same in
      whole_alone both.1.one.has both.1.other.has p.version both.1.place (rw (shape_is p both.1.other) at whole)

pub frames_beside : {p : Plan} {a b : ℕ} → IsPlan p → IsObject p.geometry a → IsObject p.geometry b → home_place p a ≡ home_place p b →
    (a ≡ b → ⊥) → AreBeside (shape_of p a) (shape_of p b)
frames_beside {p} {a} {b} fits is_a is_b same differ = elim (cases_lt a b) [
  | inl lt ↦ inl (frames_rise fits is_a is_b same lt)
  | inr le ↦ inr (frames_rise fits is_b is_a (sym same) (omega (arith, le, differ)))
]

-- ---- the numbers of a block

-- a block has 1 or 5 frames
abbrev IsSize : ℕ → Type 0
IsSize k = (k ≡ 1) ⊎ (k ≡ 5)

block_size : (v : Version) (g : Geometry) (n : ℕ) → IsSize (frames_in_block v g n)
block_size v g n = grind (arith, nat_tests)

start_within : (k i : ℕ) → IsSize k → i % k ≤ i
start_within k i (inl one) = rw one (omega arith)
start_within k i (inr five) = rw five (omega arith)

start_same : (k i : ℕ) → IsSize k → (i - i % k) / k ≡ i / k
start_same k i (inl one) = rw one (omega arith)
start_same k i (inr five) = rw five (omega arith)

start_least : (k i j : ℕ) → IsSize k → j / k ≡ i / k → i - i % k ≤ j
start_least k i j (inl one) same = let e = rw one at same in rw one (omega (arith, e))
start_least k i j (inr five) same = let e = rw five at same in rw five (omega (arith, e))

later_same : (k i m : ℕ) → IsSize k → m < k - i % k → (i + m) / k ≡ i / k
later_same k i m (inl one) lt = let e = rw one at lt in rw one (omega (arith, e))
later_same k i m (inr five) lt = let e = rw five at lt in rw five (omega (arith, e))

all_before : (k i j : ℕ) → IsSize k → i ≤ j → j / k ≡ i / k → j < i + (k - i % k)
all_before k i j (inl one) le same = let e = rw one at same in rw one (omega (arith, e, le))
all_before k i j (inr five) le same = let e = rw five at same in rw five (omega (arith, e, le))

module _ {p : Plan} {number : ℕ} {r : HomeRange} (fits : IsPlan p) (is : IsObject p.geometry number)
    (reported : Some r ≡ range_with p.ranges number) where
  abbrev k : ℕ
  k = frames_in_block p.version p.geometry number

  here : Has p.geometry r number
  here =
      let at = found number fits is in
      subst (λ (x : HomeRange). Has p.geometry x number) (same_Some _ _ (sym at.1.found ∙ sym reported)) at.1.has

  -- all numbers that share the home are in the same range and block
  in_range : (a : ℕ) → IsObject p.geometry a → home_place p a ≡ home_place p number →
      Has p.geometry r a × ((a - r.first) / k ≡ (number - r.first) / k)
  in_range a is_a same =
      let both = one_range fits is_a is same in
      let one : range_at p.ranges both.0 ≡ r = same_Some _ _ (sym both.1.other.found ∙ sym reported) in
      let has : Has p.geometry r a = subst (λ (x : HomeRange). Has p.geometry x a) one both.1.one.has in
      let place = subst (λ (x : HomeRange). place_in p.version p.geometry x a ≡ place_in p.version p.geometry x number) one both.1.place in
      (has, one_block has here p.version place)

  -- all numbers of the same block share the home
  beside : (a : ℕ) → Has p.geometry r a → (a - r.first) / k ≡ (number - r.first) / k → home_place p a ≡ home_place p number
  beside a has same =
      let at = found number fits is in
      let one : r ≡ range_at p.ranges at.0 = same_Some _ _ (reported ∙ at.1.found) in
      let place = one_place has here p.version same in
      let there = found_too 0 at.0 p.ranges fits.cover at.1.within (subst (λ (x : HomeRange). Has p.geometry x a) one has) in
      place_is p there ∙ subst (λ (x : HomeRange). place_in p.version p.geometry x a ≡ place_in p.version p.geometry x number) one place
      ∙ sym (place_is p at.1)

  pub first_is : {first : ℕ} → first ≡ number - (number - r.first) % k → IsFirstOf p number first
  first_is {first} first_at =
      let i : ℕ = number - r.first in
      let size = block_size p.version p.geometry number in
      let few = start_within k i size in
      let place : first - r.first ≡ i - i % k = omega (arith, first_at, here.low, few) in
      let has : Has p.geometry r first = record {
        low = omega (arith, first_at, here.low, few);
        high = omega (arith, first_at, here.high);
        kind = here.kind;
      } in
      record {
        below = omega (arith, first_at);
        home = beside first has (ap (λ (m : ℕ). m / k) place ∙ start_same k i size);
        least = λ a is_a same.
            let at = in_range a is_a same in
            let least = start_least k i (a - r.first) size at.1 in
            omega (arith, first_at, least, at.0.low, here.low, few);
      }

  -- a number shares its home with the numbers after it, up to the end of its block or its range
  pub block_shared : {n : ℕ} → n ≡ min (r.count - (number - r.first)) (k - (number - r.first) % k) → HaveHome p number n
  block_shared {n} count =
      let i : ℕ = number - r.first in
      let size = block_size p.version p.geometry number in
      let has : (m : ℕ) → m < n → Has p.geometry r (number + m) =
      λ m lt. record { low = omega (arith, here.low); high = omega (arith, here.low, here.high, count, lt); kind = here.kind } in
      record {
        object = λ m lt. grind (arith, nat_tests);
        same = λ m lt.
            let sum : number + m - r.first ≡ i + m = omega (arith, here.low) in
            beside (number + m) (has m lt) (ap (λ (j : ℕ). j / k) sum ∙ later_same k i m size (omega (arith, lt, count)));
        all = λ a is_a low same.
            let at = in_range a is_a same in
            let before = all_before k i (a - r.first) size (omega (arith, low)) at.1 in
            omega (arith, before, count, at.0.high, at.0.low, here.low);
      }

-- if two numbers share a home, so does each number between them
pub home_between : {p : Plan} {a b n : ℕ} → IsPlan p → IsObject p.geometry a → IsObject p.geometry n → n ≤ b → b ≤ a →
    home_place p a ≡ home_place p n → home_place p b ≡ home_place p n
home_between {p} {a} {b} {n} fits is_a is_n low high same = grind (arith, nat_tests, one_range, place_is, found_too)

-- if bytes were written to the sectors of a home, the home contains them
pub bytes_home : (p : Plan) (number : ℕ) {at n : ℕ} {s : Shape} {bytes : List ℕ} (image : Image) → at ≡ home_place p number →
    s ≡ shape_of p number → n ≡ shape_length s → sectors_from image at n ≡ bytes →
    sectors_from image (home_place p number) (place_length p number) ≡ bytes
bytes_home p number {at} {n} {s} {bytes} image place shape size written = grind (arith, nat_tests)
