-- Superblocks are read back from their bytes.
use Rattle.layout.proofs.Names.{extents, nat_tests, [], ℕ, zero, suc, List, length, get_or, set, take, drop, refl, sym, ap, subst, append_assoc, arith, All}
use Rattle.layout.proofs.Names.{between, replicate, codes, map, w32, from_le_bytes, le_bytes_8, from_le_bytes-to_le_bytes_4, same_lists}
use Rattle.layout.proofs.Names.{take_more, take_more_set, take_all, take_at, drop_at, drop-drop, append-nil, length-append, length-replicate, get_or-replicate}
use Rattle.layout.proofs.Names.{length-take-le, length-drop, take-append-drop, length-map, get_or_append_left, get_or-append-add, get_or-map, take-add}
use Rattle.layout.proofs.Names.{flat_map-append, All-same, All-push, All-nil, All-tail, All-head, All-append, All-replicate, Geometry, Extent, HomeRange}
use Rattle.layout.proofs.Names.{Version, number, half_number, zeros, Plan, version_number, plan_of, range_extent, half_extent, IsWithin, range_bytes}
use Rattle.layout.proofs.Names.{ranges_bytes, unused, superblock_bytes, HasMark, IsPlan, RangeFits, HasEnd, sector_with, superblock_front}
use Rattle.layout.proofs.Names.{Bool, true, false, row, Option, IfSome, IfNone, IsSealed, body_of, sums_bytes, sums_of, with_seal}
use Rattle.std.proofs.Common.{◌≡◌, ◌+◌, ◌-◌, ◌*◌, ◌/◌, ◌%◌, ◌^◌, ◌<◌, ◌≤◌, ◌∷◌, ◌++◌, ◌∙◌}
use Rattle.std.specs.Prelude.{Some, None}
use borrow.Rule.Slice.PartMut.{put_mid}
use Rattle.layout.proofs.Numbers.{length-number, length-zeros, number_splits, stream, AllFit, stream_splits, IsWritten}
use Rattle.layout.proofs.Capabilities.{small_8}
use Rattle.layout.proofs.Extents.{ranges_within}
use Rattle.layout.proofs.Frames.{drop_zeros, zeros_add, zeros_none, mid_put}
use Rattle.layout.proofs.SealedSectors.{sealed_is, sealed_seal}

-- ---- ranges

pub no_range : ranges_bytes [] ≡ []
unfolding ranges_bytes
no_range = refl

three : (a b c z : List ℕ) → (a ++ b ++ c) ++ z ≡ a ++ (b ++ (c ++ z))
three a b c z = simp append_assoc

cons_range : (r : HomeRange) (rs : List HomeRange) → ranges_bytes (r ∷ rs) ≡ number r.first ++
    (number r.count ++ (number r.sector ++ ranges_bytes rs))
unfolding ranges_bytes
cons_range r rs = three (number r.first) (number r.count) (number r.sector) (ranges_bytes rs)

append_ranges : (qs rs : List HomeRange) → ranges_bytes (qs ++ rs) ≡ ranges_bytes qs ++ ranges_bytes rs
unfolding ranges_bytes
append_ranges qs rs = flat_map-append range_bytes qs rs

push_range : (rs : List HomeRange) (r : HomeRange) → ranges_bytes (rs ++ r ∷ [])
    ≡ ranges_bytes rs ++ (number r.first ++ number r.count ++ number r.sector)
push_range rs r = grind (arith, nat_tests, append_ranges, cons_range, no_range, three, append-nil)

pub length-ranges : (rs : List HomeRange) → length (ranges_bytes rs) ≡ 24 * length rs
length-ranges [] = ap length no_range
length-ranges (r ∷ rs) = grind (arith, nat_tests, cons_range, length-append, length-number, length-ranges rs)

same_range : (q r : HomeRange) → q.first ≡ r.first → q.count ≡ r.count → q.sector ≡ r.sector → q ≡ r
same_range q r a b c = grind (arith, nat_tests)

three_same : (q r : HomeRange) → q.first ∷ q.count ∷ q.sector ∷ [] ≡ r.first ∷ r.count ∷ r.sector ∷ [] → q ≡ r
three_same q r e = same_range q r (cc) (cc) (cc)

four_deep : (a b c d x : List ℕ) → (a ++ (b ++ (c ++ d))) ++ x ≡ a ++ (b ++ (c ++ (d ++ x)))
four_deep a b c d x = simp append_assoc

with_rest : (r : HomeRange) (rs : List HomeRange) (x : List ℕ) → ranges_bytes (r ∷ rs) ++ x
    ≡ stream (r.first ∷ r.count ∷ r.sector ∷ []) (ranges_bytes rs ++ x)
with_rest r rs x = ap (λ (z : List ℕ). z ++ x) (cons_range r rs) ∙ four_deep (number r.first) (number r.count) (number r.sector)
    (ranges_bytes rs) x

pub ranges_split : (qs rs : List HomeRange) (x y : List ℕ) → All RangeFits qs → All RangeFits rs → length qs ≡ length rs →
    ranges_bytes qs ++ x ≡ ranges_bytes rs ++ y → (qs ≡ rs) × (x ≡ y)
ranges_split [] [] x y fq fr len e = (refl, ap (λ (z : List ℕ). z ++ x) (sym no_range) ∙ e ∙ ap (λ (z : List ℕ). z ++ y) no_range)
ranges_split [] (r ∷ rs) x y fq fr len e = absurd (omega (arith, len))
ranges_split (q ∷ qs) [] x y fq fr len e = absurd (omega (arith, len))
ranges_split (q ∷ qs) (r ∷ rs) x y fq fr len e =
    let left : ranges_bytes (q ∷ qs) ++ x ≡ stream (q.first ∷ q.count ∷ q.sector ∷ []) (ranges_bytes qs ++ x) = with_rest q qs x in
    let right : ranges_bytes (r ∷ rs) ++ y ≡ stream (r.first ∷ r.count ∷ r.sector ∷ []) (ranges_bytes rs ++ y) = with_rest r rs y in
    let hq = All-head RangeFits q qs fq in
    let hr = All-head RangeFits r rs fr in
    let s = stream_splits (q.first ∷ q.count ∷ q.sector ∷ []) (r.first ∷ r.count ∷ r.sector ∷ []) (ranges_bytes qs ++ x)
    (ranges_bytes rs ++ y)
    (hq.0, (hq.1, (hq.2, tt))) (hr.0, (hr.1, (hr.2, tt))) refl (sym left ∙ e ∙ right) in
    let others = ranges_split qs rs x y (All-tail RangeFits q qs fq) (All-tail RangeFits r rs fr) (omega (arith, len)) s.1 in
    let first : q ≡ r = three_same q r s.0 in
    (ap (λ (z : HomeRange). z ∷ qs) first ∙ ap (λ (zs : List HomeRange). r ∷ zs) others.0, others.1)

pub record RangesRead (bytes : List ℕ) (into : List HomeRange) (i : ℕ) : Type 0 where
  pub bytes_are : take (24 * i) bytes ≡ ranges_bytes (take i into)
  pub each : All RangeFits (take i into)

pub none_read : (bytes : List ℕ) (into : List HomeRange) → RangesRead bytes into 0
none_read bytes into = record { bytes_are = sym no_range; each = All-nil RangeFits }

pub range_read : (bytes : List ℕ) (into : List HomeRange) (i a b c : ℕ) → i < length into → RangesRead bytes into i → a < 2 ^ 64 →
    b < 2 ^ 64 → c < 2 ^ 64 → drop (24 * i) bytes ≡ number a ++ drop (24 * i + 8) bytes →
    drop (24 * i + 8) bytes ≡ number b ++ drop (24 * i + 8 + 8) bytes → drop (24 * i + 16) bytes ≡ number c ++ drop (24 * i + 16 + 8) bytes
    → RangesRead bytes (set into i (record { first = a; count = b; sector = c })) (i + 1)
range_read bytes into i a b c lt before fa fb fc ea eb ec =
    let r : HomeRange = record { first = a; count = b; sector = c } in
    let more : take (i + 1) (set into i r) ≡ take i into ++ r ∷ [] = take_more_set into i r lt in
    let next : 24 * (i + 1) ≡ 24 * i + 24 = omega arith in
    let place : 24 * i + 8 + 8 ≡ 24 * i + 16 = omega arith in
    let all : drop (24 * i) bytes ≡ (number a ++ number b ++ number c) ++ drop (24 * i + 16 + 8) bytes = grind (arith, nat_tests, three) in
    let size : length (number a ++ number b ++ number c) ≡ 24 = grind (arith, nat_tests, length-append, length-number) in
    let piece : take 24 (drop (24 * i) bytes) ≡ number a ++ number b ++ number c = ap (take 24) all ∙
    take_at (number a ++ number b ++ number c) (drop (24 * i + 16 + 8) bytes) 24 size in
    record {
      bytes_are = grind (arith, nat_tests, take-add, push_range);
      each = All-same RangeFits (take (i + 1) (set into i r)) (take i into ++ r ∷ []) more
          (All-push RangeFits (take i into) r before.each (fa, fb, fc));
    }

right_deep : (a b c d : List ℕ) → ((a ++ b) ++ c) ++ d ≡ a ++ (b ++ c ++ d)
right_deep a b c d = simp append_assoc

pub range_written : (rs : List HomeRange) (i : ℕ) (r : HomeRange) (old one two new : List ℕ) → i < length rs →
    take (24 * i) old ≡ ranges_bytes (take i rs) → take (24 * i + 8) one ≡ take (24 * i) old ++ number r.first →
    take (24 * i + 8 + 8) two ≡ take (24 * i + 8) one ++ number r.count
    → take (24 * i + 16 + 8) new ≡ take (24 * i + 16) two ++ number r.sector → r ≡ get_or rs i r
    → take (24 * (i + 1)) new ≡ ranges_bytes (take (i + 1) rs)
range_written rs i r old one two new lt before ea eb ec is =
    let next : 24 * (i + 1) ≡ 24 * i + 16 + 8 = omega arith in
    let place : 24 * i + 16 ≡ 24 * i + 8 + 8 = omega arith in
    let all : take (24 * i + 16 + 8) new ≡ ((ranges_bytes (take i rs) ++ number r.first) ++ number r.count) ++ number r.sector =
    ec ∙ ap (λ (x : List ℕ). x ++ number r.sector)
    (ap (λ (n : ℕ). take n two) place ∙ eb ∙ ap (λ (x : List ℕ). x ++ number r.count)
    (ea ∙ ap (λ (x : List ℕ). x ++ number r.first) before)) in
    ap (λ (n : ℕ). take n new) next ∙ all ∙ right_deep (ranges_bytes (take i rs)) (number r.first) (number r.count) (number r.sector)
    ∙ sym (push_range (take i rs) r) ∙ ap ranges_bytes (ap (λ (x : HomeRange). take i rs ++ x ∷ []) is ∙ sym (take_more rs i r lt))

-- ---- magic and version

abbrev pub magic : ℕ
magic = 0x5450_4b43_534f_5245

magic_is : codes "EROSCKPT" ≡ number magic
unfolding number
magic_is = refl

-- a version and a count in one number
halves_number : (v n : ℕ) → v < 2 ^ 32 → n < 2 ^ 32 → half_number v ++ half_number n ≡ number (v + 4294967296 * n)
unfolding number half_number
halves_number v n fv fn = grind (arith, nat_tests, le_bytes_8, small_8)

pub length-half : (n : ℕ) → length (half_number n) ≡ 4
unfolding half_number
length-half n = refl

-- the first four bytes of a number are those of its lower half
front_half : (n : ℕ) (rest : List ℕ) → n < 2 ^ 64 → take 4 (number n ++ rest) ≡ half_number (n % 4294967296)
front_half n rest fits =
    let parts : n ≡ n % 4294967296 + 4294967296 * (n / 4294967296) = omega arith in
    let whole : number n ≡ half_number (n % 4294967296) ++ half_number (n / 4294967296) = ap number parts ∙
    sym (halves_number (n % 4294967296) (n / 4294967296) (omega arith) (omega arith)) in
    ap (λ (b : List ℕ). take 4 (b ++ rest)) whole ∙ ap (take 4) (append_assoc (half_number (n % 4294967296)) (half_number (n / 4294967296))
    rest)
    ∙ take_at (half_number (n % 4294967296)) (half_number (n / 4294967296) ++ rest) 4 (length-half (n % 4294967296))

half_reported : (m n : ℕ) → m < 2 ^ 32 → n < 2 ^ 32 → half_number m ≡ half_number n → m ≡ n
unfolding half_number
half_reported m n fm fn e = sym (from_le_bytes-to_le_bytes_4 m fm) ∙ ap (from_le_bytes w32) e ∙ from_le_bytes-to_le_bytes_4 n fn

pub few_versions : (v : Version) → version_number v ≤ 3
few_versions v = grind (arith, nat_tests)

one_version : (v w : Version) → version_number v ≡ version_number w → v ≡ w
one_version v w e = grind (arith, nat_tests)

-- if the lower half of the second number is a version's number, the bytes hold this version
pub version_reported : (bytes : List ℕ) (second : ℕ) (v : Version) → drop 8 bytes ≡ number second ++ drop 16 bytes → second < 2 ^ 64 →
    second % 4294967296 ≡ version_number v
    → take 4 (drop 8 bytes) ≡ half_number (version_number v)
version_reported bytes second v next fits is = ap (take 4) next ∙ front_half second (drop 16 bytes) fits ∙ ap half_number is

pub magic_is_read : (bytes : List ℕ) (m : ℕ) → bytes ≡ number m ++ drop 8 bytes → m ≡ magic → take 8 bytes ≡ codes "EROSCKPT"
magic_is_read bytes m first is = ap (take 8) first ∙ take_at (number m) (drop 8 bytes) 8 (length-number m) ∙ ap number is ∙ sym magic_is

pub magic_from : (bytes : List ℕ) (m : ℕ) → bytes ≡ number m ++ drop 8 bytes → m < 2 ^ 64 → HasMark bytes → m ≡ magic
magic_from bytes m first fits mark =
    let same : number m ≡ number magic = sym (take_at (number m) (drop 8 bytes) 8 (length-number m)) ∙ sym (ap (take 8) first) ∙ mark.magic
    ∙ magic_is in
    (number_splits m magic [] [] fits (omega arith) (ap (λ (b : List ℕ). b ++ []) same)).0

pub version_from : (bytes : List ℕ) (second : ℕ) (v : Version) → drop 8 bytes ≡ number second ++ drop 16 bytes → second < 2 ^ 64 →
    take 4 (drop 8 bytes) ≡ half_number (version_number v)
    → second % 4294967296 ≡ version_number v
version_from bytes second v next fits is = grind (arith, nat_tests, half_reported, few_versions, front_half)

-- ---- what a version found in a sector implies

module _ (bytes : List ℕ) (second : ℕ) (next : drop 8 bytes ≡ number second ++ drop 16 bytes) (fits : second < 2 ^ 64) where
  unmarked : ((v : Version) → second % 4294967296 ≡ version_number v → ⊥) → HasMark bytes → ⊥
  unmarked none mark = none mark.version.0 (version_from bytes second mark.version.0 next fits mark.version.1)

  pub none_unmarked : (found : Option Version) → ((v : Version) → second % 4294967296 ≡ version_number v → ⊥) →
      IfNone found (HasMark bytes → ⊥)
  none_unmarked None none = unmarked none
  none_unmarked (Some v) none = tt

  -- a sector with a mark and this version has the end of this version
  pub end_from : (v : Version) → second % 4294967296 ≡ version_number v → HasMark bytes → HasEnd (row v).sealed bytes
  end_from v is mark =
      let same : mark.version.0 ≡ v =
      one_version mark.version.0 v (sym (version_from bytes second mark.version.0 next fits mark.version.1) ∙ is) in
      subst (λ (w : Version). HasEnd (row w).sealed bytes) same mark.blank

-- a sector with the right magic begins with it
pub magic_read : (bytes : List ℕ) → take 8 bytes ≡ codes "EROSCKPT" → bytes ≡ number magic ++ drop 8 bytes
magic_read bytes is = sym (take-append-drop 8 bytes) ∙ ap (λ (m : List ℕ). m ++ drop 8 bytes) (is ∙ magic_is)

-- ---- whole superblocks

abbrev pub numbers_of : Plan → List ℕ
numbers_of p = p.geometry.nodes ∷ p.geometry.pages ∷ p.geometry.log ∷ p.half_0 ∷ p.half_1 ∷ p.total ∷ []

-- the version, and the number of ranges times 2^32
abbrev pub second_of : Plan → ℕ
second_of p = version_number p.version + 4294967296 * length p.ranges

abbrev pub eight_ranges : List HomeRange → List HomeRange
eight_ranges rs = rs ++ replicate (8 - length rs) unused

deep : (m v n a b c d e f r z : List ℕ) →
    m ++ v ++ n ++ a ++ b ++ c ++ d ++ e ++ f ++ r ++ z ≡ m ++ ((v ++ n) ++ (a ++ (b ++ (c ++ (d ++ (e ++ (f ++ (r ++ z))))))))
deep m v n a b c d e f r z = simp append_assoc

pub front_stream : (p : Plan) (z : List ℕ) → length p.ranges ≤ 8 → superblock_front p ++ z
    ≡ stream (magic ∷ second_of p ∷ numbers_of p) (ranges_bytes (eight_ranges p.ranges) ++ z)
unfolding superblock_front
front_stream p z few =
    let small : version_number p.version < 2 ^ 32 = omega (arith, few_versions p.version) in
    deep (codes "EROSCKPT") (half_number (version_number p.version)) (half_number (length p.ranges)) (number p.geometry.nodes)
    (number p.geometry.pages)
    (number p.geometry.log) (number p.half_0) (number p.half_1) (number p.total) (ranges_bytes (eight_ranges p.ranges)) z
    ∙ ap (λ (m : List ℕ). m ++
    ((half_number (version_number p.version) ++ half_number (length p.ranges)) ++ stream (numbers_of p)
    (ranges_bytes (eight_ranges p.ranges) ++ z))) magic_is
    ∙ ap (λ (v : List ℕ). number magic ++ (v ++ stream (numbers_of p) (ranges_bytes (eight_ranges p.ranges) ++ z)))
    (halves_number (version_number p.version) (length p.ranges) small (omega arith))

-- what follows the front in a sector, which may be sealed
abbrev pub end_with : Bool → List ℕ → List ℕ
end_with true front = zeros 232 ++ sums_bytes (sums_of (front ++ zeros 232))
end_with false front = zeros 256

abbrev pub end_of : Plan → List ℕ
end_of p = end_with (row p.version).sealed (superblock_front p)

with_end : (sealed : Bool) (front : List ℕ) → sector_with sealed front ≡ front ++ end_with sealed front
unfolding with_seal
with_end true front = append_assoc front (zeros 232) (sums_bytes (sums_of (front ++ zeros 232)))
with_end false front = refl

pub plan_stream : (p : Plan) → length p.ranges ≤ 8 → superblock_bytes p ≡ stream (magic ∷ second_of p ∷ numbers_of p)
    (ranges_bytes (eight_ranges p.ranges) ++ end_of p)
unfolding superblock_bytes
plan_stream p few = with_end (row p.version).sealed (superblock_front p) ∙ front_stream p (end_of p) few

-- the numbers of a valid superblock fit their bytes
pub record PlanFits (p : Plan) : Type 0 where
  pub numbers : AllFit (magic ∷ second_of p ∷ numbers_of p)
  pub ranges : All RangeFits (eight_ranges p.ranges)

pub eight_long : (rs : List HomeRange) → length rs ≤ 8 → length (eight_ranges rs) ≡ 8
eight_long rs few = length-append rs (replicate (8 - length rs) unused) ∙ omega (arith, length-replicate (8 - length rs) unused)

extent_of_range : (p : Plan) (k : ℕ) (d : HomeRange) → k < length p.ranges → IsPlan p → (get_or p.ranges k d).sector ≤ p.total
extent_of_range p k d lt is =
    let e = is.within k (range_extent p.version p.geometry d)
    (omega (
      arith,
      length-append (map (range_extent p.version p.geometry) p.ranges)
          (half_extent p.version p.geometry p.half_0 ∷ half_extent p.version p.geometry p.half_1 ∷ []),
      length-map p.ranges (range_extent p.version p.geometry),
    )) in
    let same : get_or (extents p) k (range_extent p.version p.geometry d) ≡ range_extent p.version p.geometry (get_or p.ranges k d) =
    get_or_append_left (map (range_extent p.version p.geometry) p.ranges) (half_extent p.version p.geometry p.half_0 ∷ half_extent p.version
    p.geometry p.half_1
    ∷ [])
    (range_extent p.version p.geometry d) k (omega (arith, length-map p.ranges (range_extent p.version p.geometry)))
    ∙ get_or-map (range_extent p.version p.geometry) p.ranges k d (range_extent p.version p.geometry d) lt in
    let bound = subst (IsWithin p.total) same e in
    omega (arith, bound.1)

half_within : (p : Plan) (k : ℕ) → k < 2 → IsPlan p →
    (get_or (half_extent p.version p.geometry p.half_0 ∷ half_extent p.version p.geometry p.half_1 ∷ []) k
    (half_extent p.version p.geometry 0)).sector ≤ p.total
half_within p k lt is =
    let front : List Extent = map (range_extent p.version p.geometry) p.ranges in
    let back : List Extent = half_extent p.version p.geometry p.half_0 ∷ half_extent p.version p.geometry p.half_1 ∷ [] in
    let e = is.within (length front + k) (half_extent p.version p.geometry 0) (omega (arith, length-append front back)) in
    let bound = subst (IsWithin p.total) (get_or-append-add front back k (half_extent p.version p.geometry 0)) e in
    omega (arith, bound.1)

pub plan_fits : (p : Plan) → IsPlan p → PlanFits p
plan_fits p is =
    let zero_half = half_within p 0 (omega arith) is in
    let one_half = half_within p 1 (omega arith) is in
    record {
      numbers = omega (arith, is.few, few_versions p.version, is.geometry, zero_half, one_half, is.total);
      ranges = All-append RangeFits p.ranges (replicate (8 - length p.ranges) unused)
          (λ k d lt. omega (arith, ranges_within p.geometry 0 p.ranges is.cover k d lt, extent_of_range p k d lt is, is.geometry, is.total))
          (All-replicate RangeFits (8 - length p.ranges) unused (omega arith));
    }

-- these values were read from the bytes of superblock p
pub record IsPlanRead (p : Plan) (v : Version) (second : ℕ) (g : Geometry) (all : List HomeRange) (half_0 half_1 total : ℕ) : Type 0 where
  pub used_is : second / 4294967296 ≡ length p.ranges
  pub few : length p.ranges ≤ 8
  pub all_are : all ≡ eight_ranges p.ranges
  pub plan_is : plan_of v g p.ranges half_0 half_1 total ≡ p

abbrev geometry_of : ℕ → ℕ → ℕ → Geometry
geometry_of n p r = record { nodes = n; pages = p; log = r }

same_plan : (v : Version) (rs : List HomeRange) (a b c d e f a' b' c' d' e' f' : ℕ) →
    a ∷ b ∷ c ∷ d ∷ e ∷ f ∷ [] ≡ a' ∷ b' ∷ c' ∷ d' ∷ e' ∷ f' ∷ [] → plan_of v (geometry_of a b c) rs d e f
    ≡ plan_of v (geometry_of a' b' c') rs d' e' f'
same_plan v rs a b c d e f a' b' c' d' e' f' same = grind (arith, nat_tests)

list_tail : (a b : ℕ) (xs ys : List ℕ) → a ∷ xs ≡ b ∷ ys → (a ≡ b) × (xs ≡ ys)
list_tail a b xs ys e = (cc, cc)

pub plan_reported : (p : Plan) (v : Version) (bytes : List ℕ) (m second : ℕ) (g : Geometry) (all : List HomeRange) (half_0 half_1 total : ℕ)
    → AllFit (m ∷ second ∷ numbers_of (plan_of v g all half_0 half_1 total)) → All RangeFits all → length all ≡ 8
    → bytes ≡ stream (m ∷ second ∷ numbers_of (plan_of v g all half_0 half_1 total)) (ranges_bytes all ++ drop 256 bytes)
    → second % 4294967296 ≡ version_number v → IsPlan p → bytes ≡ superblock_bytes p → IsPlanRead p v second g all half_0 half_1 total
plan_reported p v bytes m second g all half_0 half_1 total fits ranges_fit eight read version is e =
    let pf = plan_fits p is in
    let s = stream_splits (m ∷ second ∷ numbers_of (plan_of v g all half_0 half_1 total)) (magic ∷ second_of p ∷ numbers_of p)
    (ranges_bytes all ++ drop 256 bytes) (ranges_bytes (eight_ranges p.ranges) ++ end_of p) fits pf.numbers refl
    (sym read ∙ e ∙ plan_stream p is.few) in
    let rest = ranges_split all (eight_ranges p.ranges) (drop 256 bytes) (end_of p) ranges_fit pf.ranges
    (eight ∙ sym (eight_long p.ranges is.few)) s.1 in
    let one = list_tail m magic (second ∷ numbers_of (plan_of v g all half_0 half_1 total)) (second_of p ∷ numbers_of p) s.0 in
    let two = list_tail second (second_of p) (numbers_of (plan_of v g all half_0 half_1 total)) (numbers_of p) one.1 in
    let small = few_versions p.version in
    let same : v ≡ p.version = one_version v p.version (omega (arith, version, two.0, small)) in
    record {
      used_is = omega (arith, two.0, small);
      few = is.few;
      all_are = rest.0;
      plan_is = grind (arith, nat_tests, same_plan);
    }

-- if eight ranges were read, the used ones are the superblock's
pub used_are : (p : Plan) (v : Version) (second : ℕ) (g : Geometry) (all : List HomeRange) (half_0 half_1 total : ℕ) →
    IsPlanRead p v second g all half_0 half_1 total → take (second / 4294967296) all ≡ p.ranges
used_are p v second g all half_0 half_1 total read = grind (arith, nat_tests, take_at)

pub others_are : (p : Plan) (v : Version) (second : ℕ) (g : Geometry) (all : List HomeRange) (half_0 half_1 total : ℕ) →
    IsPlanRead p v second g all half_0 half_1 total
    → All (λ r. r ≡ unused) (drop (second / 4294967296) all)
others_are p v second g all half_0 half_1 total read =
    All-same (λ (r : HomeRange). r ≡ unused) (drop (second / 4294967296) all) (replicate (8 - length p.ranges) unused)
    (ap (λ (n : ℕ). drop n all) read.used_is ∙ ap (drop (length p.ranges)) read.all_are ∙
    drop_at p.ranges (replicate (8 - length p.ranges) unused) (length p.ranges) refl)
    (All-replicate (λ (r : HomeRange). r ≡ unused) (8 - length p.ranges) unused refl)

pub all_from : (all : List HomeRange) (used : ℕ) → length all ≡ 8 → used ≤ 8 → All (λ r. r ≡ unused) (drop used all) →
    all ≡ eight_ranges (take used all)
all_from all used eight few blank =
    let size : length (take used all) ≡ used = length-take-le used all (omega arith) in
    let behind : drop used all ≡ replicate (8 - used) unused = grind (
      arith,
      nat_tests,
      same_lists,
      length-drop,
      length-replicate,
      get_or-replicate,
    ) in
    sym (take-append-drop used all) ∙ ap (λ (r : List HomeRange). take used all ++ r)
    (behind ∙ ap (λ (n : ℕ). replicate (8 - n) unused) (sym size))

pub front_long : (p : Plan) → length p.ranges ≤ 8 → length (superblock_front p) ≡ 256
unfolding superblock_front
front_long p few = grind (arith, nat_tests, length-append, length-half, length-number, length-ranges, eight_long p.ranges few)

-- the body of a sector with this front and zeros
blank_body : (front : List ℕ) → length front ≡ 256 → body_of (front ++ zeros 256) ≡ front ++ zeros 232
blank_body front long =
    let apart : front ++ zeros 256 ≡ (front ++ zeros 232) ++ zeros 24 =
    ap (λ (z : List ℕ). front ++ z) (sym (zeros_add 232 24)) ∙ sym (append_assoc front (zeros 232) (zeros 24)) in
    let size : length (front ++ zeros 256) - 24 ≡ 488 = omega (arith, length-append front (zeros 256), length-zeros 256, long) in
    let body : length (front ++ zeros 232) ≡ 488 = omega (arith, length-append front (zeros 232), length-zeros 232, long) in
    ap (λ (n : ℕ). take n (front ++ zeros 256)) size ∙ ap (take 488) apart ∙ take_at (front ++ zeros 232) (zeros 24) 488 body

-- a front, then zeros, sealed if the version is
pub plan_sealed : (p : Plan) (blank new : List ℕ) → length p.ranges ≤ 8 → (row p.version).sealed ≡ true →
    blank ≡ superblock_front p ++ zeros 256 → IsSealed new → body_of new ≡ body_of blank → new ≡ superblock_bytes p
unfolding superblock_bytes
plan_sealed p blank new few is was sealed body =
    sealed_is new (superblock_front p ++ zeros 232) sealed (body ∙ ap body_of was ∙ blank_body (superblock_front p) (front_long p few))
    ∙ ap (λ (s : Bool). sector_with s (superblock_front p)) (sym is)

pub plan_unsealed : (p : Plan) (new : List ℕ) → (row p.version).sealed ≡ false → new ≡ superblock_front p ++ zeros 256 →
    new ≡ superblock_bytes p
unfolding superblock_bytes
plan_unsealed p new is was = was ∙ ap (λ (s : Bool). sector_with s (superblock_front p)) (sym is)

-- bytes that begin with a front and have the right end are the sector with this front
end_found : (sealed : Bool) (bytes front : List ℕ) → length bytes ≡ 512 → bytes ≡ front ++ drop 256 bytes → HasEnd sealed bytes →
    bytes ≡ sector_with sealed front
end_found true bytes front size is ends =
    let long : length front ≡ 256 = omega (arith, ap length is, length-append front (drop 256 bytes), length-drop 256 bytes, size) in
    let begins : take 256 bytes ≡ front = ap (take 256) is ∙ take_at front (drop 256 bytes) 256 long in
    let body : body_of bytes ≡ front ++ zeros 232 =
    ap (λ (n : ℕ). take (n - 24) bytes) size ∙ take-add 256 232 bytes
    ∙ ap (λ (b : List ℕ). b ++ take 232 (drop 256 bytes)) begins ∙ ap (λ (z : List ℕ). front ++ z) ends.0 in
    sealed_is bytes (front ++ zeros 232) ends.1 body
end_found false bytes front size is ends = is ∙ ap (λ (z : List ℕ). front ++ z) ends

-- a sector with a front has the right end
has_end : (sealed : Bool) (front : List ℕ) → length front ≡ 256 → HasEnd sealed (sector_with sealed front)
has_end true front long = (
  ap (λ (b : List ℕ). take 232 (drop 256 b)) (with_end true front)
      ∙ ap (take 232) (drop_at front (end_with true front) 256 long)
      ∙ take_at (zeros 232) (sums_bytes (sums_of (front ++ zeros 232))) 232 (length-zeros 232),
  sealed_seal (sector_with true front) (front ++ zeros 232) refl,
)
has_end false front long = drop_at front (zeros 256) 256 long

pub superblock_sealed : (bytes : List ℕ) (p : Plan) → (row p.version).sealed ≡ true → bytes ≡ superblock_bytes p → IsSealed bytes
unfolding superblock_bytes
superblock_sealed bytes p is e =
    sealed_seal bytes (superblock_front p ++ zeros 232) (e ∙ ap (λ (s : Bool). sector_with s (superblock_front p)) is)

-- the bytes of a superblock have its magic, its version, and the end of its version
pub marked : (p : Plan) → length p.ranges ≤ 8 → HasMark (superblock_bytes p)
unfolding superblock_bytes number
marked p few =
    let e : superblock_bytes p ≡ number magic ++ stream (second_of p ∷ numbers_of p) (ranges_bytes (eight_ranges p.ranges) ++ end_of p) =
    plan_stream p few in
    let next : drop 8 (superblock_bytes p) ≡ number (second_of p) ++ stream (numbers_of p) (ranges_bytes
    (eight_ranges p.ranges) ++ end_of p)
    = ap (drop 8) e ∙ drop_at (number magic) (stream (second_of p ∷ numbers_of p) (ranges_bytes (eight_ranges p.ranges) ++ end_of p)) 8 refl
    in
    let small : version_number p.version < 2 ^ 32 = omega (arith, few_versions p.version) in
    record {
      magic = ap (take 8) e ∙ take_at (number magic) (stream (second_of p ∷ numbers_of p) (ranges_bytes
          (eight_ranges p.ranges) ++ end_of p))
          8 refl ∙ sym magic_is;
      version = (
        p.version,
        ap (take 4) next
            ∙ front_half (second_of p) (stream (numbers_of p) (ranges_bytes (eight_ranges p.ranges) ++ end_of p))
            (omega (arith, few, few_versions p.version))
            ∙ ap half_number (omega (arith, few, few_versions p.version)),
      );
      blank = has_end (row p.version).sealed (superblock_front p) (front_long p few);
    }

pub plan_found : (v : Version) (bytes : List ℕ) (second : ℕ) (g : Geometry) (all : List HomeRange) (half_0 half_1 total used : ℕ)
    → bytes ≡ stream (magic ∷ second ∷ numbers_of (plan_of v g all half_0 half_1 total)) (ranges_bytes all ++ drop 256 bytes)
    → second % 4294967296 ≡ version_number v → used ≡ second / 4294967296 → used ≤ 8 → length all ≡ 8 →
    All (λ r. r ≡ unused) (drop used all) → length bytes ≡ 512 → HasEnd (row v).sealed bytes
    → bytes ≡ superblock_bytes (plan_of v g (take used all) half_0 half_1 total)
unfolding superblock_bytes
plan_found v bytes second g all half_0 half_1 total used read version u few eight others size ends =
    let p : Plan = plan_of v g (take used all) half_0 half_1 total in
    let begins : bytes ≡ superblock_front p ++ drop 256 bytes = grind (arith, nat_tests, length-take-le, all_from, front_stream) in
    end_found (row v).sealed bytes (superblock_front p) size begins ends

-- if eight numbers were read, then the ranges, the bytes are theirs
pub eight_read : (bytes : List ℕ) (m s a b c d e f : ℕ) (all : List HomeRange) → bytes ≡ number m ++ drop 8 bytes →
    drop 8 bytes ≡ number s ++ drop 16 bytes → drop 16 bytes ≡ number a ++ drop 24 bytes
    → drop 24 bytes ≡ number b ++ drop 32 bytes → drop 32 bytes ≡ number c ++ drop 40 bytes → drop 40 bytes ≡ number d ++ drop 48 bytes →
    drop 48 bytes ≡ number e ++ drop 56 bytes
    → drop 56 bytes ≡ number f ++ drop 64 bytes → between 64 256 bytes ≡ ranges_bytes all →
    bytes ≡ stream (m ∷ s ∷ a ∷ b ∷ c ∷ d ∷ e ∷ f ∷ []) (ranges_bytes all ++ drop 256 bytes)
eight_read bytes m s a b c d e f all em es ea eb ec ed ee ef er =
    grind (arith, nat_tests, take-append-drop 192 (drop 64 bytes), drop-drop 192 64 bytes)

-- given bytes encode at most one superblock
pub one_plan : (p q : Plan) → IsPlan p → IsPlan q → superblock_bytes p ≡ superblock_bytes q → p ≡ q
one_plan p q ip iq e =
    let pf = plan_fits p ip in
    let qf = plan_fits q iq in
    let s = stream_splits (magic ∷ second_of p ∷ numbers_of p) (magic ∷ second_of q ∷ numbers_of q)
    (ranges_bytes (eight_ranges p.ranges) ++ end_of p) (ranges_bytes (eight_ranges q.ranges) ++ end_of q) pf.numbers qf.numbers refl
    (sym (plan_stream p ip.few) ∙ e ∙ plan_stream q iq.few) in
    let rest = ranges_split (eight_ranges p.ranges) (eight_ranges q.ranges) (end_of p) (end_of q) pf.ranges qf.ranges
    (eight_long p.ranges ip.few ∙ sym (eight_long q.ranges iq.few)) s.1 in
    let one = list_tail magic magic (second_of p ∷ numbers_of p) (second_of q ∷ numbers_of q) s.0 in
    let two = list_tail (second_of p) (second_of q) (numbers_of p) (numbers_of q) one.1 in
    let small_p = few_versions p.version in
    let small_q = few_versions q.version in
    let version : p.version ≡ q.version = one_version p.version q.version (omega (arith, two.0, small_p, small_q)) in
    let count : length p.ranges ≡ length q.ranges = omega (arith, two.0, small_p, small_q) in
    let ranges : p.ranges ≡ q.ranges = sym (take_at p.ranges (replicate (8 - length p.ranges) unused) (length p.ranges) refl) ∙
    ap (take (length p.ranges)) rest.0
    ∙ ap (λ (n : ℕ). take n (eight_ranges q.ranges)) count ∙ take_at q.ranges (replicate (8 - length q.ranges) unused) (length q.ranges)
    refl in
    ap (λ (rs : List HomeRange). plan_of p.version p.geometry rs p.half_0 p.half_1 p.total) ranges
    ∙ same_plan p.version q.ranges p.geometry.nodes p.geometry.pages p.geometry.log p.half_0 p.half_1 p.total q.geometry.nodes
    q.geometry.pages q.geometry.log
    q.half_0 q.half_1 q.total two.1
    ∙ ap (λ (v : Version). plan_of v q.geometry q.ranges q.half_0 q.half_1 q.total) version

-- ---- what a decoder returns

pub last_ranges : (all : List HomeRange) (used : ℕ) → length all ≡ 8 → take (8 - used) (drop used all) ≡ drop used all
last_ranges all used eight = take_all (8 - used) (drop used all) (omega (arith, length-drop used all))

pub plan_same : (p : Plan) (v : Version) (second : ℕ) (g : Geometry) (all : List HomeRange) (half_0 half_1 total : ℕ) →
    IsPlanRead p v second g all half_0 half_1 total
    → plan_of v g (take (second / 4294967296) all) half_0 half_1 total ≡ p
plan_same p v second g all half_0 half_1 total read = cc (used_are p v second g all half_0 half_1 total read)

pub plan_read : (bytes : List ℕ) (q : Plan) (made : Option Plan) → bytes ≡ superblock_bytes q → IfSome made (λ s. s ≡ q) →
    IfSome made (λ s. bytes ≡ superblock_bytes s)
plan_read bytes q made read reported = grind (arith, nat_tests)

pub none_read_of : (bytes : List ℕ) (q : Plan) (made : Option Plan) → ((p : Plan) → IsPlan p → bytes ≡ superblock_bytes p → q ≡ p) →
    IfNone made (IsPlan q → ⊥) → IfNone made ((p : Plan) → IsPlan p → bytes ≡ superblock_bytes p → ⊥)
none_read_of bytes q made same reported = grind (arith, nat_tests)

-- ---- writing

rest_size : (n k : ℕ) → n ≤ 8 → k ≡ 24 * n → 448 - k ≡ 24 * (8 - n) + 256
rest_size n k few e = omega arith

shift : (f a b z : List ℕ) → f ++ a ++ (b ++ z) ≡ f ++ ((a ++ b) ++ z)
shift f a b z = simp append_assoc

front_deep : (m v a b c d e f z : List ℕ) → (m ++ v ++ a ++ b ++ c ++ d ++ e ++ f) ++ z
    ≡ m ++ (v ++ (a ++ (b ++ (c ++ (d ++ (e ++ (f ++ z)))))))
front_deep m v a b c d e f z = simp append_assoc

three_zeros : number 0 ++ number 0 ++ number 0 ≡ zeros 24
unfolding number zeros
three_zeros = refl

unused_bytes : (k : ℕ) → ranges_bytes (replicate k unused) ≡ zeros (24 * k)
unused_bytes zero = no_range ∙ sym zeros_none
unused_bytes (suc k) = grind (arith, nat_tests, cons_range, three, three_zeros, zeros_add, unused_bytes k)

pub plan_written : (p : Plan) (blanked eight new : List ℕ) (k : ℕ) → length p.ranges ≤ 8 → blanked ≡ zeros 512
    → IsWritten blanked (number magic ++ number (second_of p) ++ number p.geometry.nodes ++ number p.geometry.pages ++ number p.geometry.log
    ++ number p.half_0
    ++ number p.half_1 ++ number p.total) eight 64
    → k ≡ 24 * length p.ranges → new ≡ put_mid 64 k eight (ranges_bytes p.ranges) → new ≡ superblock_front p ++ zeros 256
plan_written p blanked eight new k few blank was size is =
    let n : ℕ = length p.ranges in
    let front : List ℕ = number magic ++ number (second_of p) ++ number p.geometry.nodes ++ number p.geometry.pages ++ number p.geometry.log
    ++ number p.half_0
    ++ number p.half_1 ++ number p.total in
    let rest : drop (64 + k) eight ≡ ranges_bytes (replicate (8 - n) unused) ++ zeros 256 =
    cc (
      drop-drop k 64 eight,
      drop_zeros 64 512,
      drop_zeros k 448,
      rest_size n k few size,
      zeros_add (24 * (8 - n)) 256,
      unused_bytes (8 - n),
    ) in
    is ∙ mid_put 64 k eight (ranges_bytes p.ranges)
    ∙ ap (λ (f : List ℕ). f ++ ranges_bytes p.ranges ++ drop (64 + k) eight) was.before
    ∙ ap (λ (r : List ℕ). front ++ ranges_bytes p.ranges ++ r) rest
    ∙ (shift front (ranges_bytes p.ranges) (ranges_bytes (replicate (8 - n) unused)) (zeros 256))
    ∙ ap (λ (r : List ℕ). front ++ (r ++ zeros 256)) (sym (append_ranges p.ranges (replicate (8 - n) unused)))
    ∙ front_deep (number magic) (number (second_of p)) (number p.geometry.nodes) (number p.geometry.pages) (number p.geometry.log)
    (number p.half_0)
    (number p.half_1) (number p.total) (ranges_bytes (eight_ranges p.ranges) ++ zeros 256)
    ∙ sym (front_stream p (zeros 256) few)

pub front_same : (v n p r a b t v' n' p' r' a' b' t' : ℕ) → v ≡ v' → n ≡ n' → p ≡ p' → r ≡ r' → a ≡ a' → b ≡ b' → t ≡ t'
    → number magic ++ number v ++ number n ++ number p ++ number r ++ number a ++ number b ++ number t
    ≡ number magic ++ number v' ++ number n' ++ number p' ++
    number r' ++ number a' ++ number b' ++ number t'
front_same v n p r a b t v' n' p' r' a' b' t' ev en ep er ea eb et = rw (ev, en, ep, er, ea, eb, et) refl
