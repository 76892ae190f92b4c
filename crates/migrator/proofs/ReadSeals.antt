-- How many sectors the seal of a unit needs, and whose seal it is.
use Rattle.migrator.proofs.Names.{ℕ, Bool, List, Image, Entry, Sums, sectors_from, ap, Plan, Shape, Version, true, false, nat_lt, refl, sym, subst, arith}
use Rattle.migrator.proofs.Names.{nat_tests, false≢true, row, place_length, range_with, rank_in, shape_of, node_shape, page_shape, frame_sector, seal_in}
use Rattle.migrator.proofs.Names.{unit_in, one_from, IsRootWith, unit_at, unit_length}
use Rattle.std.proofs.Common.{◌≡◌, ◌≤◌, ◌∙◌}
use Rattle.std.specs.Prelude.{if◌then◌else◌}

abbrev shape_by : Version → Bool → ℕ → Shape
shape_by v node rank = if node then node_shape v rank else page_shape v

abbrev length_by : Version → Bool → ℕ → ℕ
length_by v node rank = if node then (shape_by v node rank).sectors else 1

-- the header sector of a page
header_by : (v : Version) (node : Bool) (rank : ℕ) → (shape_by v node rank).has_sums ≡ true →
    (1 ≡ length_by v node rank) × (1 ≤ (shape_by v node rank).sectors)
header_by v true rank has = absurd (false≢true has)
header_by v false rank has = (refl, omega arith)

-- a whole cluster
cluster_by : (v : Version) (node : Bool) (rank : ℕ) → (row v).sealed ≡ true → (shape_by v node rank).has_sums ≡ false →
    ((shape_by v node rank).sectors ≡ length_by v node rank) × ((shape_by v node rank).sectors ≡ 8)
cluster_by v true rank sealed none = (refl, grind (arith, nat_tests))
cluster_by v false rank sealed none = absurd (false≢true (sym none ∙ sealed))

pub header_alone : (p : Plan) (n : ℕ) (s : Shape) → s ≡ shape_of p n → s.has_sums ≡ true →
    (1 ≡ unit_length p n) × (1 ≤ place_length p n)
header_alone p n s is has =
    header_by p.version (nat_lt n p.geometry.nodes) (rank_in p.version (range_with p.ranges n) n)
    (subst (λ (t : Shape). t.has_sums ≡ true) is has)

pub whole_cluster : (p : Plan) (n : ℕ) (s : Shape) → (row p.version).sealed ≡ true → s ≡ shape_of p n → s.has_sums ≡ false →
    (s.sectors ≡ unit_length p n) × (s.sectors ≡ 8)
whole_cluster p n s sealed is none =
    subst (λ (t : Shape). (t.sectors ≡ unit_length p n) × (t.sectors ≡ 8)) (sym is)
    (cluster_by p.version (nat_lt n p.geometry.nodes) (rank_in p.version (range_with p.ranges n) n) sealed
    (subst (λ (t : Shape). t.has_sums ≡ false) is none))

-- ---- seals

seal_by : (image : Image) (at length : ℕ) (node : Bool) → seal_in (sectors_from image at (if node then length else 1))
    ≡ seal_in (if node then sectors_from image at length else image at)
seal_by image at length true = refl
seal_by image at length false = ap seal_in (one_from image at)

-- the seal of the unit in the block that it is read from is that of the unit
pub unit_seal_is : (image : Image) (p : Plan) (generation : ℕ) (es : List Entry) (n : ℕ) →
    seal_in (unit_at image p n (frame_sector p generation es n)) ≡ (unit_in image p generation es n).seal
unit_seal_is image p generation es n =
    seal_by image (frame_sector p generation es n) (place_length p n) (nat_lt n p.geometry.nodes)

pub same_step : (number : ℕ) (s t u v root new : Sums) → s ≡ u → t ≡ v → IsRootWith number s t root new → IsRootWith number u v root new
same_step number s t u v root new e f step =
    subst (λ (x : Sums). IsRootWith number x v root new) e (subst (λ (y : Sums). IsRootWith number s y root new) f step)
