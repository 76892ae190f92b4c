-- The first numbers of homes and units.
use Rattle.image_writer.proofs.Names.{ℕ, Bool, Option, Some, true, ap, sym, refl, inl, inr, arith, nat_tests, cases_lt, home_place, shape_of, shape_end, IsPlan}
use Rattle.image_writer.proofs.Names.{Plan, IsObject, IsFirstOf, min, nat_lt, eq-eqb, le-ltb, lt-ltb, Has, block_shared, first_is, found, frames_rise}
use Rattle.image_writer.proofs.Names.{one_range, shape_is, offset_begins, range_at, frames_in_block, place_in, range_with, rank_in, node_shape, page_shape}
use Rattle.image_writer.proofs.Names.{Shape, row, HomeRange, Version, One, Two, Three, begins_unit, cluster_count, Geometry}
use Rattle.std.proofs.Common.{◌≡◌, ◌+◌, ◌-◌, ◌*◌, ◌%◌, ◌<◌, ◌≤◌, ◌∙◌}
use Rattle.std.specs.Prelude.{◌==◌, if◌then◌else◌}

-- ---- the first number of a home

-- at most one number is the first with a home
pub one_first : (p : Plan) (n a b : ℕ) → IsObject p.geometry a → IsObject p.geometry b → IsFirstOf p n a → IsFirstOf p n b → a ≡ b
one_first p n a b is_a is_b x y =
    let le = x.least b is_b y.home in
    let ge = y.least a is_a x.home in
    omega (arith, le, ge)

-- numbers that share a home have the same first one
pub first_shared : (p : Plan) {m n first : ℕ} → IsObject p.geometry m → home_place p m ≡ home_place p n → IsFirstOf p n first →
    IsFirstOf p m first
first_shared p {m} {n} {first} is same start = record {
  below = start.least m is same;
  home = start.home ∙ sym same;
  least = λ a is_a one. start.least a is_a (one ∙ same);
}

-- the first number with a home is the first with its own
pub first_itself : (p : Plan) {n first : ℕ} → IsFirstOf p n first → IsFirstOf p first first
first_itself p {n} {first} start = record {
  below = omega arith;
  home = refl;
  least = λ a is_a one. start.least a is_a (one ∙ start.home);
}

-- each object's home has a first number
pub has_first : (p : Plan) (n : ℕ) → IsPlan p → IsObject p.geometry n → (first : ℕ) × IsObject p.geometry first × IsFirstOf p n first
has_first p n fits is =
    let at = found n fits is in
    let r : HomeRange = range_at p.ranges at.0 in
    let first : ℕ = n - (n - r.first) % frames_in_block p.version p.geometry n in
    (first, omega (arith, is), first_is fits is (sym at.1.found) {first = first} refl)

-- ---- units begin with first numbers

some_bytes : (p : Plan) (n : ℕ) → 1 ≤ shape_end (shape_of p n)
some_bytes p n = grind (arith, nat_tests)

no_offset : (p : Plan) (n : ℕ) → begins_unit p n ≡ true → (shape_of p n).offset ≡ 0
no_offset p n begins =
    let is : ((shape_of p n).offset == 0) ≡ true = offset_begins p n (shape_of p n) refl ∙ begins in
    grind (arith, nat_tests)

pub begins_first : (p : Plan) (n : ℕ) → IsPlan p → IsObject p.geometry n → begins_unit p n ≡ true → IsFirstOf p n n
begins_first p n fits is begins = record {
  below = omega arith;
  home = refl;
  least = λ a is_a same. elim (cases_lt a n) [
    | inl lt ↦
        let rise = frames_rise fits is_a is same lt in
        let some = some_bytes p a in
        let none = no_offset p n begins in
        absurd (omega (arith, rise, some, none))
    | inr le ↦ le
  ];
}

most_rank : (v : Version) (i : ℕ) → i % (row v).cluster_nodes ≤ i
most_rank One i = omega arith
most_rank Two i = omega arith
most_rank Three i = omega arith

no_rank : (n first rank : ℕ) → rank ≤ n - first → n ≡ n - rank → rank ≡ 0
no_rank n first rank most same = omega (arith, most, same)

-- the first number with a home, if it is a node's, has rank 0
rank_first : (p : Plan) (n i : ℕ) → IsPlan p → IsObject p.geometry n → n < p.geometry.nodes →
    range_with p.ranges n ≡ Some (range_at p.ranges i) → IsFirstOf p n n →
    (n - (range_at p.ranges i).first) % (row p.version).cluster_nodes ≡ 0
rank_first p n i fits is less at start =
    let r : HomeRange = range_at p.ranges i in
    let size : frames_in_block p.version p.geometry n ≡ (row p.version).cluster_nodes =
    ap (λ (b : Bool). if b then (row p.version).cluster_nodes else 1) (lt-ltb n p.geometry.nodes less) in
    let first : ℕ = n - (n - r.first) % frames_in_block p.version p.geometry n in
    let same : n ≡ first = one_first p n n first is (omega (arith, is)) start (first_is fits is (sym at) {first = first} refl) in
    no_rank n r.first ((n - r.first) % (row p.version).cluster_nodes) (most_rank p.version (n - r.first))
    (same ∙ ap (λ (k : ℕ). n - (n - r.first) % k) size)

pub first_begins : (p : Plan) (n : ℕ) → IsPlan p → IsObject p.geometry n → IsFirstOf p n n → begins_unit p n ≡ true
first_begins p n fits is start = elim (cases_lt n p.geometry.nodes) [
  | inl less ↦
      let at = found n fits is in
      let rank = rank_first p n at.0 fits is less at.1.found start in
      ap (λ (b : Bool). if b then rank_in p.version (range_with p.ranges n) n == 0 else true) (lt-ltb n p.geometry.nodes less)
      ∙ ap (λ (o : Option HomeRange). rank_in p.version o n == 0) at.1.found
      ∙ eq-eqb ((n - (range_at p.ranges at.0).first) % (row p.version).cluster_nodes) 0 rank
  | inr le ↦
      ap (λ (b : Bool). if b then rank_in p.version (range_with p.ranges n) n == 0 else true) (le-ltb n p.geometry.nodes le)
]

-- ---- the frames of a cluster

-- the shape of a number's frame, from its range
abbrev shape_in : Version → Geometry → HomeRange → ℕ → Shape
shape_in v g r number = if nat_lt number g.nodes then node_shape v ((number - r.first) % (row v).cluster_nodes) else page_shape v

count_in : (v : Version) {g : Geometry} {r : HomeRange} {a b : ℕ} → Has g r a → Has g r b → place_in v g r a ≡ place_in v g r b →
    (row v).sealed ≡ true → b < g.nodes → (b - r.first) % (row v).cluster_nodes ≡ 0 →
    shape_end (shape_in v g r a) ≤ 800 * min (row v).cluster_nodes (r.first + r.count - b)
count_in v {g} {r} {a} {b} has_a has_b same sealed less rank = grind (arith, nat_tests)

-- the frames of a cluster lie before the end that its number of nodes gives
pub frames_inside : (p : Plan) (a first : ℕ) → IsPlan p → IsObject p.geometry a → IsObject p.geometry first →
    (row p.version).sealed ≡ true → first < p.geometry.nodes → IsFirstOf p a first →
    shape_end (shape_of p a) ≤ 800 * cluster_count p.version (range_with p.ranges first) first
frames_inside p a first fits is_a is sealed less start =
    let both = one_range fits is_a is (sym start.home) in
    let r : HomeRange = range_at p.ranges both.0 in
    let rank = rank_first p first both.0 fits is less both.1.other.found (first_itself p start) in
    let end : shape_end (shape_of p a) ≡ shape_end (shape_in p.version p.geometry r a) = ap shape_end (shape_is p both.1.one) in
    let count : cluster_count p.version (range_with p.ranges first) first ≡ min (row p.version).cluster_nodes (r.first + r.count - first) =
    ap (λ (o : Option HomeRange). cluster_count p.version o first) both.1.other.found in
    let most = count_in p.version both.1.one.has both.1.other.has both.1.place sealed less rank in
    omega (arith, end, count, most)

nth_in : (v : Version) {g : Geometry} {r : HomeRange} {b : ℕ} (k : ℕ) → Has g r b → Has g r (b + k) →
    (b - r.first) % (row v).cluster_nodes ≡ 0 → b < g.nodes → k < (row v).cluster_nodes → shape_in v g r (b + k) ≡ node_shape v k
nth_in v {g} {r} {b} k has has_k rank less few = grind (arith, nat_tests)

-- number `first` + k is the k-th node of a cluster
pub record IsMember (p : Plan) (first k : ℕ) : Type 0 where
  pub object : IsObject p.geometry (first + k)
  pub home : home_place p (first + k) ≡ home_place p first
  pub shape : shape_of p (first + k) ≡ node_shape p.version k

pub member : (p : Plan) (first k : ℕ) → IsPlan p → IsObject p.geometry first → first < p.geometry.nodes → IsFirstOf p first first →
    k < cluster_count p.version (range_with p.ranges first) first → IsMember p first k
member p first k fits is less start lt =
    let at = found first fits is in
    let r : HomeRange = range_at p.ranges at.0 in
    let nodes : ℕ = (row p.version).cluster_nodes in
    let rank = rank_first p first at.0 fits is less at.1.found start in
    let count : cluster_count p.version (range_with p.ranges first) first ≡ min nodes (r.first + r.count - first) =
    ap (λ (o : Option HomeRange). cluster_count p.version o first) at.1.found in
    let size : frames_in_block p.version p.geometry first ≡ nodes =
    ap (λ (b : Bool). if b then nodes else 1) (lt-ltb first p.geometry.nodes less) in
    let n : ℕ = min (r.count - (first - r.first)) (nodes - (first - r.first) % nodes) in
    let whole : n ≡ min (r.count - (first - r.first)) (frames_in_block p.version p.geometry first - (first - r.first)
    % frames_in_block p.version p.geometry first) =
    ap (λ (m : ℕ). min (r.count - (first - r.first)) (m - (first - r.first) % m)) (sym size) in
    let have = block_shared fits is (sym at.1.found) {n = n} whole in
    let below : k < n = omega (arith, lt, count, rank, at.1.has.low) in
    let both = one_range fits (have.object k below) is (have.same k below) in
    let rank' = rank_first p first both.0 fits is less both.1.other.found start in
    let few : k < nodes = omega (arith, lt, count) in
    record {
      object = have.object k below;
      home = have.same k below;
      shape = shape_is p both.1.one ∙ nth_in p.version {r = range_at p.ranges both.0} k both.1.other.has both.1.one.has rank' less few;
    }
