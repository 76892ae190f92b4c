-- The first number of a cluster, and a cluster with a seal.
use Rattle.migrator.proofs.Names.{ℕ, Bool, Option, Some, List, take, drop, true, refl, sym, ap, subst, arith, nat_tests, nat_lt, zeros, Plan, IsPlan, IsObject}
use Rattle.migrator.proofs.Names.{IsFirstOf, Shape, Version, row, Geometry, home_place, shape_of, shape_bytes, shape_end, blanked, between_is, IsTrue, min}
use Rattle.migrator.proofs.Names.{lt-ltb, take-take, Has, first_is, found, one_range, frames_in_block, place_in, range_with, rank_in, node_shape, HomeRange}
use Rattle.migrator.proofs.Names.{IsCluster, begins_unit, cluster_count, IsClusterOf}
use Rattle.std.proofs.Common.{◌≡◌, ◌+◌, ◌-◌, ◌*◌, ◌%◌, ◌<◌, ◌≤◌, ◌++◌, ◌∙◌}
use Rattle.std.specs.Prelude.{if◌then◌else◌, ◌==◌}

-- ---- a number begins a unit exactly if it is the first of its block

rank_low : (v : Version) (g : Geometry) (n x : ℕ) → x % frames_in_block v g n ≤ x
rank_low v g n x = grind (arith, nat_tests)

begins_by : (v : Version) (node : Bool) (x : ℕ) → (if node then x % (row v).cluster_nodes == 0 else true) ≡ true →
    x % (if node then (row v).cluster_nodes else 1) ≡ 0
begins_by v node x begins = grind (arith, nat_tests)

by_begins : (v : Version) (node : Bool) (x : ℕ) → x % (if node then (row v).cluster_nodes else 1) ≡ 0 →
    (if node then x % (row v).cluster_nodes == 0 else true) ≡ true
by_begins v node x none = grind (arith, nat_tests)

less_none : (n m : ℕ) → 0 ≡ m → n ≡ n - m
less_none n m none = omega (arith, none)

no_rank : (n m : ℕ) → m ≤ n → n ≤ n - m → m ≡ 0
no_rank n m low le = omega (arith, low, le)

module _ {p : Plan} {n : ℕ} {r : HomeRange} (fits : IsPlan p) (is : IsObject p.geometry n) (reported : range_with p.ranges n ≡ Some r) where
  abbrev rank : ℕ
  rank = (n - r.first) % frames_in_block p.version p.geometry n

  begins_is : begins_unit p n ≡ (if nat_lt n p.geometry.nodes then (n - r.first) % (row p.version).cluster_nodes == 0 else true)
  begins_is = ap (λ (o : Option HomeRange). if nat_lt n p.geometry.nodes then rank_in p.version o n == 0 else true) reported

  begun_first : IsTrue (begins_unit p n) → IsFirstOf p n n
  begun_first begins =
      let none : rank ≡ 0 = begins_by p.version (nat_lt n p.geometry.nodes) (n - r.first) (sym begins_is ∙ begins) in
      first_is fits is (sym reported) (less_none n rank (sym none))

  first_begun : ((m : ℕ) → m ≤ n → home_place p m ≡ home_place p n → n ≤ m) → IsTrue (begins_unit p n)
  first_begun least =
      let start : IsFirstOf p n (n - rank) = first_is fits is (sym reported) refl in
      let low : rank ≤ n - r.first = rank_low p.version p.geometry n (n - r.first) in
      let le : n ≤ n - rank = least (n - rank) start.below start.home in
      let none : rank ≡ 0 = no_rank n rank (omega (arith, low)) le in
      begins_is ∙ by_begins p.version (nat_lt n p.geometry.nodes) (n - r.first) none

-- a number that begins a unit is the least with its home
pub begins_first : {p : Plan} {n : ℕ} → IsPlan p → IsObject p.geometry n → IsTrue (begins_unit p n) → IsFirstOf p n n
begins_first {p} {n} fits is begins = let at = found n fits is in begun_first fits is at.1.found begins

-- the least number with a home begins a unit
pub first_begins : {p : Plan} {n first : ℕ} → IsPlan p → IsObject p.geometry n → IsFirstOf p n first → IsTrue (begins_unit p first)
first_begins {p} {n} {first} fits is start =
    let here : IsObject p.geometry first = omega (arith, is, start.below) in
    let at = found first fits here in
    first_begun fits here at.1.found (λ m low same. start.least m (omega (arith, here, low)) (same ∙ start.home))

-- a home has one number that begins a unit
pub one_begins : {p : Plan} {a b : ℕ} → IsPlan p → IsObject p.geometry a → IsObject p.geometry b → IsTrue (begins_unit p a) →
    IsTrue (begins_unit p b) → home_place p a ≡ home_place p b → a ≡ b
one_begins {p} {a} {b} fits is_a is_b begins_a begins_b same =
    let low = (begins_first fits is_a begins_a).least b is_b (sym same) in
    let high = (begins_first fits is_b begins_b).least a is_a same in
    omega (arith, low, high)

-- ---- the frames of a cluster end before its seal

node_end : (v : Version) (g : Geometry) (r : HomeRange) (a b : ℕ) → (row v).sealed ≡ true → Has g r a → Has g r b → a < g.nodes →
    b < g.nodes → place_in v g r a ≡ place_in v g r b → (b - r.first) % (row v).cluster_nodes ≡ 0 →
    shape_end (node_shape v ((a - r.first) % (row v).cluster_nodes)) ≤ 800 * min (row v).cluster_nodes (r.first + r.count - b)
node_end v g r a b sealed has_a has_b less_a less_b same start = grind (arith, nat_tests, has_a.low, has_a.high, has_b.low, has_b.high)

node_too : (g : Geometry) (r : HomeRange) (a b : ℕ) → Has g r a → Has g r b → a < g.nodes → b < g.nodes
node_too g r a b has_a has_b less = grind (arith, nat_tests, has_a.low, has_b.high, has_b.kind)

node_rank : (v : Version) (node : Bool) (x : ℕ) → node ≡ true → (if node then x % (row v).cluster_nodes == 0 else true) ≡ true →
    x % (row v).cluster_nodes ≡ 0
node_rank v node x is begins = grind (arith, nat_tests)

module _ {p : Plan} {n first : ℕ} (fits : IsPlan p) (sealed : (row p.version).sealed ≡ true) (less : n < p.geometry.nodes)
    (is_first : IsObject p.geometry first) (begins : IsTrue (begins_unit p first)) where
  end_in : (r : HomeRange) → Has p.geometry r n → Has p.geometry r first → range_with p.ranges n ≡ Some r →
      range_with p.ranges first ≡ Some r → place_in p.version p.geometry r n ≡ place_in p.version p.geometry r first →
      shape_end (shape_of p n) ≤ 800 * cluster_count p.version (range_with p.ranges first) first
  end_in r has has_first found_n found_first place =
      let low : first < p.geometry.nodes = node_too p.geometry r n first has has_first less in
      let start = node_rank p.version (nat_lt first p.geometry.nodes) (first - r.first) (lt-ltb first p.geometry.nodes low)
      (sym (begins_is fits is_first found_first) ∙ begins) in
      rw (lt-ltb n p.geometry.nodes less, found_n, found_first)
      (node_end p.version p.geometry r n first sealed has has_first less low place start)

  frame_end : home_place p n ≡ home_place p first →
      shape_end (shape_of p n) ≤ 800 * cluster_count p.version (range_with p.ranges first) first
  frame_end same =
      let both = one_range fits (omega (arith, less)) is_first same in
      end_in _ both.1.one.has both.1.other.has both.1.one.found both.1.other.found both.1.place

-- ---- a block that is changed only behind a frame

front_stays : (s : Shape) (old new : List ℕ) (k : ℕ) → shape_end s ≤ k → take k new ≡ take k old → shape_bytes s new ≡ shape_bytes s old
front_stays s old new k low same =
    let front : take (shape_end s) new ≡ take (shape_end s) old =
    sym (take-take (shape_end s) k new low) ∙ ap (take (shape_end s)) same ∙ take-take (shape_end s) k old low in
    ap (λ (b : List ℕ). blanked s.has_sums b ++ zeros (1024 - s.bytes))
    (between_is new s.offset (shape_end s) ∙ ap (drop s.offset) front ∙ sym (between_is old s.offset (shape_end s)))

-- ---- a cluster is sealed

module _ {p : Plan} {number first : ℕ} (old new : List ℕ) (fits : IsPlan p) (is : IsObject p.geometry number)
    (start : IsFirstOf p number first) where
  here : IsObject p.geometry first
  here = omega (arith, is, start.below)

  -- its frames stay
  pub seal_keeps : {nodes : ℕ} → (row p.version).sealed ≡ true →
      nodes ≡ cluster_count p.version (range_with p.ranges first) first → take (800 * nodes) new ≡ take (800 * nodes) old →
      (n : ℕ) → n < p.geometry.nodes → home_place p n ≡ home_place p number →
      shape_bytes (shape_of p n) new ≡ shape_bytes (shape_of p n) old
  seal_keeps {nodes} sealed count same n less home =
      front_stays (shape_of p n) old new (800 * nodes)
      (rw count (frame_end fits sealed less here (first_begins fits is start)
      (home ∙ sym start.home))) same

  -- it is the cluster of its first node
  pub seal_is : {nodes : ℕ} → nodes ≡ cluster_count p.version (range_with p.ranges first) first → IsCluster nodes new →
      IsClusterOf p number new
  seal_is {nodes} count sealed n less begins home =
      let same : first ≡ n = one_begins fits here (omega (arith, less)) (first_begins fits is start) begins (start.home ∙ sym home) in
      subst (λ (k : ℕ). IsCluster (cluster_count p.version (range_with p.ranges k) k) new) same
      (subst (λ (k : ℕ). IsCluster k new) count sealed)
