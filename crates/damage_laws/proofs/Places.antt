-- Where the blocks of an image of version 3 lie.
use Rattle.damage_laws.proofs.Names.{ℕ, Bool, true, List, [], Option, None, Some, ap, refl, subst, sym, inl, inr, arith, IsTrue, cases_lt, eq-eqb, le-ltb}
use Rattle.damage_laws.proofs.Names.{lt-ltb, nat_tests, same_Some, Geometry, home_place, place_by, place_length, range_with, rank_in, frame_sector, sector_or}
use Rattle.damage_laws.proofs.Names.{slot_beside, slot_by, slot_sector, node_shape, page_shape, shape_length, Cover, IsPlan, Plan, row, Entry, HomeRange}
use Rattle.damage_laws.proofs.Names.{Version, One, Two, Three, begins_unit}
use Rattle.std.proofs.Common.{◌≡◌, ◌+◌, ◌-◌, ◌*◌, ◌/◌, ◌%◌, ◌<◌, ◌≤◌, ◌∷◌, ◌∙◌}
use Rattle.std.specs.Prelude.{◌==◌, if◌then◌else◌}

pub is_three : (v : Version) → (row v).sealed ≡ true → v ≡ Three
is_three One is = absurd (cc is)
is_three Two is = absurd (cc is)
is_three Three is = refl

-- ---- the range of a number

in_head : (q : HomeRange) (qs : List HomeRange) (o : ℕ) → q.first ≤ o → o < q.first + q.count → range_with (q ∷ qs) o ≡ Some q
in_head q qs o ge lt = grind (arith, nat_tests)

below_head : (q : HomeRange) (qs : List HomeRange) (o : ℕ) → o < q.first → range_with (q ∷ qs) o ≡ range_with qs o
below_head q qs o lt = grind (arith, nat_tests)

past_head : (q : HomeRange) (qs : List HomeRange) (o : ℕ) → q.first + q.count ≤ o → range_with (q ∷ qs) o ≡ range_with qs o
past_head q qs o ge = grind (arith, nat_tests)

-- a range of those from number n on, which has the number o
record Has (n o : ℕ) (r : HomeRange) : Type 0 where
  pub later : n ≤ r.first
  pub low : r.first ≤ o
  pub high : o < r.first + r.count

has : (g : Geometry) (n : ℕ) (rs : List HomeRange) (o : ℕ) (r : HomeRange) → Cover g n rs → range_with rs o ≡ Some r → Has n o r
has g n [] o r cover e = absurd (cc e)
has g n (q ∷ qs) o r cover e =
    let first : q.first ≡ n = cover.0.0 in
    let rest : range_with qs o ≡ Some r → Has n o r = λ found.
    let it = has g (n + q.count) qs o r cover.1 found in
    record { later = omega (arith, it.later); low = it.low; high = it.high } in
    elim (cases_lt o q.first) [
      | inl below ↦ rest (sym (below_head q qs o below) ∙ e)
      | inr ge ↦
          elim (cases_lt o (q.first + q.count)) [
            | inl lt ↦
                let same : q ≡ r = same_Some q r (sym (in_head q qs o ge lt) ∙ e) in
                subst (Has n o) same (record { later = omega (arith, first); low = ge; high = lt })
            | inr past ↦ rest (sym (past_head q qs o past) ∙ e)
          ]
    ]

-- smaller numbers of the range have the same range
range_stays : (g : Geometry) (n : ℕ) (rs : List HomeRange) (o least : ℕ) (r : HomeRange) → Cover g n rs → range_with rs o ≡ Some r →
    r.first ≤ least → least ≤ o → range_with rs least ≡ Some r
range_stays g n [] o least r cover e ge le = absurd (cc e)
range_stays g n (q ∷ qs) o least r cover e ge le =
    let first : q.first ≡ n = cover.0.0 in
    elim (cases_lt o q.first) [
      | inl below ↦
          let found : range_with qs o ≡ Some r = sym (below_head q qs o below) ∙ e in
          let it = has g (n + q.count) qs o r cover.1 found in
          absurd (omega (arith, it.later, it.low, below, first))
      | inr above ↦
          elim (cases_lt o (q.first + q.count)) [
            | inl lt ↦
                let same : q ≡ r = same_Some q r (sym (in_head q qs o above lt) ∙ e) in
                let low : q.first ≤ least = subst (λ (it : HomeRange). it.first ≤ least) (sym same) ge in
                in_head q qs least low (omega (arith, le, lt)) ∙ ap (λ (it : HomeRange). Some it) same
            | inr past ↦
                let found : range_with qs o ≡ Some r = sym (past_head q qs o past) ∙ e in
                let it = has g (n + q.count) qs o r cover.1 found in
                past_head q qs least (omega (arith, it.later, ge, first))
                ∙ range_stays g (n + q.count) qs o least r cover.1 found ge le
          ]
    ]

-- ---- the first node of a cluster

module _ (p : Plan) (sealed : (row p.version).sealed ≡ true) where
  nodes_five : (row p.version).cluster_nodes ≡ 5
  nodes_five = ap (λ (v : Version). (row v).cluster_nodes) (is_three p.version sealed)

  -- how many sectors the block of a node or of a page takes
  abbrev length_by : ℕ → Bool → ℕ
  length_by o node =
      shape_length (if node then node_shape p.version (rank_in p.version (range_with p.ranges o) o) else page_shape p.version)

  pub node_length : (o : ℕ) → o < p.geometry.nodes → place_length p o ≡ 8
  node_length o lt =
      ap (length_by o) (lt-ltb o p.geometry.nodes lt)
      ∙ ap (λ (v : Version). (row v).cluster_sectors) (is_three p.version sealed)

  pub page_length : (o : ℕ) → p.geometry.nodes ≤ o → place_length p o ≡ 9
  page_length o le =
      ap (length_by o) (le-ltb o p.geometry.nodes le)

  -- nodes with one home have one block
  same_beside : (o least : ℕ) (es : List Entry) → home_place p least ≡ home_place p o → slot_beside p es least ≡ slot_beside p es o
  same_beside o least [] same = refl
  same_beside o least (e ∷ es) same =
      ap (λ (home : ℕ). if home_place p e.object == home then Some e.slot else slot_beside p es least) same
      ∙ ap (λ (rest : Option ℕ). if home_place p e.object == home_place p o then Some e.slot else rest) (same_beside o least es same)

  same_sector : (generation o least : ℕ) (es : List Entry) → home_place p least ≡ home_place p o →
      frame_sector p generation es least ≡ frame_sector p generation es o
  same_sector generation o least es same =
      ap (λ (b : Bool). sector_or (slot_by b p es least) (slot_sector p generation) (home_place p least)) sealed
      ∙ ap (λ (slot : Option ℕ). sector_or slot (slot_sector p generation) (home_place p least)) (same_beside o least es same)
      ∙ ap (λ (home : ℕ). sector_or (slot_beside p es o) (slot_sector p generation) home) same
      ∙ sym (ap (λ (b : Bool). sector_or (slot_by b p es o) (slot_sector p generation) (home_place p o)) sealed)

  -- a node whose cluster is that of o, and which begins it
  pub record IsFirst (generation : ℕ) (es : List Entry) (o least : ℕ) : Type 0 where
    pub node : least < p.geometry.nodes
    pub begins : IsTrue (begins_unit p least)
    pub there : frame_sector p generation es least ≡ frame_sector p generation es o

  begins_by : (least : ℕ) → least < p.geometry.nodes → rank_in p.version (range_with p.ranges least) least ≡ 0 →
      IsTrue (begins_unit p least)
  begins_by least lt rank =
      let node : begins_unit p least ≡ (rank_in p.version (range_with p.ranges least) least == 0) =
      ap (λ (b : Bool). if b then rank_in p.version (range_with p.ranges least) least == 0 else true) (lt-ltb least p.geometry.nodes lt) in
      node ∙ eq-eqb (rank_in p.version (range_with p.ranges least) least) 0 rank

  module _ (o : ℕ) (lt : o < p.geometry.nodes) (fits : IsPlan p) (r : HomeRange) (is : range_with p.ranges o ≡ Some r) where
    abbrev least : ℕ
    least = o - (o - r.first) % 5

    it : Has 0 o r
    it = has p.geometry 0 p.ranges o r fits.cover is

    least_range : range_with p.ranges least ≡ Some r
    least_range = range_stays p.geometry 0 p.ranges o least r fits.cover is (omega (arith, it.low)) (omega arith)

    least_home : home_place p least ≡ home_place p o
    least_home =
        let v = p.version in
        let below : least < p.geometry.nodes = omega (arith, lt) in
        let offset : ℕ → Bool → ℕ = λ n b. r.sector +
        (if b then (row v).cluster_sectors * ((n - r.first) / (row v).cluster_nodes) else 9 * (n - r.first)) in
        let place : ℕ → ℕ → ℕ = λ n c. r.sector + (row v).cluster_sectors * ((n - r.first) / c) in
        let same : (least - r.first) / 5 ≡ (o - r.first) / 5 = omega (arith, it.low) in
        ap (λ (found : Option HomeRange). place_by v p.geometry found least) least_range
        ∙ ap (offset least) (lt-ltb least p.geometry.nodes below)
        ∙ ap (place least) nodes_five
        ∙ ap (λ (i : ℕ). r.sector + (row v).cluster_sectors * i) same
        ∙ sym (ap (place o) nodes_five)
        ∙ sym (ap (offset o) (lt-ltb o p.geometry.nodes lt))
        ∙ sym (ap (λ (found : Option HomeRange). place_by v p.geometry found o) is)

    least_rank : rank_in p.version (range_with p.ranges least) least ≡ 0
    least_rank =
        ap (λ (found : Option HomeRange). rank_in p.version found least) least_range
        ∙ ap (λ (c : ℕ). (least - r.first) % c) nodes_five ∙ omega (arith, it.low)

    first_is : (generation : ℕ) (es : List Entry) → IsFirst generation es o least
    first_is generation es = record {
      node = omega (arith, lt);
      begins = begins_by least (omega (arith, lt)) least_rank;
      there = same_sector generation o least es least_home;
    }

  first_by : (generation : ℕ) (es : List Entry) (o : ℕ) → o < p.geometry.nodes → IsPlan p → (found : Option HomeRange) →
      range_with p.ranges o ≡ found → (least : ℕ) × IsFirst generation es o least
  first_by generation es o lt fits None is = (
    o,
    record {
      node = lt;
      begins = begins_by o lt (ap (λ (it : Option HomeRange). rank_in p.version it o) is);
      there = refl;
    },
  )
  first_by generation es o lt fits (Some r) is = (least o lt fits r is, first_is o lt fits r is generation es)

  -- each node lies in a cluster that some node begins
  pub first_of : (generation : ℕ) (es : List Entry) (o : ℕ) → o < p.geometry.nodes → IsPlan p → (least : ℕ) × IsFirst generation es o least
  first_of generation es o lt fits = first_by generation es o lt fits (range_with p.ranges o) refl
