-- The units of a sealed image, number by number.
use Rattle.migrator.proofs.Names.{ℕ, Bool, List, [], Image, Entry, Plan, OpenFault, HasUnits, HasHeader, HasPlan, HasDirectory, SealedHeader, Sums, count_of}
use Rattle.migrator.proofs.Names.{row, true, false, nat_lt, sym, ap, subst, inl, inr, arith, nat_tests, cases_lt, take, length, sectors_from, Option, Some}
use Rattle.migrator.proofs.Names.{None, Result, Ok, Err, false≢true, OnOk, IfErr, frame_slot_in, home_place, sector_or, slot_sector, place_length}
use Rattle.migrator.proofs.Names.{range_with_len, map-range_with_len_more, append-nil, IsBadFor, Version, IsTrue, IfOk, lt-ltb, le-ltb, map-id, take_at}
use Rattle.migrator.proofs.Names.{flat_map-append, flat_map, range_with, rank_in, frame_sector, node_shape, page_shape, IsCluster, Unit, root_of, unit_of}
use Rattle.migrator.proofs.Names.{seal_in, IsSummed, begins_unit, block_in, cluster_count, unit_in, IsBadBlock, IsBadCluster, IsRootAfter, page_seal, AreUnits}
use Rattle.migrator.proofs.Names.{HasBadUnit, HasOtherUnits, IsBadUnit, IsUnitAt, IsUnitBy, units_until}
use Rattle.std.specs.Prelude.{if◌then◌else◌, ◌==◌}
use Rattle.std.proofs.Common.{◌≡◌, ◌+◌, ◌<◌, ◌≤◌, ◌∷◌, ◌++◌, ◌∙◌}
use Rattle.layout.specs.declared.open_fault.OpenFault.TheVariants as refusal

-- ---- lists

counting_more : (k : ℕ) → range_with_len 0 (k + 1) ≡ range_with_len 0 k ++ k ∷ []
counting_more k =
    sym (map-id (range_with_len 0 (k + 1))) ∙ map-range_with_len_more (λ (n : ℕ). n) 0 k k (omega arith)
    ∙ ap (λ (xs : List ℕ). xs ++ k ∷ []) (map-id (range_with_len 0 k))

parts_more : (f : ℕ → List Unit) (k : ℕ) → flat_map f (range_with_len 0 (k + 1)) ≡ flat_map f (range_with_len 0 k) ++ f k
parts_more f k =
    ap (flat_map f) (counting_more k) ∙ flat_map-append f (range_with_len 0 k) (k ∷ [])
    ∙ ap (λ (us : List Unit). flat_map f (range_with_len 0 k) ++ us) (append-nil (f k))

-- the unit that a number begins, if it does
abbrev part_of : Bool → Unit → List Unit
part_of begins u = if begins then u ∷ [] else []

-- ---- one more number

module _ {image : Image} {p : Plan} {generation : ℕ} {es : List Entry} {k : ℕ} {root : Sums}
    (units : AreUnits image p generation es k root) where
  until_more : {begins : Bool} → begins_unit p k ≡ begins → units_until image p generation es (k + 1)
      ≡ units_until image p generation es k ++ part_of begins (unit_in image p generation es k)
  until_more {begins} is =
      parts_more (λ n. part_of (begins_unit p n) (unit_in image p generation es n)) k
      ∙ ap (λ (b : Bool). units_until image p generation es k ++ part_of b (unit_in image p generation es k)) is

  each_more : (IsTrue (begins_unit p k) → IsUnitAt image p generation es k) → (n : ℕ) → n < k + 1 → IsTrue (begins_unit p n) →
      IsUnitAt image p generation es n
  each_more here n lt begins = elim (cases_lt n k) [
    | inl less ↦ units.each n less begins
    | inr le ↦
        let same : k ≡ n = omega (arith, lt, le) in
        subst (λ (m : ℕ). IsTrue (begins_unit p m) → IsUnitAt image p generation es m) same here begins
  ]

  -- a number that begins no unit
  pub units_same : begins_unit p k ≡ false → AreUnits image p generation es (k + 1) root
  units_same none = record {
    each = each_more (λ begins. absurd (false≢true (sym none ∙ begins)));
    root_is = units.root_is ∙ ap root_of (sym (append-nil (units_until image p generation es k)) ∙ sym (until_more none));
  }

  -- a number that begins one
  pub units_more : {seal more : Sums} → begins_unit p k ≡ true → IsUnitAt image p generation es k →
      seal ≡ (unit_in image p generation es k).seal → IsRootAfter k seal root more → AreUnits image p generation es (k + 1) more
  units_more {seal} {more} begins here is after = record {
    each = each_more (λ _. here);
    root_is =
        after (units_until image p generation es k) units.root_is
        ∙ ap (λ (s : Sums). root_of (units_until image p generation es k ++ unit_of k s ∷ [])) is
        ∙ ap root_of (sym (until_more begins));
  }

pub units_none : {image : Image} {p : Plan} {generation : ℕ} {es : List Entry} {root : Sums} → root ≡ root_of [] →
    AreUnits image p generation es 0 root
units_none is = record { each = λ n lt begins. absurd (omega (arith, lt)); root_is = is }

-- ---- all numbers

unit_by : {node : Bool} (p : Plan) (n : ℕ) {b : Bool} (block : List ℕ) → node ≡ b → IsUnitBy b p n block → IsUnitBy node p n block
unit_by p n block is unit = subst (λ (b : Bool). IsUnitBy b p n block) (sym is) unit

page_begins : (p : Plan) (n : ℕ) → p.geometry.nodes ≤ n → IsTrue (begins_unit p n)
page_begins p n le =
    ap (λ (b : Bool). if b then rank_in p.version (range_with p.ranges n) n == 0 else true) (le-ltb n p.geometry.nodes le)

pub units_all : {image : Image} {p : Plan} {generation : ℕ} {es : List Entry} {root : Sums} →
    AreUnits image p generation es (count_of p) root → HasUnits image p root generation es
units_all {image} {p} {generation} {es} {root} units = record {
  clusters = λ n lt begins. subst (λ (b : Bool). IsUnitBy b p n (block_in image p generation es n)) (lt-ltb n p.geometry.nodes lt)
      (units.each n (omega (arith, lt)) begins);
  pages = λ n le lt. subst (λ (b : Bool). IsUnitBy b p n (block_in image p generation es n)) (le-ltb n p.geometry.nodes le)
      (units.each n lt (page_begins p n le));
  root_is = sym units.root_is;
}

one_unit : {image : Image} {p : Plan} {root : Sums} {generation : ℕ} {es : List Entry} (n : ℕ) → HasUnits image p root generation es →
    n < count_of p → IsTrue (begins_unit p n) → IsUnitAt image p generation es n
one_unit {image} {p} {root} {generation} {es} n units lt begins = elim (cases_lt n p.geometry.nodes) [
  | inl less ↦ unit_by p n (block_in image p generation es n) (lt-ltb n p.geometry.nodes less) (units.clusters n less begins)
  | inr le ↦ unit_by p n (block_in image p generation es n) (le-ltb n p.geometry.nodes le) (units.pages n le lt)
]

-- ---- refusals

pub unit_refused : (image : Image) (p : Plan) (generation : ℕ) (es : List Entry) (n : ℕ) (e : OpenFault) → n < count_of p →
    begins_unit p n ≡ true → IsBadUnit image p generation es n e → HasBadUnit image p generation es e
unit_refused image p generation es n refusal.Failed lt begins is = tt
unit_refused image p generation es n refusal.NoMemory lt begins is = is
unit_refused image p generation es n (refusal.Bad reason) lt begins is = (is.0, λ root units. is.1 (one_unit n units lt begins))

pub refused_for : (image : Image) (p : Plan) (root : Sums) (generation : ℕ) (es : List Entry) (e : OpenFault) →
    (row p.version).sealed ≡ true → HasBadUnit image p generation es e → HasOtherUnits image p root generation es e
refused_for image p root generation es refusal.Failed sealed is = tt
refused_for image p root generation es refusal.NoMemory sealed is = is
refused_for image p root generation es (refusal.Bad reason) sealed is = (is.0, sealed, is.1 root)

-- an image is refused for reason 7 if its units are
pub units_refused : {image : Image} {size : ℕ} {p : Plan} {h : SealedHeader} {es : List Entry} (e : OpenFault) → HasPlan image size p →
    HasHeader image p h → HasDirectory image p h es → HasOtherUnits image p h.root h.header.generation es e → IsBadFor image size e
units_refused refusal.Failed plan header directory is = tt
units_refused refusal.NoMemory plan header directory is = tt
units_refused {image} {size} {p} {h} {es} (refusal.Bad reason) plan header directory is =
    rw is.0 (p, h, es, plan, header, directory, inr (is.1, is.2))

pub other_root : {image : Image} {p : Plan} {root found : Sums} {generation : ℕ} {es : List Entry} → HasUnits image p found generation es →
    (found ≡ root → ⊥) → HasUnits image p root generation es → ⊥
other_root units differ has = differ (sym units.root_is ∙ has.root_is)

-- ---- the sector of a block

pub sector_slot : (p : Plan) (generation : ℕ) (es : List Entry) (n : ℕ) {s at : ℕ} → frame_slot_in p es n ≡ Some s →
    at ≡ slot_sector p generation s → at ≡ frame_sector p generation es n
sector_slot p generation es n is place =
    place ∙ ap (λ (o : Option ℕ). sector_or o (slot_sector p generation) (home_place p n)) (sym is)

pub sector_home : (p : Plan) (generation : ℕ) (es : List Entry) (n : ℕ) {at : ℕ} → frame_slot_in p es n ≡ None → at ≡ home_place p n →
    at ≡ frame_sector p generation es n
sector_home p generation es n is place =
    place ∙ ap (λ (o : Option ℕ). sector_or o (slot_sector p generation) (home_place p n)) (sym is)

few_sectors : (v : Version) (node : Bool) (rank : ℕ) → (if node then node_shape v rank else page_shape v).sectors ≤ 9
few_sectors v node rank = grind (arith, nat_tests)

pub at_most_nine : (p : Plan) (n : ℕ) → place_length p n ≤ 9
at_most_nine p n = few_sectors p.version (nat_lt n p.geometry.nodes) (rank_in p.version (range_with p.ranges n) n)

-- ---- one unit

cluster_sectors : (v : Version) (rank : ℕ) → (row v).sealed ≡ true → (node_shape v rank).sectors ≡ 8
cluster_sectors v rank sealed = grind (arith, nat_tests)

pub cluster_length : (p : Plan) (n : ℕ) → (row p.version).sealed ≡ true → n < p.geometry.nodes → place_length p n ≡ 8
cluster_length p n sealed less =
    ap (λ (b : Bool). (if b then node_shape p.version (rank_in p.version (range_with p.ranges n) n) else page_shape p.version).sectors)
    (lt-ltb n p.geometry.nodes less) ∙ cluster_sectors p.version (rank_in p.version (range_with p.ranges n) n) sealed

pub page_length : (p : Plan) (n : ℕ) → p.geometry.nodes ≤ n → place_length p n ≡ 9
page_length p n le =
    ap (λ (b : Bool). (if b then node_shape p.version (rank_in p.version (range_with p.ranges n) n) else page_shape p.version).sectors)
    (le-ltb n p.geometry.nodes le)

first_of_nine : (image : Image) (at : ℕ) → length (image at) ≡ 512 → take 512 (sectors_from image at 9) ≡ image at
unfolding sectors_from
first_of_nine image at size = take_at (image at) (sectors_from image (at + 1) 8) 512 size

-- a unit was read where it is saved: it is right, and this is its seal; or why it wasn't
pub record IsUnitRead (image : Image) (p : Plan) (generation : ℕ) (es : List Entry) (n : ℕ) (result : Result Sums OpenFault) : Type 0 where
  pub found : OnOk result (IsUnitAt image p generation es n)
  pub seal : IfOk result (λ s. s ≡ (unit_in image p generation es n).seal)
  pub refused : IfErr result (λ e. IsBadUnit image p generation es n e)

module _ (image : Image) (p : Plan) (generation : ℕ) (es : List Entry) (n at : ℕ) (place : at ≡ frame_sector p generation es n) where
  abbrev block : List ℕ
  block = block_in image p generation es n

  -- the bytes of a unit, by its kind
  abbrev bytes_by : Bool → List ℕ
  bytes_by node = if node then block else image (frame_sector p generation es n)

  -- the block lies at the sector
  block_at : (sectors : ℕ) → place_length p n ≡ sectors → block ≡ sectors_from image at sectors
  block_at sectors size = ap (sectors_from image (frame_sector p generation es n)) size
      ∙ ap (λ (k : ℕ). sectors_from image k sectors) (sym place)

  module _ (sealed : (row p.version).sealed ≡ true) (less : n < p.geometry.nodes) (nodes : ℕ)
      (count : nodes ≡ cluster_count p.version (range_with p.ranges n) n) where
    -- the block at the sector is a cluster exactly if the unit is right
    cluster_unit : IsCluster nodes (sectors_from image at 8) → IsUnitAt image p generation es n
    cluster_unit is =
        unit_by p n block (lt-ltb n p.geometry.nodes less)
        (subst (λ (k : ℕ). IsCluster k block) count
        (subst (IsCluster nodes) (sym (block_at 8 (cluster_length p n sealed less))) is))

    unit_cluster : IsUnitAt image p generation es n → IsCluster nodes (sectors_from image at 8)
    unit_cluster unit =
        let there : IsUnitBy true p n block = subst (λ (b : Bool). IsUnitBy b p n block) (lt-ltb n p.geometry.nodes less) unit in
        subst (IsCluster nodes) (block_at 8 (cluster_length p n sealed less)) (subst (λ (k : ℕ). IsCluster k block) (sym count) there)

    cluster_seal : seal_in (sectors_from image at 8) ≡ (unit_in image p generation es n).seal
    cluster_seal =
        ap seal_in (sym (block_at 8 (cluster_length p n sealed less))) ∙ ap (λ (b : Bool). seal_in (bytes_by b))
        (sym (lt-ltb n p.geometry.nodes less))

    cluster_refused : (e : OpenFault) → IsBadCluster nodes (sectors_from image at 8) e → IsBadUnit image p generation es n e
    cluster_refused refusal.Failed is = tt
    cluster_refused refusal.NoMemory is = is
    cluster_refused (refusal.Bad reason) is = (is.0, λ unit. is.1 (unit_cluster unit))

    pub cluster_read : (new : Image) (read : List ℕ) (result : Result Sums OpenFault) → new ≡ image →
        OnOk result (sectors_from new at 8 ≡ read) → IfOk result (λ s. IsCluster nodes read × (s ≡ seal_in read)) →
        IfErr result (λ e. IsBadCluster nodes (sectors_from new at 8) e) → IsUnitRead image p generation es n result
    cluster_read new read (Ok s) same bytes found refused =
        let here : read ≡ sectors_from image at 8 = sym bytes ∙ ap (λ (i : Image). sectors_from i at 8) same in record {
          found = cluster_unit (subst (IsCluster nodes) here found.0);
          seal = found.1 ∙ ap seal_in here ∙ cluster_seal;
          refused = tt;
        }
    cluster_read new read (Err e) same bytes found refused = record {
      found = tt;
      seal = tt;
      refused = cluster_refused e (subst (λ (i : Image). IsBadCluster nodes (sectors_from i at 8) e) same refused);
    }

  module _ (le : p.geometry.nodes ≤ n) where
    page_unit : IsSummed (sectors_from image at 9) → IsUnitAt image p generation es n
    page_unit is = unit_by p n block (le-ltb n p.geometry.nodes le) (subst IsSummed (sym (block_at 9 (page_length p n le))) is)

    unit_page : IsUnitAt image p generation es n → IsSummed (sectors_from image at 9)
    unit_page unit =
        subst IsSummed (block_at 9 (page_length p n le)) (subst (λ (b : Bool). IsUnitBy b p n block) (le-ltb n p.geometry.nodes le) unit)

    page_seal_is : length (image at) ≡ 512 → page_seal (sectors_from image at 9) ≡ (unit_in image p generation es n).seal
    page_seal_is size =
        ap seal_in (first_of_nine image at size) ∙ ap (λ (k : ℕ). seal_in (image k)) place
        ∙ ap (λ (b : Bool). seal_in (bytes_by b)) (sym (le-ltb n p.geometry.nodes le))

    page_refused : (e : OpenFault) → IsBadBlock (sectors_from image at 9) e → IsBadUnit image p generation es n e
    page_refused refusal.Failed is = tt
    page_refused refusal.NoMemory is = is
    page_refused (refusal.Bad reason) is = (is.0, λ unit. is.1 (unit_page unit))

    pub page_read : (new : Image) (read : List ℕ) (result : Result Sums OpenFault) → new ≡ image → length (image at) ≡ 512 →
        OnOk result (sectors_from new at 9 ≡ read) → IfOk result (λ s. IsSummed read × (s ≡ page_seal read)) →
        IfErr result (λ e. IsBadBlock (sectors_from new at 9) e) → IsUnitRead image p generation es n result
    page_read new read (Ok s) same size bytes found refused =
        let here : read ≡ sectors_from image at 9 = sym bytes ∙ ap (λ (i : Image). sectors_from i at 9) same in record {
          found = page_unit (subst IsSummed here found.0);
          seal = found.1 ∙ ap page_seal here ∙ page_seal_is size;
          refused = tt;
        }
    page_read new read (Err e) same size bytes found refused = record {
      found = tt;
      seal = tt;
      refused = page_refused e (subst (λ (i : Image). IsBadBlock (sectors_from i at 9) e) same refused);
    }
