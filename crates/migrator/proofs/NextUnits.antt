-- The units of the next saved state, and its root.
use Rattle.migrator.proofs.Names.{ℕ, zero, suc, Bool, Option, Some, None, List, [], length, take, true, false, refl, sym, ap, subst, inl, inr, arith, nat_lt}
use Rattle.migrator.proofs.Names.{Image, Entry, Plan, IsPlan, IsObject, IsDirectory, HasUnits, Sums, count_of, row, home_place, place_length, sectors_from}
use Rattle.migrator.proofs.Names.{slot_beside, slot_sector, sealed_frame_slot, beside_here, beside_behind, cases_eq, entry_at, IsFirst, IsFirstOf, shape_of}
use Rattle.migrator.proofs.Names.{IfSummed, IsSlotSummed, sector_or, IsTrue, le-ltb, ltb-false, get_or-take, length-take-le, take_all, range_with, rank_in}
use Rattle.migrator.proofs.Names.{frame_sector, or_beside, node_shape, page_shape, IsCluster, Unit, root_of, seal_in, IsSummed, IsSummedIf, begins_unit}
use Rattle.migrator.proofs.Names.{block_in, cluster_count, unit_in, units_in, IsRootWith, unit_at}
use Rattle.std.proofs.Common.{◌≡◌, ◌+◌, ◌-◌, ◌<◌, ◌≤◌, ◌∷◌, ◌∙◌}
use Rattle.std.specs.Prelude.{if◌then◌else◌, ◌==◌}
use Rattle.migrator.proofs.Blocks.{block_home, block_slot, same_bytes}
use Rattle.migrator.proofs.Clusters.{first_begins, one_begins}
use Rattle.migrator.proofs.PlacesApart.{no_entries, none_beside, some_beside}
use Rattle.migrator.proofs.ReadSeals.{same_step, unit_seal_is}
use Rattle.migrator.proofs.ReplacedUnits.{replaced_one, same_units_by}
use Rattle.migrator.proofs.SealedUnits.{cluster_length, page_length}

-- ---- units whose blocks lie elsewhere, with the same bytes

-- the unit of object n, from the block at a sector
abbrev unit_from : Image → Plan → ℕ → ℕ → Unit
unit_from image p n at = record {
  number = n;
  seal = seal_in (if nat_lt n p.geometry.nodes then sectors_from image at (place_length p n) else image at);
}

module _ (p : Plan) (g h : ℕ) (es fs : List Entry) (old new : Image)
    (same : (n : ℕ) → n < count_of p → (i : ℕ) → i < place_length p n →
    new (frame_sector p h fs n + i) ≡ old (frame_sector p g es n + i)) where
  block_same : (n : ℕ) → n < count_of p → block_in new p h fs n ≡ block_in old p g es n
  block_same n lt = same_bytes old new (frame_sector p h fs n) (frame_sector p g es n) (place_length p n) (same n lt)

  first_same : (n : ℕ) → n < count_of p → 1 ≤ place_length p n → new (frame_sector p h fs n) ≡ old (frame_sector p g es n)
  first_same n lt some =
      let here : frame_sector p h fs n ≡ frame_sector p h fs n + 0 = omega arith in
      let there : frame_sector p g es n + 0 ≡ frame_sector p g es n = omega arith in
      ap new here ∙ same n lt 0 some ∙ ap old there

  bytes_same : (n : ℕ) → n < count_of p → (node : Bool) → nat_lt n p.geometry.nodes ≡ node →
      (if node then block_in new p h fs n else new (frame_sector p h fs n))
      ≡ (if node then block_in old p g es n else old (frame_sector p g es n))
  bytes_same n lt true is = block_same n lt
  bytes_same n lt false is =
      let long = page_length p n (ltb-false n p.geometry.nodes is) in
      first_same n lt (omega (arith, long))

  pub list_kept : units_in new p h fs ≡ units_in old p g es
  list_kept = same_units_by (begins_unit p) (count_of p) (unit_in new p h fs) (unit_in old p g es) (λ n lt begins.
      ap (λ (bytes : List ℕ). record { number = n; seal = seal_in bytes }) (bytes_same n lt (nat_lt n p.geometry.nodes) refl))

  pub units_kept : {root : Sums} → HasUnits old p root g es → HasUnits new p root h fs
  units_kept {root} was = record {
    clusters = λ n lt begins. subst (IsCluster (cluster_count p.version (range_with p.ranges n) n))
        (sym (block_same n (omega (arith, lt)))) (was.clusters n lt begins);
    pages = λ n le lt. subst IsSummed (sym (block_same n lt)) (was.pages n le lt);
    root_is = ap root_of list_kept ∙ was.root_is;
  }

-- units whose blocks are read from the same sectors
units_as : (image : Image) (p : Plan) (g h : ℕ) (es fs : List Entry) →
    ((n : ℕ) → n < count_of p → begins_unit p n ≡ true → frame_sector p g es n ≡ frame_sector p h fs n) →
    units_in image p g es ≡ units_in image p h fs
units_as image p g h es fs same =
    same_units_by (begins_unit p) (count_of p) (unit_in image p g es) (unit_in image p h fs)
    (λ n lt begins. ap (unit_from image p n) (same n lt begins))

-- ---- a state whose units are in slots, or at home where those of an earlier state are

-- a page's block has sums
summed_page : (p : Plan) (n : ℕ) (bytes : List ℕ) → (row p.version).sealed ≡ true → p.geometry.nodes ≤ n → IfSummed (shape_of p n) bytes →
    IsSummed bytes
summed_page p n bytes sealed le is =
    let has : (shape_of p n).has_sums ≡ true = ap (λ (b : Bool). (if b then node_shape p.version
    (rank_in p.version (range_with p.ranges n) n) else page_shape p.version).has_sums) (le-ltb n p.geometry.nodes le) ∙ sealed in
    subst (λ (b : Bool). IsSummedIf b bytes) has is

module _ {image : Image} {p : Plan} {root : Sums} {g : ℕ} {es : List Entry} (was : HasUnits image p root g es) (none : length es ≡ 0) where
  was_home : (n : ℕ) → frame_sector p g es n ≡ home_place p n
  was_home n = block_home p g es n (no_entries p es n none)

  -- its root is that of all units at home
  pub home_root : (h : ℕ) → root ≡ root_of (units_in image p h [])
  home_root h = sym was.root_is ∙ ap root_of (units_as image p g h es [] (λ n lt begins.
      was_home n ∙ sym (block_home p h [] n (no_entries p [] n refl))))

  module _ (h : ℕ) (fs : List Entry) (sealed : (row p.version).sealed ≡ true)
      (clusters : (n s : ℕ) → n < p.geometry.nodes → IsTrue (begins_unit p n) → slot_beside p fs n ≡ Some s →
      IsCluster (cluster_count p.version (range_with p.ranges n) n) (sectors_from image (slot_sector p h s) 8))
      (pages : (n s : ℕ) → p.geometry.nodes ≤ n → n < count_of p → slot_beside p fs n ≡ Some s → IsSlotSummed image p h s n) where
    still_home : (n : ℕ) → slot_beside p fs n ≡ None → frame_sector p h fs n ≡ frame_sector p g es n
    still_home n beside = block_home p h fs n (sealed_frame_slot p fs n sealed ∙ beside) ∙ sym (was_home n)

    in_slot : (n : ℕ) {s : ℕ} → slot_beside p fs n ≡ Some s → frame_sector p h fs n ≡ slot_sector p h s
    in_slot n beside = block_slot p h fs n (sealed_frame_slot p fs n sealed ∙ beside)

    cluster_next : (n : ℕ) → n < p.geometry.nodes → IsTrue (begins_unit p n) → (o : Option ℕ) → slot_beside p fs n ≡ o →
        IsCluster (cluster_count p.version (range_with p.ranges n) n) (block_in image p h fs n)
    cluster_next n less begins None beside =
        subst (λ (k : ℕ). IsCluster (cluster_count p.version (range_with p.ranges n) n) (sectors_from image k (place_length p n)))
        (sym (still_home n beside)) (was.clusters n less begins)
    cluster_next n less begins (Some s) beside =
        subst (λ (k : ℕ). IsCluster (cluster_count p.version (range_with p.ranges n) n) (sectors_from image k (place_length p n)))
        (sym (in_slot n beside))
        (subst (λ (m : ℕ). IsCluster (cluster_count p.version (range_with p.ranges n) n) (sectors_from image (slot_sector p h s) m))
        (sym (cluster_length p n sealed less)) (clusters n s less begins beside))

    page_next : (n : ℕ) → p.geometry.nodes ≤ n → n < count_of p → (o : Option ℕ) → slot_beside p fs n ≡ o →
        IsSummed (block_in image p h fs n)
    page_next n le lt None beside =
        subst (λ (k : ℕ). IsSummed (sectors_from image k (place_length p n))) (sym (still_home n beside)) (was.pages n le lt)
    page_next n le lt (Some s) beside =
        subst (λ (k : ℕ). IsSummed (sectors_from image k (place_length p n))) (sym (in_slot n beside))
        (summed_page p n (sectors_from image (slot_sector p h s) (place_length p n)) sealed le (pages n s le lt beside))

    pub next_units : {next : Sums} → next ≡ root_of (units_in image p h fs) → HasUnits image p next h fs
    next_units is = record {
      clusters = λ n less begins. cluster_next n less begins (slot_beside p fs n) refl;
      pages = λ n le lt. page_next n le lt (slot_beside p fs n) refl;
      root_is = sym is;
    }

-- ---- one more entry

or_none : (x : Option ℕ) → or_beside x None ≡ x
or_none None = refl
or_none (Some s) = refl

or_some : (x y : Option ℕ) → (x ≡ None → ⊥) → or_beside x y ≡ x
or_some None y some = absurd (some refl)
or_some (Some s) y some = refl

or_if : (b : Bool) (s : ℕ) (x y z : Option ℕ) → x ≡ or_beside y z → (if b then Some s else x) ≡ or_beside (if b then Some s else y) z
or_if true s x y z is = refl
or_if false s x y z is = is

slot_more : (p : Plan) (es : List Entry) (n i : ℕ) → i < length es →
    slot_beside p (take (suc i) es) n ≡ or_beside (slot_beside p (take i es) n) (slot_beside p (entry_at es i ∷ []) n)
slot_more p [] n i lt = absurd (omega (arith, lt))
slot_more p (e ∷ es) n zero lt = refl
slot_more p (e ∷ es) n (suc i) lt =
    or_if (home_place p e.object == home_place p n) e.slot (slot_beside p (take (suc i) es) n) (slot_beside p (take i es) n)
    (slot_beside p (entry_at es i ∷ []) n) (slot_more p es n i (omega (arith, lt)))

taken : (es : List Entry) (i j : ℕ) → j < i → entry_at (take i es) j ≡ entry_at es j
taken es i j lt = get_or-take i es j (record { object = 0; slot = 0 }) lt

module _ (image : Image) (p : Plan) (g : ℕ) (es : List Entry) (i : ℕ) (within : i < length es) (sealed : (row p.version).sealed ≡ true)
  where
    abbrev e : Entry
    e = entry_at es i

    abbrev before : List Entry
    before = take i es

    abbrev after : List Entry
    after = take (i + 1) es

    size : length before ≡ i
    size = length-take-le i es (omega (arith, within))

    more : (n : ℕ) → slot_beside p after n ≡ or_beside (slot_beside p before n) (slot_beside p (e ∷ []) n)
    more n =
        let next : i + 1 ≡ suc i = omega arith in
        ap (λ (k : ℕ). slot_beside p (take k es) n) next ∙ slot_more p es n i within

    sector_kept : (n : ℕ) → slot_beside p after n ≡ slot_beside p before n → frame_sector p g before n ≡ frame_sector p g after n
    sector_kept n same = ap (λ (o : Option ℕ). sector_or o (slot_sector p g) (home_place p n))
        (sealed_frame_slot p before n sealed ∙ sym same ∙ sym (sealed_frame_slot p after n sealed))

    -- an object with another home is read where it was
    other_kept : (n : ℕ) → (home_place p e.object ≡ home_place p n → ⊥) → frame_sector p g before n ≡ frame_sector p g after n
    other_kept n other = sector_kept n (more n ∙ ap (or_beside (slot_beside p before n)) (beside_behind p e [] n other)
        ∙ or_none (slot_beside p before n))

    module _ (follows : (0 < i) × (home_place p (entry_at es (i - 1)).object ≡ home_place p (entry_at es i).object)) where
      last : i - 1 < i
      last = omega (arith, follows.0)

      same_kept : (n : ℕ) → home_place p e.object ≡ home_place p n → slot_beside p before n ≡ None → ⊥
      same_kept n same = some_beside p before n (i - 1) (omega (arith, last, size))
          (ap (λ (x : Entry). home_place p x.object) (taken es i (i - 1) last) ∙ follows.1 ∙ same)

      passed_kept : (n : ℕ) → frame_sector p g before n ≡ frame_sector p g after n
      passed_kept n = elim (cases_eq (home_place p e.object) (home_place p n)) [
        | inl same ↦ sector_kept n (more n ∙ or_some (slot_beside p before n) (slot_beside p (e ∷ []) n) (same_kept n same))
        | inr other ↦ other_kept n other
      ]

      -- if the entry before has the same home, nothing changes
      pub root_passed : {root : Sums} → root ≡ root_of (units_in image p g (take i es)) →
          root ≡ root_of (units_in image p g (take (i + 1) es))
      root_passed was = was ∙ ap root_of (units_as image p g g before after (λ n lt begins. passed_kept n))

    -- if the entry is the first of its home, the unit there gets its new seal
    module _ (fits : IsPlan p) (is : IsDirectory p.geometry es) (first : IsFirst p es i) {m : ℕ} (start : IsFirstOf p e.object m) where
      object : IsObject p.geometry e.object
      object = (is.each i (record { object = 0; slot = 0 }) within).object

      begins : IsTrue (begins_unit p m)
      begins = first_begins fits object start

      unit_object : IsObject p.geometry m
      unit_object = omega (arith, object, start.below)

      none_before : slot_beside p before m ≡ None
      none_before = none_beside p before m (λ j lt same.
          let less : j < i = omega (arith, lt, size) in
          first j less (ap (λ (x : Entry). home_place p x.object) (sym (taken es i j less)) ∙ same ∙ start.home))

      slot_after : slot_beside p after m ≡ Some e.slot
      slot_after = more m ∙ ap (λ (o : Option ℕ). or_beside o (slot_beside p (e ∷ []) m)) none_before
          ∙ beside_here p e [] m (sym start.home)

      old_seal : seal_in (unit_at image p m (home_place p m)) ≡ (unit_in image p g before m).seal
      old_seal = ap (λ (k : ℕ). seal_in (unit_at image p m k))
          (sym (block_home p g before m (sealed_frame_slot p before m sealed ∙ none_before)))
          ∙ unit_seal_is image p g before m

      new_seal : {at : ℕ} → at ≡ slot_sector p g e.slot → seal_in (unit_at image p m at) ≡ (unit_in image p g after m).seal
      new_seal place = ap (λ (k : ℕ). seal_in (unit_at image p m k))
          (place ∙ sym (block_slot p g after m (sealed_frame_slot p after m sealed ∙ slot_after))) ∙ unit_seal_is image p g after m

      pub root_replaced : {at : ℕ} {root new : Sums} → at ≡ slot_sector p g e.slot → root ≡ root_of (units_in image p g (take i es)) →
          IsRootWith m (seal_in (unit_at image p m (home_place p m))) (seal_in (unit_at image p m at)) root new →
          new ≡ root_of (units_in image p g (take (i + 1) es))
      root_replaced {at} {root} {new} place was step =
          replaced_one (begins_unit p) (count_of p) (unit_in image p g before) (unit_in image p g after) m root new unit_object begins
          refl refl
          (λ n other lt begun. ap (unit_from image p n) (other_kept n (λ same.
          other (one_begins fits lt unit_object begun begins (sym same ∙ sym start.home))))) was
          (same_step m (seal_in (unit_at image p m (home_place p m))) (seal_in (unit_at image p m at)) (unit_in image p g before m).seal
          (unit_in image p g after m).seal root new old_seal (new_seal place) step)

-- after all entries, the root is that of their state
pub root_all : (image : Image) (p : Plan) (g : ℕ) (es : List Entry) (i : ℕ) (root : Sums) → length es ≤ i →
    root ≡ root_of (units_in image p g (take i es)) → root ≡ root_of (units_in image p g es)
root_all image p g es i root all is = is ∙ ap (λ (fs : List Entry). root_of (units_in image p g fs)) (take_all i es all)
