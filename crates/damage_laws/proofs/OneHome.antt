-- The blocks of two units lie apart.
use Rattle.damage_laws.proofs.Names.{ℕ, Bool, true, List, Option, None, Some, ap, refl, subst, sym, inl, inr, arith, IsTrue, cases_eq, cases_lt, le-ltb, lt-ltb}
use Rattle.damage_laws.proofs.Names.{nat_tests, IsDirectory, entry_at, home_place, place_in, place_length, range_with, rank_in, frame_slot_in, half_sector}
use Rattle.damage_laws.proofs.Names.{sector_or, slot_sector, count_of, IsApart, IsInside, IsPlan, Plan, half_extent, row, Entry, Extent, HomeRange, Version}
use Rattle.damage_laws.proofs.Names.{begins_unit, apart_inside, apart_turned, itself, home_extent, frame_slot_entry, one_range, places_apart, places_spare_log}
use Rattle.damage_laws.proofs.Names.{range_at, place_extent, slot_extent, frames_in_slots, slots_apart, slots_inside}
use Rattle.std.proofs.Common.{◌≡◌, ◌+◌, ◌-◌, ◌*◌, ◌/◌, ◌%◌, ◌<◌, ◌≤◌, ◌∙◌}
use Rattle.std.specs.Prelude.{◌==◌, if◌then◌else◌}
use Rattle.damage_laws.proofs.Apart.{block_extent, slot_inside}
use Rattle.damage_laws.proofs.Places.{is_three}

-- ---- two units with one home

is_zero : (n : ℕ) → (n == 0) ≡ true → n ≡ 0
is_zero n is = grind (arith, nat_tests)

module _ (p : Plan) (sealed : (row p.version).sealed ≡ true) where
  -- a node that begins a unit is the first of its cluster
  first_rank : (a : ℕ) (r : HomeRange) → a < p.geometry.nodes → range_with p.ranges a ≡ Some r → IsTrue (begins_unit p a) →
      (a - r.first) % 5 ≡ 0
  first_rank a r lt is begins =
      let five : (row p.version).cluster_nodes ≡ 5 = ap (λ (v : Version). (row v).cluster_nodes) (is_three p.version sealed) in
      let rank : ℕ = rank_in p.version (range_with p.ranges a) a in
      let node : (rank == 0) ≡ true = sym (ap (λ (b : Bool). if b then rank == 0 else true) (lt-ltb a p.geometry.nodes lt)) ∙ begins in
      ap (λ (c : ℕ). (a - r.first) % c) (sym five) ∙ ap (λ (it : Option HomeRange). rank_in p.version it a) (sym is)
      ∙ is_zero rank node

  node_place : (a : ℕ) (r : HomeRange) → a < p.geometry.nodes → place_in p.version p.geometry r a ≡ r.sector + 8 * ((a - r.first) / 5)
  node_place a r lt =
      ap (λ (b : Bool). r.sector + (if b then (row p.version).cluster_sectors * ((a - r.first) / (row p.version).cluster_nodes)
      else 9 * (a - r.first))) (lt-ltb a p.geometry.nodes lt)
      ∙ ap (λ (v : Version). r.sector + (row v).cluster_sectors * ((a - r.first) / (row v).cluster_nodes)) (is_three p.version sealed)

  page_place : (a : ℕ) (r : HomeRange) → p.geometry.nodes ≤ a → place_in p.version p.geometry r a ≡ r.sector + 9 * (a - r.first)
  page_place a r le =
      ap (λ (b : Bool). r.sector + (if b then (row p.version).cluster_sectors * ((a - r.first) / (row p.version).cluster_nodes)
      else 9 * (a - r.first))) (le-ltb a p.geometry.nodes le)

  -- units with one home are one
  pub one_unit : (a b : ℕ) → IsPlan p → a < count_of p → b < count_of p → IsTrue (begins_unit p a) → IsTrue (begins_unit p b) →
      home_place p a ≡ home_place p b → a ≡ b
  one_unit a b fits lt_a lt_b begins_a begins_b same =
      let both = one_range fits lt_a lt_b same in
      let r : HomeRange = range_at p.ranges both.0 in
      let is_a = both.1.one in
      let is_b = both.1.other in
      elim is_a.has.kind [
        | inl nodes ↦
            let below_a : a < p.geometry.nodes = omega (arith, nodes, is_a.has.high) in
            let below_b : b < p.geometry.nodes = omega (arith, nodes, is_b.has.high) in
            omega (
              arith,
              is_a.has.low,
              is_b.has.low,
              first_rank a r below_a is_a.found begins_a,
              first_rank b r below_b is_b.found begins_b,
              node_place a r below_a,
              node_place b r below_b,
              both.1.place,
            )
        | inr pages ↦
            omega (
              arith,
              is_a.has.low,
              is_b.has.low,
              page_place a r (omega (arith, pages, is_a.has.low)),
              page_place b r (omega (arith, pages, is_b.has.low)),
              both.1.place,
            )
      ]

-- ---- the blocks of two units

inside_inside : (d e f : Extent) → IsInside d e → IsInside e f → IsInside d f
inside_inside d e f inner outer = record {
  starts = omega (arith, inner.starts, outer.starts);
  ends = omega (arith, inner.ends, outer.ends);
}

module _ (p : Plan) (generation : ℕ) (es : List Entry) (fits : IsPlan p) (directory : IsDirectory p.geometry es)
    (sealed : (row p.version).sealed ≡ true) where
  abbrev Lies : ℕ → Option ℕ → Type 0
  Lies object slot = frame_slot_in p es object ≡ slot

  abbrev extent_by : ℕ → Option ℕ → Extent
  extent_by object slot =
      record { sector = sector_or slot (slot_sector p generation) (home_place p object); length = place_length p object }

  place_inside : (object slot : ℕ) → Lies object (Some slot) →
      IsInside (place_extent p generation slot object) (half_extent p.version p.geometry (half_sector p generation))
  place_inside object slot is =
      inside_inside (place_extent p generation slot object) (slot_extent p generation slot)
      (half_extent p.version p.geometry (half_sector p generation)) (frames_in_slots p generation slot object)
      (slots_inside p generation slot (slot_inside p es object slot directory is))

  home_and_slot : (a b slot : ℕ) → a < count_of p → Lies b (Some slot) → IsApart (extent_by a None) (extent_by b (Some slot))
  home_and_slot a b slot lt is =
      apart_inside (home_extent p a) (place_extent p generation slot b) (home_extent p a)
      (half_extent p.version p.geometry (half_sector p generation)) (itself (home_extent p a)) (place_inside b slot is)
      (places_spare_log p a generation fits lt)

  -- two blocks in one slot have one home
  one_slot : (a b slot : ℕ) → Lies a (Some slot) → Lies b (Some slot) → home_place p a ≡ home_place p b
  one_slot a b slot is_a is_b =
      let first = frame_slot_entry p es a slot is_a in
      let second = frame_slot_entry p es b slot is_b in
      let same : (entry_at es first.index).slot ≡ (entry_at es second.index).slot = first.slot_is ∙ sym second.slot_is in
      elim (cases_lt first.index second.index) [
        | inl before ↦ absurd (directory.apart first.index second.index before second.within same)
        | inr le ↦
            elim (cases_lt second.index first.index) [
              | inl after ↦ absurd (directory.apart second.index first.index after first.within (sym same))
              | inr ge ↦
                  let one : first.index ≡ second.index = omega (arith, le, ge) in
                  sym first.home_is ∙ ap (λ (i : ℕ). home_place p (entry_at es i).object) one ∙ second.home_is
            ]
      ]

  module _ (a b : ℕ) (lt_a : a < count_of p) (lt_b : b < count_of p) (begins_a : IsTrue (begins_unit p a))
      (begins_b : IsTrue (begins_unit p b)) (other : a ≡ b → ⊥) where
    other_home : home_place p a ≡ home_place p b → ⊥
    other_home same = other (one_unit p sealed a b fits lt_a lt_b begins_a begins_b same)

    apart_by : (first second : Option ℕ) → Lies a first → Lies b second → IsApart (extent_by a first) (extent_by b second)
    apart_by None None is_a is_b = places_apart p a b fits lt_a lt_b other_home
    apart_by None (Some t) is_a is_b = home_and_slot a b t lt_a is_b
    apart_by (Some s) None is_a is_b = apart_turned (extent_by b None) (extent_by a (Some s)) (home_and_slot b a s lt_b is_a)
    apart_by (Some s) (Some t) is_a is_b =
        elim (cases_eq s t) [
          | inl same ↦ absurd (other_home (one_slot a b t (subst (λ (n : ℕ). Lies a (Some n)) same is_a) is_b))
          | inr differ ↦
              apart_inside (place_extent p generation s a) (place_extent p generation t b) (slot_extent p generation s)
              (slot_extent p generation t) (frames_in_slots p generation s a) (frames_in_slots p generation t b)
              (slots_apart p generation s t differ)
        ]

    pub units_apart : IsApart (block_extent p generation es a) (block_extent p generation es b)
    units_apart = apart_by (frame_slot_in p es a) (frame_slot_in p es b) refl refl
