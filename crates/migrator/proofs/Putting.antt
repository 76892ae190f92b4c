-- A frame is written into a slot.
use Rattle.migrator.proofs.Names.{nat_tests, ℕ, zero, suc, Option, Some, None, List, [], length, get_or, set, refl, sym, ap, subst, inl, inr, arith, cases_eq}
use Rattle.migrator.proofs.Names.{same_lists, length-set, length-map-range_with_len, get_or-map-range_with_len, Frame, Image, Extent, IsFrameOf, half_sector}
use Rattle.migrator.proofs.Names.{count_of, entry_at, Plan, IsPlan, IsApart, IsInside, half_extent, apart_inside, home_extent, slot_extent, place_extent}
use Rattle.migrator.proofs.Names.{frames_in_slots, slots_apart, Place, Nowhere, Torn, Whole, place_at, slot_of, has_slot, has_frame, tally, taken_count}
use Rattle.migrator.proofs.Names.{whole_count, slot_or, slot_for, IsTable, Put, Absent, Kept, put_at, kept_frame, held_slot, sum_of, kept_count, HasFreeSlot}
use Rattle.migrator.proofs.Names.{IsSlotSummed, slot_bytes, slot_frame, put_of, puts_in, ArePut, most, Books, frozen_generation, generation_after, IsRunning}
use Rattle.migrator.proofs.Names.{IsIntact, Spares, SparesPuts, working_generation, replicate, length-replicate, get_or-replicate, stored_in, freezing_puts}
use Rattle.std.proofs.Common.{◌≡◌, ◌⊎◌, ◌+◌, ◌%◌, ◌<◌, ◌≤◌, ◌∷◌, ◌∙◌}
use Rattle.migrator.proofs.Tables.{some_has, tally-set, table_set, set_here, set_there}
use Rattle.migrator.proofs.Kept.{map_set, nowhere_frozen}
use Rattle.migrator.proofs.PlacesApart.{other_half, home_apart, spares_other, spares_log}

-- ---- how many frames were written

abbrev puts_from : Image → Plan → ℕ → ℕ → List Place → List Put
puts_from image p generation n [] = []
puts_from image p generation n (q ∷ ps) = put_of image p generation n q ∷ puts_from image p generation (n + 1) ps

length_from : (image : Image) (p : Plan) (generation n : ℕ) (ps : List Place) → length (puts_from image p generation n ps) ≡ length ps
length_from image p generation n [] = refl
length_from image p generation n (q ∷ ps) = ap suc (length_from image p generation (n + 1) ps)

from_at : (image : Image) (p : Plan) (generation n i : ℕ) (ps : List Place) (d : Put) → i < length ps →
    get_or (puts_from image p generation n ps) i d ≡ put_of image p generation (n + i) (place_at ps i)
from_at image p generation n i [] d lt = absurd (omega (arith, lt))
from_at image p generation n zero (q ∷ ps) d lt = let same : n + 0 ≡ n = omega arith in
    ap (λ (k : ℕ). put_of image p generation k q) (sym same)
from_at image p generation n (suc i) (q ∷ ps) d lt = grind (
  arith,
  nat_tests,
  generation,
  from_at image p generation (n + 1) i ps d (omega (arith, lt)),
)

puts_are : (image : Image) (p : Plan) (generation : ℕ) (ps : List Place) → length ps ≡ count_of p →
    puts_in image p generation ps ≡ puts_from image p generation 0 ps
unfolding puts_in
puts_are image p generation ps size = grind (
  arith,
  nat_tests,
  same_lists,
  length-map-range_with_len,
  length_from,
  get_or-map-range_with_len,
  from_at,
)

sum_from : (count : Put → ℕ) {has : Place → ℕ} (image : Image) (p : Plan) (generation n : ℕ) (ps : List Place) →
    ((k : ℕ) (q : Place) → count (put_of image p generation k q) ≡ has q) → sum_of count (puts_from image p generation n ps) ≡ tally has ps
unfolding sum_of tally
sum_from count image p generation n [] same = refl
sum_from count {has} image p generation n (q ∷ ps) same = let rest = sum_from count image p generation (n + 1) ps same in
    omega (arith, rest, same n q)

frame_count : (image : Image) (p : Plan) (generation k : ℕ) (q : Place) → kept_frame (put_of image p generation k q) ≡ has_frame q
frame_count image p generation k q = grind (arith, nat_tests)

slot_count : (image : Image) (p : Plan) (generation k : ℕ) (q : Place) → held_slot (put_of image p generation k q) ≡ has_slot q
slot_count image p generation k q = grind (arith, nat_tests)

-- the number of valid frames is the number of places with one
pub kept_whole : (image : Image) (p : Plan) (generation : ℕ) (ps : List Place) → length ps ≡ count_of p →
    kept_count (puts_in image p generation ps) ≡ whole_count ps
kept_whole image p generation ps size = rw (puts_are image p generation ps size)
    (sum_from kept_frame image p generation 0 ps (frame_count image p generation))

pub held_taken : (image : Image) (p : Plan) (generation : ℕ) (ps : List Place) → length ps ≡ count_of p →
    sum_of held_slot (puts_in image p generation ps) ≡ taken_count ps
held_taken image p generation ps size = rw (puts_are image p generation ps size)
    (sum_from held_slot image p generation 0 ps (slot_count image p generation))

pub put_is : (image : Image) (p : Plan) (generation : ℕ) (ps : List Place) {n : ℕ} → n < count_of p →
    put_at (puts_in image p generation ps) n ≡ put_of image p generation n (place_at ps n)
unfolding puts_in
put_is image p generation ps {n} lt = get_or-map-range_with_len (λ n. put_of image p generation n (place_at ps n)) 0 (count_of p) n n Absent
    lt (omega arith)

room_by : (image : Image) (p : Plan) (generation : ℕ) {room : ℕ} (n : ℕ) (q : Place) {taken : ℕ} → taken ≤ room →
    ((s : ℕ) → slot_of q ≡ Some s → s < taken) → ((put_of image p generation n q ≡ Absent → ⊥) ⊎ (taken < room)) →
    slot_or (slot_of q) taken < room
room_by image p generation {room} n q {taken} few in' has = grind (arith, nat_tests)

-- if at most `room` slots are taken, and object n has a slot or one is free, its slot is below `room`
pub slot_room : (image : Image) (p : Plan) (generation : ℕ) {room : ℕ} {ps : List Place} {n : ℕ} → length ps ≡ count_of p → n < count_of p →
    IsTable ps → taken_count ps ≤ room → HasFreeSlot room (puts_in image p generation ps) n → slot_for ps n < room
slot_room image p generation {room} {ps} {n} size lt table few has = grind (arith, nat_tests, room_by, put_is, held_taken)

-- ---- the place of an object is set

few_by : (old : Place) {taken taken' room : ℕ} → taken' + has_slot old ≡ taken + 1 → taken ≤ room → slot_or (slot_of old) taken < room →
    taken' ≤ room
few_by old {taken} {taken'} {room} is few lt = grind (arith, nat_tests)

pub taken_set : (ps : List Place) {n room : ℕ} (q : Place) → n < length ps → slot_of q ≡ Some (slot_for ps n) → taken_count ps ≤ room →
    slot_for ps n < room → taken_count (set ps n q) ≤ room
taken_set ps {n} {room} q lt is few less = grind (arith, nat_tests, tally-set, some_has, few_by)

module _ {image : Image} {p : Plan} {generation : ℕ} {ps : List Place} {n : ℕ} (are : ArePut image p generation ps) (lt : n < count_of p)
    (room : slot_for ps n < p.geometry.log) where
  in_table : n < length ps
  in_table = omega (arith, lt, are.count)

  -- marking the object's slot, or the next free one, as torn keeps the table valid
  pub torn_put : ArePut image p generation (set ps n (Torn (slot_for ps n)))
  torn_put = record {
    count = length-set ps n (Torn (slot_for ps n)) ∙ are.count;
    few = taken_set ps (Torn (slot_for ps n)) in_table refl are.few room;
    table = table_set (Torn (slot_for ps n)) are.table in_table refl;
    spelt = λ m s within is. elim (cases_eq m n) [
      | inl same ↦ let never : Torn (slot_for ps n) ≡ Whole s = sym
          (ap (place_at (set ps n (Torn (slot_for ps n)))) same ∙ set_here ps in_table) ∙ is in absurd cc
      | inr other ↦ are.spelt m s within (sym (set_there ps (Torn (slot_for ps n)) other) ∙ is)
    ];
    summed = λ m s within is. elim (cases_eq m n) [
      | inl same ↦ let never : Torn (slot_for ps n) ≡ Whole s = sym
          (ap (place_at (set ps n (Torn (slot_for ps n)))) same ∙ set_here ps in_table) ∙ is in absurd cc
      | inr other ↦ are.summed m s within (sym (set_there ps (Torn (slot_for ps n)) other) ∙ is)
    ];
  }

  -- once a valid frame is in the slot, the table with it is valid
  pub whole_put : IsFrameOf p.geometry most n (slot_bytes image p generation (slot_for ps n) n)
      (slot_frame image p generation (slot_for ps n) n) → IsSlotSummed image p generation (slot_for ps n) n →
      ArePut image p generation (set ps n (Whole (slot_for ps n)))
  whole_put spelt summed = record {
    count = length-set ps n (Whole (slot_for ps n)) ∙ are.count;
    few = taken_set ps (Whole (slot_for ps n)) in_table refl are.few room;
    table = table_set (Whole (slot_for ps n)) are.table in_table refl;
    spelt = λ m s within is. elim (cases_eq m n) [
      | inl same ↦
          let here : Whole (slot_for ps n) ≡ Whole s = sym (ap (place_at (set ps n (Whole (slot_for ps n)))) same ∙ set_here ps in_table)
          ∙ is in
          let slot : slot_for ps n ≡ s = cc in
          subst (λ (k : ℕ). IsFrameOf p.geometry most k (slot_bytes image p generation s k) (slot_frame image p generation s k)) (sym same)
          (subst (λ (t : ℕ). IsFrameOf p.geometry most n (slot_bytes image p generation t n) (slot_frame image p generation t n)) slot
          spelt)
      | inr other ↦ are.spelt m s within (sym (set_there ps (Whole (slot_for ps n)) other) ∙ is)
    ];
    summed = λ m s within is. elim (cases_eq m n) [
      | inl same ↦
          let here : Whole (slot_for ps n) ≡ Whole s = sym (ap (place_at (set ps n (Whole (slot_for ps n)))) same ∙ set_here ps in_table)
          ∙ is in
          let slot : slot_for ps n ≡ s = cc in
          subst (λ (k : ℕ). IsSlotSummed image p generation s k) (sym same)
          (subst (λ (t : ℕ). IsSlotSummed image p generation t n) slot summed)
      | inr other ↦ are.summed m s within (sym (set_there ps (Whole (slot_for ps n)) other) ∙ is)
    ];
  }

  pub puts_set : (q : Place) → puts_in image p generation (set ps n q) ≡ set (puts_in image p generation ps) n
      (put_of image p generation n q)
  unfolding puts_in
  puts_set q = grind (arith, nat_tests, map_set, set_here, in_table, set_there)

-- ---- the sectors of a slot

pub other_parity : (g : ℕ) → g % 2 ≡ (g + 1) % 2 → ⊥
other_parity g same = omega (arith, same)

-- while a checkpoint is frozen, working frames are in the other half than frozen ones
pub later_half : (b : Books) {k : ℕ} → b.frozen_size ≡ Some k → working_generation b % 2 ≡ frozen_generation b % 2 → ⊥
later_half b {k} running same = grind (arith, nat_tests)

-- if no checkpoint is frozen, working frames are in the half that the saved generation doesn't use
pub idle_half : (b : Books) → b.frozen_size ≡ None → (g : ℕ) → g % 2 ≡ b.header.generation % 2 → working_generation b % 2 ≡ g % 2 → ⊥
idle_half b none g same is = grind (arith, nat_tests)

-- the slot of an object doesn't overlap the frames in the other slots of its half
pub slots_spare : (p : Plan) (generation : ℕ) {ps : List Place} {n : ℕ} → IsTable ps → n < length ps →
    SparesPuts p generation (set ps n (Torn (slot_for ps n))) (place_extent p generation (slot_for ps n) n)
slots_spare p generation {ps} {n} table lt m s within is = elim (cases_eq m n) [
  | inl same ↦ let never : Torn (slot_for ps n) ≡ Whole s = sym (ap (place_at (set ps n (Torn (slot_for ps n)))) same ∙ set_here ps lt)
      ∙ is in absurd cc
  | inr other ↦
      let table' = table_set (Torn (slot_for ps n)) table lt refl in
      let differ : s ≡ slot_for ps n → ⊥ = λ e. other (table'.apart m n s (ap slot_of is)
      (ap slot_of (set_here ps lt) ∙ ap (λ (k : ℕ). Some k) (sym e))) in
      apart_inside (place_extent p generation s m) (place_extent p generation (slot_for ps n) n) (slot_extent p generation s)
      (slot_extent p generation (slot_for ps n))
      (frames_in_slots p generation s m) (frames_in_slots p generation (slot_for ps n) n)
      (slots_apart p generation s (slot_for ps n) differ)
]

-- the frames in one half don't overlap sectors of the other
pub half_spares : {p : Plan} (a b : ℕ) {ps : List Place} {e : Extent} → IsPlan p → (a % 2 ≡ b % 2 → ⊥) → IsTable ps →
    taken_count ps ≤ p.geometry.log → IsInside e (half_extent p.version p.geometry (half_sector p b)) → SparesPuts p a ps e
half_spares {p} a b {e} fits differ table few inside n s lt is = let less = table.few n s (ap slot_of is) in other_half a b n fits differ
    (omega (arith, less, few)) inside

pub none_spares : (p : Plan) (generation : ℕ) (ps : List Place) (e : Extent) → ((n : ℕ) → place_at ps n ≡ Nowhere) →
    SparesPuts p generation ps e
none_spares p generation ps e none n s lt is = let never : Nowhere ≡ Whole s = sym (none n) ∙ is in absurd cc

-- the saved frames don't overlap the half of the working frames
pub saved_working : {size : ℕ} {image : Image} {b : Books} (o : Option ℕ) {e : Extent} → IsIntact size image b → IsRunning b o →
    IsInside e (half_extent b.plan.version b.plan.geometry (half_sector b.plan (generation_after b.header.generation o))) →
    Spares b.plan b.header b.directory e
saved_working {b} None {e} kept running inside =
    spares_other b.header (b.header.generation + 1) kept.plan kept.directory kept.header.entries (other_parity b.header.generation) inside
saved_working {b} (Some k) {e} kept running inside = spares_log b.header b.directory (b.header.generation + 1 + 1) kept.plan kept.count
    running.0 inside

-- the frozen frames don't overlap the half of the working frames
pub frozen_working : {size : ℕ} {image : Image} {b : Books} (o : Option ℕ) {e : Extent} → IsIntact size image b → IsRunning b o →
    IsInside e (half_extent b.plan.version b.plan.geometry (half_sector b.plan (generation_after b.header.generation o))) →
    SparesPuts b.plan (frozen_generation b) b.frozen e
frozen_working {b} None {e} kept running inside = none_spares b.plan (frozen_generation b) b.frozen e running
frozen_working {b} (Some k) {e} kept running inside =
    half_spares (frozen_generation b) (b.header.generation + 1 + 1) kept.plan (other_parity (b.header.generation + 1)) kept.frozen.table
    kept.frozen.few inside

-- no home overlaps either half of the log
pub homes_spare : {size : ℕ} {image : Image} {b : Books} (generation : ℕ) {e : Extent} → IsIntact size image b →
    IsInside e (half_extent b.plan.version b.plan.geometry (half_sector b.plan generation)) → (i : ℕ) → i < b.moved
    → IsApart (home_extent b.plan (entry_at b.directory i).object) e
homes_spare {b} generation {e} kept inside i lt =
    home_apart generation kept.plan (kept.directory.each i (record { object = 0; slot = 0 })
    (omega (arith, lt, kept.few, kept.count))).object inside

-- ---- a valid frame is in the slot

pub set_twice : {X : Type 0} (xs : List X) (n : ℕ) (x y : X) → set (set xs n x) n y ≡ set xs n y
set_twice [] n x y = refl
set_twice (z ∷ xs) zero x y = refl
set_twice {X = X} (z ∷ xs) (suc n) x y = ap (λ (r : List X). z ∷ r) (set_twice xs n x y)

-- facts if the slot of an object was torn and now contains a valid frame
module _ {image : Image} {p : Plan} {generation : ℕ} (ps : List Place) (n s : ℕ) (are : ArePut image p generation (set ps n (Torn s)))
    (lt : n < count_of p)
  where
    in_list : n < length ps
    in_list = omega (arith, lt, are.count, length-set ps n (Torn s))

    here : place_at (set ps n (Torn s)) n ≡ Torn s
    here = set_here ps in_list

    slot_here : slot_for (set ps n (Torn s)) n ≡ s
    slot_here = ap (λ (q : Place). slot_or (slot_of q) (taken_count (set ps n (Torn s)))) here

    slot_low : slot_for (set ps n (Torn s)) n < p.geometry.log
    slot_low = let less = are.table.few n s (ap slot_of here) in omega (arith, less, are.few, slot_here)

    pub mended : IsFrameOf p.geometry most n (slot_bytes image p generation s n) (slot_frame image p generation s n) →
        IsSlotSummed image p generation s n → ArePut image p generation (set ps n (Whole s))
    mended spelt summed = grind (arith, nat_tests, set_twice, slot_here, whole_put, slot_low)

    pub puts_mended : {f : Frame} → slot_frame image p generation s n ≡ f →
        puts_in image p generation (set ps n (Whole s)) ≡ set (puts_in image p generation (set ps n (Torn s))) n (Kept f)
    puts_mended {f} is = grind (arith, nat_tests, set_twice, puts_set, slot_low)

-- ---- the working frames are frozen

pub length_puts : (image : Image) (p : Plan) (generation : ℕ) (ps : List Place) → length (puts_in image p generation ps) ≡ count_of p
unfolding puts_in
length_puts image p generation ps = length-map-range_with_len (λ n. put_of image p generation n (place_at ps n)) 0 (count_of p)

-- if no object has a place, no frame was written
pub puts_blank : (image : Image) (p : Plan) (generation : ℕ) {m : ℕ} (ps : List Place) → ((n : ℕ) → place_at ps n ≡ Nowhere) →
    m ≡ count_of p → puts_in image p generation ps ≡ replicate m Absent
unfolding puts_in
puts_blank image p generation {m} ps none size =
    grind (arith, nat_tests, same_lists, length-map-range_with_len, length-replicate, get_or-map-range_with_len, get_or-replicate)

pub blank_put : {image : Image} {p : Plan} {a b : ℕ} {ps : List Place} → ArePut image p a ps → ((n : ℕ) → place_at ps n ≡ Nowhere) →
    ArePut image p b ps
blank_put {image} {p} {a} {b} {ps} are none = grind (arith, nat_tests)

abbrev pub frozen_books : Books → ℕ → Books
frozen_books b k = record b { frozen = b.working; frozen_size = Some k; working = b.frozen }

module _ (size : ℕ) (image : Image) (b : Books) (k : ℕ) (none : b.frozen_size ≡ None) (kept : IsIntact size image b) where
  generation : working_generation b ≡ frozen_generation b
  generation = ap (generation_after b.header.generation) none

  pub freeze_kept : b.header.entries ≡ 0 → sum_of held_slot (puts_in image b.plan (working_generation b) b.working) ≤ k →
      k ≤ b.plan.geometry.log → IsIntact size image (frozen_books b k)
  freeze_kept home enough few = grind (arith, nat_tests, held_taken, generation, blank_put, nowhere_frozen)

  pub freeze_stored : stored_in image (frozen_books b k) ≡ freezing_puts k (stored_in image b)
  freeze_stored = grind (arith, nat_tests, puts_blank, generation, nowhere_frozen, length_puts)
