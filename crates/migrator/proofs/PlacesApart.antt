-- Frames that don't overlap, and writes outside them.
use Rattle.migrator.proofs.Names.{ℕ, zero, suc, Bool, true, false, not, nat_eq, Option, Some, None, List, [], length, refl, sym, ap, subst, inl, inr, arith}
use Rattle.migrator.proofs.Names.{cases_eq, cases_lt, eq-eqb, Entry, IsDirectory, AreRising, entry_at, home_place, shape_of, slot_in, slot_beside}
use Rattle.migrator.proofs.Names.{frame_slot_in, count_of, Plan, IsPlan, found_slot, rising_to, IsWhole, IsFirstOf, beside_behind, beside_here, row}
use Rattle.migrator.proofs.Names.{sealed_frame_slot, beside_frame_slot, own_frame_slot, same_Some, frame_slot_entry, home_between, IsFirst, Image, Extent}
use Rattle.migrator.proofs.Names.{CheckpointHeader, place_length, bytes_at, frame_in, slot_sector, half_sector, sector_or, IsApart, IsInside, half_extent}
use Rattle.migrator.proofs.Names.{itself, apart_inside, apart_turned, home_extent, places_within, places_apart, places_spare_log, place_extent}
use Rattle.migrator.proofs.Names.{directory_extent, slots_inside, frames_in_slots, directories_inside, halves_apart, HomesAreBehind, slot_bytes, frame_extent}
use Rattle.migrator.proofs.Names.{Spares, ⊎_elim, Frame, Disk, Elsewhere, IsTorn, LeavesOnly, elsewhere_same, elsewhere_on, leaves_weaker, leaves_on, Encodes}
use Rattle.migrator.proofs.Names.{state_in, same_shaped, read_same, ReadsOnly, WritesAt, SameFrom, SameWhereRead, same_saved, LeavesState, SparesFrames}
use Rattle.migrator.proofs.Names.{Touches, nat_le, nat_lt, nat_tests, image_of, Elapses, agrees_is, Geometry, Shape, IsFrameOf, frame_from, shape_bytes}
use Rattle.migrator.proofs.Names.{one_frame, most, Unwritten, mended, unwritten_of, IsSpeltIn, directory_length, same_sectors, no_sectors, IfSummed}
use Rattle.migrator.proofs.Names.{sectors_from, places_begin, EncodesBy, SealedHeader, first_some, half_behind, opening_stays, same_header}
use Rattle.std.proofs.Common.{◌≡◌, ◌-◌, ◌<◌, ◌≤◌, ◌∷◌, ◌∙◌, ◌%◌, ◌+◌}
use Rattle.std.specs.Prelude.{if◌then◌else◌, ◌&&◌}

-- ---- the first entry whose object shares a home with object n

pub none_beside : (p : Plan) (es : List Entry) (n : ℕ) → ((i : ℕ) → i < length es → home_place p (entry_at es i).object ≡ home_place p n →
    ⊥) → slot_beside p es n ≡ None
none_beside p [] n none = refl
none_beside p (e ∷ es) n none = beside_behind p e es n (none 0 (omega arith))
    ∙ none_beside p es n (λ i lt. none (suc i) (omega (arith, lt)))

pub beside_at : (p : Plan) (es : List Entry) (n i : ℕ) → i < length es → ((j : ℕ) → j < i →
    home_place p (entry_at es j).object ≡ home_place p n → ⊥) → home_place p (entry_at es i).object ≡ home_place p n
    → slot_beside p es n ≡ Some (entry_at es i).slot
beside_at p [] n i lt before is = absurd (omega (arith, lt))
beside_at p (e ∷ es) n zero lt before is = beside_here p e es n is
beside_at p (e ∷ es) n (suc i) lt before is = beside_behind p e es n (before 0 (omega arith)) ∙
    beside_at p es n i (omega (arith, lt)) (λ j less. before (suc j) (omega (arith, less))) is

-- an entry has this slot, shares the home of n, and is the first that does
pub record HasFirst (p : Plan) (es : List Entry) (n slot : ℕ) : Type 0 where
  pub index : ℕ
  pub within : index < length es
  pub home_is : home_place p (entry_at es index).object ≡ home_place p n
  pub slot_is : (entry_at es index).slot ≡ slot
  pub before : (j : ℕ) → j < index → home_place p (entry_at es j).object ≡ home_place p n → ⊥

pub found_first : (p : Plan) (es : List Entry) (n s : ℕ) → slot_beside p es n ≡ Some s → HasFirst p es n s
found_first p [] n s is = absurd cc
found_first p (e ∷ es) n s is = elim (cases_eq (home_place p e.object) (home_place p n)) [
  | inl same ↦ record {
    index = 0;
    within = omega arith;
    home_is = same;
    slot_is = same_Some _ _ (sym (beside_here p e es n same) ∙ is);
    before = λ j lt. absurd (omega (arith, lt));
  }
  | inr other ↦
      let rest = found_first p es n s (sym (beside_behind p e es n other) ∙ is) in
      record {
        index = suc rest.index;
        within = omega (arith, rest.within);
        home_is = rest.home_is;
        slot_is = rest.slot_is;
        before = behind e es rest.index other rest.before;
      }
] where
  behind : (e : Entry) (es : List Entry) (k : ℕ) → (home_place p e.object ≡ home_place p n → ⊥) →
      ((j : ℕ) → j < k → home_place p (entry_at es j).object ≡ home_place p n → ⊥)
      → (j : ℕ) → j < suc k → home_place p (entry_at (e ∷ es) j).object ≡ home_place p n → ⊥
  behind e es k other before zero lt same = other same
  behind e es k other before (suc j) lt same = before j (omega (arith, lt)) same

-- if an entry shares an object's home, `slot_beside` finds a slot
pub some_beside : (p : Plan) (es : List Entry) (n i : ℕ) → i < length es → home_place p (entry_at es i).object ≡ home_place p n →
    slot_beside p es n ≡ None → ⊥
some_beside p [] n i lt is none = omega (arith, lt)
some_beside p (e ∷ es) n zero lt is none = let never : None ≡ Some e.slot = sym none ∙ beside_here p e es n is in cc
some_beside p (e ∷ es) n (suc i) lt is none = elim (cases_eq (home_place p e.object) (home_place p n)) [
  | inl same ↦ let never : None ≡ Some e.slot = sym none ∙ beside_here p e es n same in cc
  | inr other ↦ some_beside p es n i (omega (arith, lt)) is (sym (beside_behind p e es n other) ∙ none)
]

-- a page's frame fills its block
pub page_own : (p : Plan) {n : ℕ} → p.geometry.nodes ≤ n → IsWhole (shape_of p n)
page_own p {n} le = grind (arith, nat_tests)

-- without entries no object has a slot
pub no_entries : (p : Plan) (es : List Entry) (n : ℕ) → length es ≡ 0 → frame_slot_in p es n ≡ None
no_entries p [] n size = beside_frame_slot p [] n refl
no_entries p (e ∷ es) n size = absurd (omega (arith, size))

-- an object without a frame slot shares no home with an object that has an entry
pub frame_slots_differ : (p : Plan) (es : List Entry) (n m : ℕ) {t : ℕ} → slot_in es m ≡ Some t → frame_slot_in p es n ≡ None →
    home_place p n ≡ home_place p m → ⊥
frame_slots_differ p es n m {t} has none same =
    let entry = found_slot es m t has in
    some_beside p es n entry.index entry.within (ap (home_place p) entry.object_is ∙ sym same)
    (beside_none (row p.version).sealed refl (slot_in es n) refl) where
      beside_none : (sealed : Bool) → (row p.version).sealed ≡ sealed → (o : Option ℕ) → slot_in es n ≡ o → slot_beside p es n ≡ None
      beside_none true is_sealed o is = sym (sealed_frame_slot p es n is_sealed) ∙ none
      beside_none false unsealed None is = sym (beside_frame_slot p es n is) ∙ none
      beside_none false unsealed (Some s) is = let never : None ≡ Some s = sym none ∙ own_frame_slot p es n unsealed is in absurd cc

-- a frame's slot is one of the log's
pub frame_slot_fits : (p : Plan) {es : List Entry} (n : ℕ) {s : ℕ} → IsDirectory p.geometry es → frame_slot_in p es n ≡ Some s →
    s < p.geometry.log
frame_slot_fits p {es} n {s} is frame_slot =
    omega (
      arith,
      (is.each (frame_slot_entry p es n s frame_slot).index (record { object = 0; slot = 0 })
          (frame_slot_entry p es n s frame_slot).within).slot,
      (frame_slot_entry p es n s frame_slot).slot_is,
    )

-- ---- the first entry of a home

not_above : (es : List Entry) {a b : ℕ} → AreRising es → a ≤ b → b < length es → (entry_at es a).object ≤ (entry_at es b).object
not_above es {a} {b} rising le within = search (arith, cases_lt, rising_to)

pub not_same : {a b : ℕ} → not (nat_eq a b) ≡ true → a ≡ b → ⊥
not_same {a} {b} differs same = let never : false ≡ true = ap not (sym (eq-eqb a b same)) ∙ differs in cc

-- if the entry before has another home, an entry is the first of its home
pub first_of : {p : Plan} {es : List Entry} {i : ℕ} → IsPlan p → IsDirectory p.geometry es → i < length es →
    (0 < i → home_place p (entry_at es (i - 1)).object ≡ home_place p (entry_at es i).object → ⊥) → IsFirst p es i
first_of {p} {es} {i} fits is within other j less same =
    let last : i - 1 < length es = omega (arith, within) in
    let before : j < length es = omega (arith, less, within) in
    let low : (entry_at es j).object ≤ (entry_at es (i - 1)).object = not_above es is.rising (omega (arith, less)) last in
    let high : (entry_at es (i - 1)).object ≤ (entry_at es i).object = not_above es is.rising (omega arith) within in
    let object : (k : ℕ) → k < length es → (entry_at es k).object < count_of p =
    λ k lt. (is.each k (record { object = 0; slot = 0 }) lt).object in
    other (omega (arith, less)) (home_between fits (object i within) (object j before) low high (sym same) ∙ same)

-- ---- the search from the first number of a cluster

module _ (p : Plan) (es : List Entry) (n first at : ℕ) (fits : IsPlan p) (is : IsDirectory p.geometry es) (lt : n < count_of p)
    (start : IsFirstOf p n first)
    (below : (i : ℕ) → i < at → (entry_at es i).object < first) (from : (i : ℕ) → at ≤ i → i < length es → first ≤ (entry_at es i).object)
  where
    object : (i : ℕ) → i < length es → (entry_at es i).object < count_of p
    object i within = (is.each i (record { object = 0; slot = 0 }) within).object

    none_below : (i : ℕ) → i < length es → i < at → home_place p (entry_at es i).object ≡ home_place p n → ⊥
    none_below i within less same = omega (arith, (start.least (entry_at es i).object (object i within) same), (below i less))

    -- if the entry found there shares the home of n, `slot_beside` finds its slot
    pub found_there : at < length es → home_place p (entry_at es at).object ≡ home_place p n →
        slot_beside p es n ≡ Some (entry_at es at).slot
    found_there within same = beside_at p es n at within (λ j less. none_below j (omega (arith, less, within)) less) same

    pub none_there : (at < length es → home_place p (entry_at es at).object ≡ home_place p n → ⊥) → slot_beside p es n ≡ None
    none_there other = none_beside p es n (λ i within same. elim (cases_lt i at) [
      | inl less ↦ none_below i within less same
      | inr le ↦
          let low = from at (omega arith) (omega (arith, le, within)) in
          let same_start : home_place p (entry_at es i).object ≡ home_place p first = same ∙ sym start.home in
          let up : (entry_at es at).object ≤ (entry_at es i).object = not_above es is.rising le within in
          let shared = home_between fits (object i within) (omega (arith, lt, start.below)) low up same_start in
          other (omega (arith, le, within)) (shared ∙ start.home)
    ])

-- ---- where an object's frame is read

pub in_frame_slot : (image : Image) (p : Plan) (generation : ℕ) (es : List Entry) (n : ℕ) {s : ℕ} → frame_slot_in p es n ≡ Some s →
    frame_in image p generation es n ≡ slot_bytes image p generation s n
in_frame_slot image p generation es n is = ap (λ (o : Option ℕ). bytes_at image (sector_or o (slot_sector p generation) (home_place p n)) p
    n) is

pub at_home : (image : Image) (p : Plan) (generation : ℕ) (es : List Entry) (n : ℕ) → frame_slot_in p es n ≡ None →
    frame_in image p generation es n ≡ bytes_at image (home_place p n) p n
at_home image p generation es n is = rw is

apart_by : (o : Option ℕ) (p : Plan) (generation : ℕ) (es : List Entry) (n : ℕ) (e : Extent) → frame_slot_in p es n ≡ o →
    ((s : ℕ) → frame_slot_in p es n ≡ Some s → IsApart (place_extent p generation s n) e)
    → (frame_slot_in p es n ≡ None → IsApart (home_extent p n) e) → IsApart (frame_extent p generation es n) e
apart_by o p generation es n e is slot home = grind (arith, nat_tests)

-- the frame of an object doesn't overlap e if neither its slot nor its home does
pub frame_apart : (p : Plan) (generation : ℕ) (es : List Entry) (n : ℕ) (e : Extent) →
    ((s : ℕ) → frame_slot_in p es n ≡ Some s → IsApart (place_extent p generation s n) e)
    → (frame_slot_in p es n ≡ None → IsApart (home_extent p n) e) → IsApart (frame_extent p generation es n) e
frame_apart p generation es n e slot home = apart_by (frame_slot_in p es n) p generation es n e refl slot home

-- ---- halves and homes

pub place_inside : (p : Plan) (generation : ℕ) {s : ℕ} (n : ℕ) → s < p.geometry.log →
    IsInside (place_extent p generation s n) (half_extent p.version p.geometry (half_sector p generation))
place_inside p generation {s} n lt =
    let frame = frames_in_slots p generation s n in
    let slot = slots_inside p generation s lt in
    record { starts = omega (arith, frame.starts, slot.starts); ends = omega (arith, frame.ends, slot.ends) }

-- a slot in one half doesn't overlap sectors of the other half
pub other_half : {p : Plan} (a b : ℕ) {s : ℕ} (n : ℕ) {e : Extent} → IsPlan p → (a % 2 ≡ b % 2 → ⊥) → s < p.geometry.log →
    IsInside e (half_extent p.version p.geometry (half_sector p b)) → IsApart (place_extent p a s n) e
other_half {p} a b {s} n {e} fits differ lt inside = search (arith, apart_inside, place_inside, halves_apart)

pub home_apart : {p : Plan} (generation : ℕ) {n : ℕ} {e : Extent} → IsPlan p → n < count_of p →
    IsInside e (half_extent p.version p.geometry (half_sector p generation)) → IsApart (home_extent p n) e
home_apart {p} generation {n} {e} fits lt inside = search (arith, apart_inside, home_extent, itself, places_spare_log)

-- the saved frames don't overlap the other half
pub spares_other : {p : Plan} (h : CheckpointHeader) {es : List Entry} (generation : ℕ) {e : Extent} → IsPlan p →
    IsDirectory p.geometry es → h.entries ≤ p.geometry.log → (h.generation % 2 ≡ generation % 2 → ⊥) →
    IsInside e (half_extent p.version p.geometry (half_sector p generation)) → Spares p h es e
spares_other {p} h {es} generation {e} fits is few differ inside = record {
  headers = let half = half_behind p generation fits in omega (arith, half, inside.starts);
  directory = inr (apart_inside (directory_extent p h.generation h.entries) e
      (half_extent p.version p.geometry (half_sector p h.generation))
      (half_extent p.version p.geometry (half_sector p generation))
      (directories_inside p h.generation h.entries few) inside (halves_apart p h.generation generation fits differ));
  frames = λ n lt. frame_apart p h.generation es n e (λ s slot. other_half h.generation generation n fits differ
      (frame_slot_fits p n is slot) inside)
      (λ _. home_apart generation fits lt inside);
}

-- if all saved frames are home, they overlap neither half
pub spares_log : {p : Plan} (h : CheckpointHeader) (es : List Entry) (generation : ℕ) {e : Extent} → IsPlan p → length es ≡ h.entries →
    h.entries ≡ 0 → IsInside e (half_extent p.version p.geometry (half_sector p generation)) → Spares p h es e
spares_log {p} h es generation {e} fits count none inside = record {
  headers = let half = half_behind p generation fits in omega (arith, half, inside.starts);
  directory = inl none;
  frames = λ n lt. frame_apart p h.generation es n e (λ s slot. let never : None ≡ Some s = sym (no_entries p es n (count ∙ none)) ∙ slot in
      absurd cc)
      (λ _. home_apart generation fits lt inside);
}

-- saved frames don't overlap the home of an object whose frame is in the log
pub spares_home : {p : Plan} {h : CheckpointHeader} {es : List Entry} {m t : ℕ} → IsPlan p → IsDirectory p.geometry es →
    h.entries ≤ p.geometry.log → m < count_of p → slot_in es m ≡ Some t → Spares p h es (home_extent p m)
unfolding directory_length
spares_home {p} {h} {es} {m} {t} fits is few within has =
    search (
      arith,
      places_begin,
      places_within,
      apart_inside,
      home_extent,
      directories_inside,
      itself,
      apart_turned,
      places_spare_log,
      frame_apart,
      frame_slot_fits,
      places_apart,
      frame_slots_differ,
      home_apart,
      place_inside,
    )

-- home frames lie after the headers
pub homes_behind : {p : Plan} → IsPlan p → HomesAreBehind p
homes_behind {p} fits n lt = places_begin p n fits lt

-- ---- writes outside the sectors of a saved state

-- if d and e don't overlap, a change in e keeps the sectors of d
pub stays : {d e : Extent} {old new : Image} → IsApart d e → Elsewhere e.sector e.length old new → SameFrom d.sector d.length old new
stays {d} apart change i lt = ⊎_elim (λ le. change.before (d.sector + i) (omega (arith, le, lt)))
    (λ le. change.after (d.sector + i) (omega (arith, le))) apart

-- if a frame doesn't overlap e, a change in e keeps it
pub bytes_stay : {at : ℕ} (p : Plan) (n : ℕ) {e : Extent} {old new : Image} →
    IsApart (record { sector = at; length = place_length p n }) e → Elsewhere e.sector e.length old new →
    bytes_at new at p n ≡ bytes_at old at p n
bytes_stay {at} p n {e} {old} {new} apart change = same_shaped at (shape_of p n) old new (stays apart change)

-- if a block doesn't overlap e, a change in e keeps its sums
pub sums_stay : {at : ℕ} (p : Plan) (n : ℕ) {e : Extent} {old new : Image} →
    IsApart (record { sector = at; length = place_length p n }) e → Elsewhere e.sector e.length old new →
    IfSummed (shape_of p n) (sectors_from old at (place_length p n)) → IfSummed (shape_of p n) (sectors_from new at (place_length p n))
sums_stay {at} p n {e} {old} {new} apart change =
    subst (IfSummed (shape_of p n)) (sym (same_sectors at (place_length p n) old new (stays apart change)))

pub frame_stays : (p : Plan) (generation : ℕ) (es : List Entry) (e : Extent) {old new : Image} → SparesFrames p generation es e →
    Elsewhere e.sector e.length old new → (n : ℕ) → n < count_of p → frame_in new p generation es n ≡ frame_in old p generation es n
frame_stays p generation es e {old} {new} spares change n lt = bytes_stay p n (spares n lt) change

pub state_stays : {p : Plan} {h : CheckpointHeader} {es : List Entry} {e : Extent} {old new : Image} → SparesFrames p h.generation es e →
    Elsewhere e.sector e.length old new → state_in new p h es ≡ state_in old p h es
state_stays {p} {h} {es} {e} {old} {new} spares change = search (arith, read_same, frame_stays)

spares_same : {p : Plan} {h : CheckpointHeader} {es : List Entry} {e : Extent} {old new : Image} → Spares p h es e →
    Elsewhere e.sector e.length old new → SameWhereRead p h es old new
spares_same {p} {h} {es} {e} {old} {new} spares change = record {
  headers = opening_stays p.version e.sector e.length old new spares.headers change;
  directory = ⊎_elim (λ none i lt. absurd (omega (arith, lt, ap (directory_length p.version) none ∙ no_sectors p.version)))
      (λ apart. stays apart change) spares.directory;
  frames = λ n lt. stays (spares.frames n lt) change;
}

-- a change outside a saved state's sectors keeps the saved state
pub denotes_on : {p : Plan} {h : CheckpointHeader} {es : List Entry} {fs : List Frame} {e : Extent} {size : ℕ} {old new : Image} →
    Spares p h es e → Elsewhere e.sector e.length old new → Encodes old size (record { plan = p; header = h; directory = es; frames = fs })
    → Encodes new size (record { plan = p; header = h; directory = es; frames = fs })
denotes_on {p} {h} {es} {fs} {e} {size} {old} {new} spares change was =
    same_saved old new size (record { plan = p; header = h; directory = es; frames = fs })
    (λ i lt. let some = first_some p.version in change.before (0 + i) (omega (arith, lt, spares.headers, some)))
    (spares_same spares change) was

-- ---- the same on a device

-- a write changes only its own sectors
pub touches : {at n : ℕ} {old new : Disk} → WritesAt at n old new → Touches at n old new
touches writes = record { size = writes.size; elsewhere = writes.elsewhere; crash = writes.crash; any_moment = writes.any_moment }

whole : (at n : ℕ) (disk : Disk) (c : Image) → disk.may_leave c → IsTorn at n disk c
whole at n disk c left = (c, left, elsewhere_same at n c c (λ i. refl))

-- a read changes no sector
pub reads_touch : {at n : ℕ} {old new : Disk} → ReadsOnly old new → Touches at n old new
reads_touch {at} {n} {old} {new} reads = search (arith, elsewhere_same, whole, leaves_weaker)

module _ {old new : Disk} {p : Plan} {h : CheckpointHeader} {es : List Entry} {e : Extent} (spares : Spares p h es e)
    (writes : Touches e.sector e.length old new) where
  pub state_spared : state_in new.seen p h es ≡ state_in old.seen p h es
  state_spared = state_stays spares.frames writes.elsewhere

  module _ (g : SealedHeader) (sound : LeavesState old (state_in old.seen p h es) g) where
    left_spared : (c : Image) → IsTorn e.sector e.length old c → EncodesBy c old.sectors (state_in old.seen p h es) g
    left_spared c torn =
        let was = sound torn.0 torn.1 in (
          denotes_on spares torn.2 was.0,
          same_header p.version torn.0 c (opening_stays p.version e.sector e.length torn.0 c spares.headers torn.2) g was.1,
        )

    -- after a write outside its sectors, each crash leaves the saved state
    pub sound_spared : LeavesState new (state_in new.seen p h es) g
    sound_spared c left = rw (writes.size, state_spared) (left_spared c (writes.crash c left))

    -- at each moment of such a write, a crash leaves the saved state
    pub moments_spared : LeavesOnly old new (λ c. Encodes c old.sectors (state_in old.seen p h es))
    moments_spared =
        leaves_weaker {old = old} {new = new} {P = λ c. IsTorn e.sector e.length old c}
        (λ c. Encodes c old.sectors (state_in old.seen p h es)) (λ c torn. (left_spared c torn).0) writes.any_moment

-- ---- the sectors of an unwritten cluster, and all others

mended_by : (image : Image) (u : Unwritten) (i : ℕ) {test : Bool} → (nat_le u.sector i && nat_lt i (u.sector + 8)) ≡ test →
    mended image (Some u) i ≡ (if test then image_of u.bytes (i - u.sector) else image i)
mended_by image u i e = ap (λ (b : Bool). if b then image_of u.bytes (i - u.sector) else image i) e

pub mended_here : (image : Image) (u : Unwritten) {i : ℕ} → u.sector ≤ i → i < u.sector + 8 →
    mended image (Some u) i ≡ image_of u.bytes (i - u.sector)
mended_here image u {i} low high = mended_by image u i {test = true} (grind (arith, nat_tests))

mended_before : (image : Image) (u : Unwritten) {i : ℕ} → i < u.sector → mended image (Some u) i ≡ image i
mended_before image u {i} lt = mended_by image u i {test = false} (grind (arith, nat_tests))

mended_behind : (image : Image) (u : Unwritten) {i : ℕ} → u.sector + 8 ≤ i → mended image (Some u) i ≡ image i
mended_behind image u {i} le = mended_by image u i {test = false} (grind (arith, nat_tests))

-- the mended image differs only in the sectors of the unwritten cluster
pub mended_elsewhere : {image : Image} (u : Unwritten) → Elsewhere u.sector 8 image (mended image (Some u))
mended_elsewhere {image} u = record { before = λ i lt. mended_before image u lt; after = λ i le. mended_behind image u le }

-- ---- what the buffer encodes

pub unwritten_bytes : (sector : Option ℕ) {bytes : List ℕ} {u : Unwritten} → unwritten_of sector bytes ≡ Some u → u.bytes ≡ bytes
unwritten_bytes sector {bytes} {u} is = grind (arith, nat_tests)

same_unwritten : {u v : Unwritten} → Some u ≡ Some v → u ≡ v
same_unwritten e = cc

-- a frame read from the buffer is the one that the buffer encodes
pub buffer_read : {g : Geometry} {n : ℕ} {o : Option Unwritten} {u : Unwritten} {shape : Shape} {bytes : List ℕ} {read : Frame} →
    o ≡ Some u → (v : Unwritten) × (o ≡ Some v) × IsSpeltIn v shape g n → bytes ≡ u.bytes →
    IsFrameOf g most n (shape_bytes shape bytes) read
    → read ≡ frame_from g n (shape_bytes shape u.bytes)
buffer_read {g} {n} {u} {shape} {read} some has is found =
    let spelt : IsSpeltIn u shape g n = subst (λ (v : Unwritten). IsSpeltIn v shape g n) (same_unwritten (sym has.1 ∙ some)) has.2 in
    let here = subst (λ (b : List ℕ). IsFrameOf g most n (shape_bytes shape b) read) is found in
    one_frame g most n (shape_bytes shape u.bytes) read (frame_from g n (shape_bytes shape u.bytes)) here spelt.spelt

-- ---- sectors that a write may change

pub elsewhere_within : {at n : ℕ} {e : Extent} {old new : Image} → IsInside (record { sector = at; length = n }) e →
    Elsewhere at n old new → Elsewhere e.sector e.length old new
elsewhere_within {at} {n} {e} {old} {new} inside change = grind (arith, nat_tests)

torn_within : (at n : ℕ) {e : Extent} (disk : Disk) (c : Image) → IsInside (record { sector = at; length = n }) e → IsTorn at n disk c →
    IsTorn e.sector e.length disk c
torn_within at n {e} disk c inside torn = (torn.0, torn.1, elsewhere_within inside torn.2)

-- if the changed sectors lie in e, only sectors of e changed
pub touches_within : {at n : ℕ} {e : Extent} {old new : Disk} → IsInside (record { sector = at; length = n }) e → Touches at n old new →
    Touches e.sector e.length old new
touches_within {at} {n} {e} {old} {new} inside touches = search (arith, touches, elsewhere_within, torn_within, leaves_weaker)

torn_twice : {at n : ℕ} {old mid : Disk} → Touches at n old mid → (c : Image) → IsTorn at n mid c → IsTorn at n old c
torn_twice {at} {n} {old} {mid} touches c torn = search (arith, touches, elsewhere_on)

-- two changes in a row within the same sectors are one such change
pub touches_on : {at n : ℕ} {old mid new : Disk} → Touches at n old mid → Touches at n mid new → Touches at n old new
touches_on {at} {n} {old} {mid} {new} first second = search (arith, elsewhere_on, torn_twice, leaves_on, leaves_weaker)

-- ---- a device with its unwritten cluster added

abbrev pub mended_disk : Disk → Option Unwritten → Disk
mended_disk disk o = record disk { seen = mended disk.seen o }

-- without an unwritten cluster, the mended image is the device's
pub unmended : {image : Image} {o : Option Unwritten} → o ≡ None → mended image o ≡ image
unmended {image} none = ap (mended image) none

pub elsewhere_mended : {at n : ℕ} {old new : Image} (o : Option Unwritten) → Elsewhere at n old new →
    Elsewhere at n (mended old o) (mended new o)
elsewhere_mended None change = change
elsewhere_mended {old} {new} (Some u) change = record {
  before = λ i lt. same i (change.before i lt);
  after = λ i le. same i (change.after i le);
} where
  same : (i : ℕ) → new i ≡ old i → mended new (Some u) i ≡ mended old (Some u) i
  same i is = ap (λ (bytes : List ℕ). if nat_le u.sector i && nat_lt i (u.sector + 8) then image_of u.bytes (i - u.sector) else bytes) is

pub leaves_mended : {old new : Disk} (a b : Option Unwritten) (P : Image → Type 0) → LeavesOnly old new P →
    LeavesOnly (mended_disk old a) (mended_disk new b) P
leaves_mended a b P run = record { later = run.later; each = run.each; before = run.before; keeps = run.keeps }

pub leaves_raw : {old new : Disk} (a b : Option Unwritten) (P : Image → Type 0) → LeavesOnly (mended_disk old a) (mended_disk new b) P →
    LeavesOnly old new P
leaves_raw a b P run = record { later = run.later; each = run.each; before = run.before; keeps = run.keeps }

elapses_mended : {old new : Disk} (o : Option Unwritten) → Elapses old new → Elapses (mended_disk old o) (mended_disk new o)
elapses_mended o time = record { later = time.later; nothing_else = time.nothing_else; keeps = time.keeps }

pub touches_mended : {at n : ℕ} {old new : Disk} (o : Option Unwritten) → Touches at n old new →
    Touches at n (mended_disk old o) (mended_disk new o)
touches_mended {at} {n} {old} {new} o touches = search (
  elsewhere_mended o touches.elsewhere,
  leaves_mended o o (IsTorn at n old) touches.any_moment,
)

pub writes_mended : {at n : ℕ} {old new : Disk} (o : Option Unwritten) → WritesAt at n old new →
    WritesAt at n (mended_disk old o) (mended_disk new o)
writes_mended {at} {n} {old} {new} o writes = search (arith, elsewhere_mended, leaves_mended, elapses_mended)

pub reads_mended : {old new : Disk} (o : Option Unwritten) → ReadsOnly old new → ReadsOnly (mended_disk old o) (mended_disk new o)
reads_mended {old} {new} o reads = search (arith, agrees_is, leaves_mended, elapses_mended)

-- ---- sectors outside the unwritten cluster

-- in the mended image, bytes outside the unwritten cluster are the device's
pub apart_bytes : (image : Image) (u : Unwritten) {at : ℕ} (p : Plan) (n : ℕ) →
    IsApart (record { sector = at; length = place_length p n }) (record { sector = u.sector; length = 8 }) →
    bytes_at (mended image (Some u)) at p n ≡ bytes_at image at p n
apart_bytes image u {at} p n apart = bytes_stay p n apart (mended_elsewhere u)

pub apart_sums : (image : Image) (u : Unwritten) {at : ℕ} (p : Plan) (n : ℕ) →
    IsApart (record { sector = at; length = place_length p n }) (record { sector = u.sector; length = 8 }) →
    IfSummed (shape_of p n) (sectors_from image at (place_length p n)) →
    IfSummed (shape_of p n) (sectors_from (mended image (Some u)) at (place_length p n))
apart_sums image u {at} p n apart = sums_stay p n apart (mended_elsewhere u)
