-- Clusters: completed before a commit, and kept in memory if the device failed to write one.
use Rattle.migrator.proofs.Names.{Holds, nat_tests, IsDurable, seen_by, stored_on, frame_at, read_at, place_length, ℕ, Option, Some, None, List, refl, sym, ap}
use Rattle.migrator.proofs.Names.{subst, arith, Image, Disk, IsTorn, AreKeepable, Entry, Extent, CheckpointHeader, entry_at, half_sector, count_of, IsInside}
use Rattle.migrator.proofs.Names.{half_extent, found_slot, own_slot, Whole, place_at, slot_of, entries_of, AreComplete, Keeps, Unwritten, mended, IfUnwritten}
use Rattle.migrator.proofs.Names.{Put, slot_bytes, puts_in, Books, frozen_generation, working_generation, stored_in, frozen_of, next_saved, next_header}
use Rattle.migrator.proofs.Names.{saved_state, IsIntact, LeavesState, MayHaveUnwritten, LeavesSaved, kept_of, Spares, puts, Touches, SparesPuts, []}
use Rattle.migrator.proofs.Names.{committed_header, length, home_place, shape_of, bytes_at, sectors_from, slot_sector, shape_bytes, Plan, IsApart, apart_inside}
use Rattle.migrator.proofs.Names.{row, Sums, IsRunning, IsShapeFor, true, frames_in_slots, slots_apart, set, frame_in, frame_from, IsSpelt, frame_read}
use Rattle.migrator.proofs.Names.{spelt_same, Place, slot_for, IsSpeltIn, Frame, slot_frame, HasUnwritten, IsSlotSummed, IfSummed, root_of, units_in}
use Rattle.migrator.proofs.Names.{IsNextRoot}
use Rattle.std.proofs.Common.{◌≡◌, ◌*◌, ◌<◌, ◌∙◌, ◌⊎◌}
use Rattle.migrator.proofs.Committing.{frozen_fits}
use Rattle.migrator.proofs.Kept.{GoesOnSeen, goes_spared, puts_same, are_put_same, puts_stay, are_put_on, stored_same, home_stays, readable_stays}
use Rattle.migrator.proofs.PlacesApart.{mended_disk, leaves_mended, leaves_raw, unmended}
use Rattle.migrator.proofs.PlacesApart.{spares_other, home_apart, state_stays, apart_bytes, other_half}
use Rattle.migrator.proofs.PlacesApart.{apart_sums}
use Rattle.migrator.proofs.Putting.{other_parity, half_spares, homes_spare, later_half}
use Rattle.migrator.proofs.Tables.{slot_entries, set_here, set_there, slot_kept}
use Rattle.migrator.proofs.CompleteSlots.{half_of_slot, packed_read, slots_in_half}
use Rattle.migrator.proofs.NextUnits.{home_root}

-- what is said of an entry is said of its object and its slot
sums_at : (old new : Image) (p : Plan) (g : ℕ) (e : Entry) {n s : ℕ} → e.object ≡ n → e.slot ≡ s →
    (IsSlotSummed old p g e.slot e.object → IsSlotSummed new p g e.slot e.object) → IsSlotSummed old p g s n → IsSlotSummed new p g s n
sums_at old new p g e {n} {s} object slot same =
    subst (λ (k : ℕ). IsSlotSummed old p g k n → IsSlotSummed new p g k n) slot
    (subst (λ (m : ℕ). IsSlotSummed old p g e.slot m → IsSlotSummed new p g e.slot m) object same)

module _ {old new : Disk} {b : Books} {was now : Option Unwritten} {k : ℕ} (kept : IsIntact old.sectors (mended old.seen was) b)
    (running : b.frozen_size ≡ Some k)
    (keeps : Keeps b.plan (frozen_generation b) (entries_of b.frozen) old was new now) where
  abbrev before : Image
  before = mended old.seen was

  abbrev after : Image
  after = mended new.seen now

  -- the log slots of the half
  abbrev extent : Extent
  extent = record { sector = half_sector b.plan (frozen_generation b); length = 9 * b.plan.geometry.log }

  inside : IsInside extent (half_extent b.plan.version b.plan.geometry (half_sector b.plan (frozen_generation b)))
  inside = slots_in_half b.plan (frozen_generation b)

  spares : Spares b.plan b.header b.directory extent
  spares = spares_other b.header (frozen_generation b) kept.plan kept.directory kept.header.entries (other_parity b.header.generation)
      inside

  working_spares : SparesPuts b.plan (working_generation b) b.working extent
  working_spares = half_spares (working_generation b) (frozen_generation b) kept.plan (later_half b running) kept.working.table
      kept.working.few inside

  -- the frozen frames stay in their slots
  frozen_stay : (n s : ℕ) → n < count_of b.plan → place_at b.frozen n ≡ Whole s →
      slot_bytes after b.plan (frozen_generation b) s n ≡ slot_bytes before b.plan (frozen_generation b) s n
  frozen_stay n s lt is = search (arith, found_slot (entries_of b.frozen) n s (slot_entries b.frozen n ∙ ap slot_of is), slot_entries)

  -- and keep their sums
  frozen_sums : (n s : ℕ) → n < count_of b.plan → place_at b.frozen n ≡ Whole s →
      IsSlotSummed before b.plan (frozen_generation b) s n → IsSlotSummed after b.plan (frozen_generation b) s n
  frozen_sums n s lt is was =
      let found = found_slot (entries_of b.frozen) n s (slot_entries b.frozen n ∙ ap slot_of is) in
      sums_at before after b.plan (frozen_generation b) (entry_at (entries_of b.frozen) found.index) found.object_is found.slot_is
      (keeps.sums found.index found.within) was

  pub puts_after : puts_in after b.plan (frozen_generation b) b.frozen ≡ puts_in before b.plan (frozen_generation b) b.frozen
  puts_after = puts_same b.plan (frozen_generation b) (frozen_generation b) b.frozen before after frozen_stay

  pub frozen_after : frozen_of after b k ≡ frozen_of before b k
  frozen_after = ap (λ (puts : List Put). record { put = puts; size = k }) puts_after

  pub stored_after : stored_in after b ≡ stored_in before b
  stored_after = stored_same after before b (puts_stay b.plan (working_generation b) b.working working_spares keeps.elsewhere) puts_after
      (state_stays spares.frames keeps.elsewhere)

  kept_after : IsIntact old.sectors after b
  kept_after = record {
    readable = readable_stays spares.frames keeps.elsewhere kept.readable;
    few = kept.few;
    moved = λ i lt. home_stays b spares.frames keeps.elsewhere i kept.plan
        (kept.directory.each i (record { object = 0; slot = 0 }) (omega (arith, lt, kept.few, kept.count))).object
        (homes_spare (frozen_generation b) kept inside i lt) (kept.moved i lt);
    frozen = are_put_same frozen_stay frozen_sums kept.frozen;
    running = kept.running;
    working = are_put_on b.plan (working_generation b) b.working working_spares keeps.elsewhere kept.working;
  }

  pub mid_kept : IsIntact new.sectors after b
  mid_kept = subst (λ (size : ℕ). IsIntact size after b) (sym keeps.touches.size) kept_after

  touches : Touches extent.sector extent.length (mended_disk old was) (mended_disk new now)
  touches = search (keeps.touches, leaves_mended was now (IsTorn extent.sector extent.length old) keeps.touches.any_moment)

  pub goes_after : {c : Books} → c.plan ≡ b.plan → c.header ≡ b.header → c.root ≡ b.root → c.directory ≡ b.directory →
      GoesOnSeen (mended_disk old was) (mended_disk new now) b c
  goes_after plan header root directory = goes_spared plan header root directory spares touches

  pub has_after : MayHaveUnwritten b now
  has_after = by now keeps.unwritten where
    by : (o : Option Unwritten) → IfUnwritten b.plan (frozen_generation b) (entries_of b.frozen) o → MayHaveUnwritten b o
    by None is = tt
    by (Some u) is =
        let entry = entry_at (entries_of b.frozen) is.index in
        let own = own_slot (entries_of b.frozen) is.index (frozen_fits kept).rising is.within in
        search (is, running, sym (slot_entries b.frozen entry.object) ∙ own)

-- what `IsIntact` says doesn't depend on the unwritten cluster
pub kept_with : {size : ℕ} {image : Image} {b : Books} {o : Option Unwritten} → IsIntact size image b →
    IsIntact size image (record b { unwritten = o })
kept_with kept = search

-- after all slots were completed, no cluster is unwritten, and no frame has changed
pub record IsCompleted (old : Disk) (image : Image) (b : Books) (k : ℕ) (mid : Disk) : Type 0 where
  pub kept : IsIntact mid.sectors mid.seen b
  pub size : mid.sectors ≡ old.sectors
  pub frozen : frozen_of mid.seen b k ≡ frozen_of image b k
  pub stored : stored_in mid.seen b ≡ stored_in image b
  pub sound : LeavesState old (saved_state image b) (committed_header b) → LeavesState mid (saved_state mid.seen b) (committed_header b)
  pub any_moment : LeavesState old (saved_state image b) (committed_header b) → LeavesSaved old mid (kept_of (saved_state image b))

pub ready : {old mid : Disk} {b : Books} {was now : Option Unwritten} {k : ℕ} → IsIntact old.sectors (mended old.seen was) b →
    b.frozen_size ≡ Some k → Keeps b.plan (frozen_generation b) (entries_of b.frozen) old was mid now → now ≡ None →
    IsCompleted old (mended old.seen was) b k mid
ready {old} {mid} {b} {was} {now} {k} kept running keeps none =
    let goes = goes_after kept running keeps {c = b} refl refl refl refl in
    let image : mended mid.seen now ≡ mid.seen = unmended none in
    record {
      kept = subst (λ (i : Image). IsIntact mid.sectors i b) image (mid_kept kept running keeps);
      size = keeps.touches.size;
      frozen = ap (λ (i : Image). frozen_of i b k) (sym image) ∙ frozen_after kept running keeps;
      stored = ap (λ (i : Image). stored_in i b) (sym image) ∙ stored_after kept running keeps;
      sound = λ sound. subst (λ (i : Image). LeavesState mid (saved_state i b) (committed_header b)) image (goes.sound sound);
      any_moment = λ sound. leaves_raw was now (λ c. Holds old.sectors c (kept_of (saved_state (mended old.seen was) b)))
          (goes.any_moment sound);
    }

-- ---- the same facts about the header and the entries of the commit

pub keeps_at : (b : Books) {old mid : Disk} {was now : Option Unwritten} {h : CheckpointHeader} {es : List Entry} {age : ℕ} →
    h ≡ next_header age b → es ≡ entries_of b.frozen → Keeps b.plan h.generation es old was mid now →
    Keeps b.plan (frozen_generation b) (entries_of b.frozen) old was mid now
keeps_at b {old} {mid} {was} {now} {h} {es} {age} header entries keeps = grind (arith, nat_tests)

pub complete_at : (b : Books) (image : Image) {h : CheckpointHeader} {es : List Entry} {age : ℕ} → h ≡ next_header age b →
    es ≡ entries_of b.frozen → AreComplete image b.plan h.generation es → AreComplete image b.plan (frozen_generation b)
    (entries_of b.frozen)
complete_at b image {h} {es} {age} header entries complete = grind (arith, nat_tests)

pub root_at : (b : Books) (image : Image) {h : CheckpointHeader} {es : List Entry} {age : ℕ} {root : Sums} → h ≡ next_header age b →
    es ≡ entries_of b.frozen → IsNextRoot image b.plan h.generation es b.root root → IsNextRoot image b.plan (frozen_generation b)
    (entries_of b.frozen) b.root root
root_at b image {h} {es} {age} {root} header entries next = grind (arith, nat_tests)

-- while a checkpoint is frozen, the root is that of all units at home
pub frozen_root : {size : ℕ} {image : Image} {b : Books} {k : ℕ} → IsIntact size image b → b.frozen_size ≡ Some k → (generation : ℕ) →
    (row b.plan.version).sealed ≡ true → b.root ≡ root_of (units_in image b.plan generation [])
frozen_root {b = b} {k} kept running generation sealed =
    home_root (kept.units sealed) (kept.count ∙ (subst (IsRunning b) running kept.running).0) generation

-- the frames that the commit saves may be kept
pub keepable_at : {age : ℕ} {old : Disk} {image : Image} {b : Books} {k : ℕ} {mid : Disk} → IsCompleted old image b k mid →
    AreKeepable b.plan.geometry age (next_saved puts age (frozen_of image b k) (stored_in image b).saved).frames
    → AreKeepable b.plan.geometry age (next_saved puts age (frozen_of mid.seen b k) (stored_in mid.seen b).saved).frames
keepable_at {age} {old} {image} {b} {k} {mid} is keepable = grind (arith, nat_tests)

-- ---- no cluster is unwritten

-- if no checkpoint is frozen, no cluster is unwritten
pub none_idle : (b : Books) (o : Option Unwritten) → MayHaveUnwritten b o → b.frozen_size ≡ None → o ≡ None
none_idle b o has idle = grind (arith, nat_tests)

-- books with no unwritten cluster are valid
pub without : (b : Books) {o : Option Unwritten} → o ≡ None → MayHaveUnwritten b o
without b none = subst (MayHaveUnwritten b) (sym none) tt

-- ---- a write of a frame keeps the unwritten cluster

-- marking an object's frame as torn keeps the unwritten cluster
held_torn : (b : Books) (o : Option Unwritten) {n : ℕ} (q : Place) → n < length b.frozen → slot_of q ≡ Some (slot_for b.frozen n) →
    MayHaveUnwritten b o → MayHaveUnwritten (record b { frozen = set b.frozen n q }) o
held_torn b o {n} q lt is has = grind (arith, nat_tests, set_here, slot_kept, set_there)

pub held_after : (b : Books) {o p : Option Unwritten} {n : ℕ} (q : Place) → n < length b.frozen → slot_of q ≡ Some (slot_for b.frozen n) →
    MayHaveUnwritten b o → (p ≡ None) ⊎ (p ≡ o) → MayHaveUnwritten (record b { frozen = set b.frozen n q; unwritten = p }) p
held_after b {o} {p} {n} q lt is has either = grind (arith, nat_tests, without, held_torn)

-- an unwritten cluster belongs to the slot of an entry
pub entry_of : (b : Books) (o : Option Unwritten) → MayHaveUnwritten b o → IfUnwritten b.plan (frozen_generation b) (entries_of b.frozen) o
entry_of b None has = tt
entry_of b (Some u) has =
    let entry = found_slot (entries_of b.frozen) has.object has.slot (slot_entries b.frozen has.object ∙ has.place) in
    search (
      has,
      entry,
      has.sector_is ∙ ap (slot_sector b.plan (frozen_generation b)) (sym entry.slot_is),
      ap (place_length b.plan) entry.object_is ∙ has.sectors,
    )

-- ---- reads of the device that don't touch the unwritten cluster

shape_fits : (p : Plan) (n : ℕ) → IsShapeFor p.geometry n (shape_of p n)
shape_fits p n = grind (arith, nat_tests)

abbrev cluster_extent : Unwritten → Extent
cluster_extent u = record { sector = u.sector; length = 8 }

module _ {disk : Disk} {b : Books} (is : IsDurable disk b) where
  abbrev half : Extent
  half = half_extent b.plan.version b.plan.geometry (half_sector b.plan (frozen_generation b))

  has_some : {u : Unwritten} → b.unwritten ≡ Some u → HasUnwritten b u
  has_some some = subst (MayHaveUnwritten b) some is.unwritten

  cluster_inside : {u : Unwritten} → b.unwritten ≡ Some u → IsInside (cluster_extent u) half
  cluster_inside {u} some =
      let has = has_some some in
      let low = is.kept.frozen.table.few has.object has.slot has.place in
      let slot = half_of_slot b.plan (frozen_generation b) {slot = has.slot} (omega (arith, low, is.kept.frozen.few)) in
      record { starts = omega (arith, slot.starts, has.sector_is); ends = omega (arith, slot.ends, has.sector_is) }

  -- sectors that don't overlap the unwritten cluster are read from the device, also after a write
  raw : (new : Image) {at : ℕ} (n : ℕ) →
      ((u : Unwritten) → b.unwritten ≡ Some u → IsApart (record { sector = at; length = place_length b.plan n }) (cluster_extent u))
      → bytes_at (mended new b.unwritten) at b.plan n ≡ bytes_at new at b.plan n
  raw new {at} n apart = grind (arith, nat_tests, apart_bytes)

  raw_sums : (new : Image) {at : ℕ} (n : ℕ) →
      ((u : Unwritten) → b.unwritten ≡ Some u → IsApart (record { sector = at; length = place_length b.plan n }) (cluster_extent u))
      → (o : Option Unwritten) → b.unwritten ≡ o → IfSummed (shape_of b.plan n) (sectors_from new at (place_length b.plan n))
      → IfSummed (shape_of b.plan n) (sectors_from (mended new o) at (place_length b.plan n))
  raw_sums new n apart None none was = was
  raw_sums new n apart (Some u) some was = apart_sums new u b.plan n (apart u some) was

  -- a saved frame is read from the device
  saved_raw : {n : ℕ} → n < count_of b.plan
      → frame_in (seen_by disk.seen b) b.plan b.header.generation b.directory n
      ≡ frame_in disk.seen b.plan b.header.generation b.directory n
  saved_raw {n} lt = raw disk.seen n (λ u some. (spares_other b.header (frozen_generation b) is.kept.plan is.kept.directory
      is.kept.header.entries
      (other_parity b.header.generation) (cluster_inside some)).frames n lt)

  pub spelt_raw : {n : ℕ} → n < count_of b.plan → IsSpelt disk.seen b.plan b.header.age b.header.generation b.directory n
  spelt_raw {n} lt = grind (arith, nat_tests, spelt_same, saved_raw)

  pub read_raw : {n : ℕ} → n < count_of b.plan → frame_read disk.seen b.plan b.header.generation b.directory n
      ≡ frame_at (stored_on disk b).saved.frames n
  read_raw {n} lt = ap (frame_from b.plan.geometry n) (sym (saved_raw lt)) ∙ sym
      (read_at (seen_by disk.seen b) b.plan b.header.generation b.directory n lt)

  -- a home frame is read from the device
  pub home_raw : {n : ℕ} → n < count_of b.plan →
      bytes_at disk.seen (home_place b.plan n) b.plan n ≡ bytes_at (seen_by disk.seen b) (home_place b.plan n) b.plan n
  home_raw {n} lt = sym (raw disk.seen n (λ u some. home_apart (frozen_generation b) is.kept.plan lt (cluster_inside some)))

  pub working_sums : (new : Image) {s : ℕ} (n : ℕ) → s < b.plan.geometry.log → IsSlotSummed new b.plan (working_generation b) s n →
      IsSlotSummed (mended new b.unwritten) b.plan (working_generation b) s n
  working_sums new n low was = raw_sums new n (λ u some. other_half (working_generation b) (frozen_generation b) n is.kept.plan
      (later_half b (has_some some).running)
      low (cluster_inside some)) b.unwritten refl was

  -- after a write, a working frame is read from the device
  pub working_again : (new : Image) {s : ℕ} (n : ℕ) → s < b.plan.geometry.log
      → slot_bytes (mended new b.unwritten) b.plan (working_generation b) s n ≡ slot_bytes new b.plan (working_generation b) s n
  working_again new n low = raw new n (λ u some. other_half (working_generation b) (frozen_generation b) n is.kept.plan
      (later_half b (has_some some).running)
      low (cluster_inside some))

  -- a frozen frame in another slot than the unwritten cluster's is read from the device
  pub frozen_raw : (s n : ℕ) → ((u : Unwritten) → b.unwritten ≡ Some u → u.sector ≡ slot_sector b.plan (frozen_generation b) s → ⊥)
      → slot_bytes (seen_by disk.seen b) b.plan (frozen_generation b) s n ≡ slot_bytes disk.seen b.plan (frozen_generation b) s n
  frozen_raw s n other = search (arith, raw, has_some, apart_inside, frames_in_slots, slots_apart)

  -- ---- reads of the buffer, if a frozen frame is in the unwritten cluster's slot

  module _ (n : ℕ) {s sector : ℕ} (at : place_at b.frozen n ≡ Whole s) (here : sector ≡ slot_sector b.plan (frozen_generation b) s)
      (own : (u : Unwritten) × (b.unwritten ≡ Some u) × (u.sector ≡ sector)) where
    has : HasUnwritten b own.0
    has = has_some own.1

    -- the object is the one whose slot is unwritten
    one : has.object ≡ n
    one =
        let same : has.slot ≡ s = omega (arith, has.sector_is, here, own.2) in
        is.kept.frozen.table.apart has.object n s (has.place ∙ ap (λ (k : ℕ). Some k) same) (ap slot_of at)

    own_long : place_length b.plan n ≡ 8
    own_long = ap (place_length b.plan) (sym one) ∙ has.sectors

    own_bytes : slot_bytes (seen_by disk.seen b) b.plan (frozen_generation b) s n ≡ shape_bytes (shape_of b.plan n) own.0.bytes
    own_bytes = grind (arith, nat_tests, packed_read, has, own_long)

    -- the buffer encodes the object's frame
    pub own_spelt : n < count_of b.plan → (u : Unwritten) × (b.unwritten ≡ Some u) × IsSpeltIn u (shape_of b.plan n) b.plan.geometry n
    own_spelt lt = grind (arith, nat_tests, shape_fits, own_long, own_bytes, has)

    -- the frame read from the buffer is the object's
    pub own_frame : {read : Frame} → ((u : Unwritten) → b.unwritten ≡ Some u →
        read ≡ frame_from b.plan.geometry n (shape_bytes (shape_of b.plan n) u.bytes)) →
        read ≡ slot_frame (seen_by disk.seen b) b.plan (frozen_generation b) s n
    own_frame reported = reported own.0 own.1 ∙ ap (frame_from b.plan.geometry n) (sym own_bytes)
