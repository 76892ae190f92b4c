-- The frozen frames become the saved ones.
use Rattle.migrator.proofs.Names.{nat_tests, IsPlan, ℕ, Option, Some, None, List, length, refl, sym, ap, subst, arith, replicate, length-replicate, Frame}
use Rattle.migrator.proofs.Names.{frame_at, IsKeepable, AreKeepable, Image, Disk, Entry, Extent, CheckpointHeader, IsDirectory, IsFrameOf, frame_from, IsHeader}
use Rattle.migrator.proofs.Names.{frame_in, frame_slot_in, half_sector, count_of, frame_read, frames_read, IsSpelt, AreSpelt, Plan, IsApart, IsInside}
use Rattle.migrator.proofs.Names.{half_extent, length_read, read_at, spelt_same, spelt_at, place_extent, directory_extent, frames_behind, directories_inside}
use Rattle.migrator.proofs.Names.{Place, Nowhere, Whole, place_at, slot_of, taken_count, whole_count, entries_of, Put, put_at, put_or, overlaid, slot_bytes}
use Rattle.migrator.proofs.Names.{puts_in, ArePut, most, Books, IsDurable, frozen_generation, working_generation, committed, generation_after, Stored}
use Rattle.migrator.proofs.Names.{saved_state, frozen_of, stored_in, IsRunning, IsIntact, next_header, puts, on_snapshots, AreComplete, MayAdopt, SavesOnly}
use Rattle.migrator.proofs.Names.{SparesKept, adopted, SparesFrames, Spares, maps_same, IsSoundOn, one_more, Version, entry_at, first_some, half_behind, inr}
use Rattle.migrator.proofs.Names.{row, true, Sums, HasUnits, IsSlotSummed, slot_beside, alone_frame_slot, sealed_frame_slot, IsNextRoot}
use Rattle.std.proofs.Common.{◌≡◌, ◌+◌, ◌-◌, ◌^◌, ◌<◌, ◌≤◌, ◌∙◌}
use Rattle.std.specs.Prelude.{◌==◌}
use Rattle.migrator.proofs.Tables.{all_whole, whole_taken, entries_directory, length_entries, slot_entries, blank_at, blank_table, tally-blank}
use Rattle.migrator.proofs.PlacesApart.{state_stays, at_home, page_own, frame_apart, home_apart, spares_other, homes_behind, no_entries}
use Rattle.migrator.proofs.PlacesApart.{frame_slot_fits}
use Rattle.migrator.proofs.Kept.{stored_stays, kept_on}
use Rattle.migrator.proofs.NewFrames.{complete_seal, frame_new, new_home, new_own}
use Rattle.migrator.proofs.NextUnits.{next_units}
use Rattle.migrator.proofs.Putting.{put_is, later_half, other_parity, half_spares, none_spares, homes_spare}

-- ---- what stays when a directory and a header are written

-- the sectors of header slots and their gates
abbrev pub opening_extent : Version → Extent
opening_extent v = record { sector = 1; length = (row v).first_home - 1 }

-- all frames that the books name lie after the headers
pub headers_spare : {size : ℕ} {image : Image} {b : Books} → IsIntact size image b → SparesKept b (opening_extent b.plan.version)
headers_spare {size} {image} {b} kept =
    let some = first_some b.plan.version in record {
      frames = λ n lt.
          let le = frames_behind b.plan b.header.generation b.directory n kept.plan (homes_behind kept.plan n lt) in
          inr (omega (arith, some, le));
      homes = λ i lt.
          let entry = kept.directory.each i (record { object = 0; slot = 0 }) (omega (arith, lt, kept.few, kept.count)) in
          let le = homes_behind kept.plan (entry_at b.directory i).object entry.object in
          inr (omega (arith, some, le));
      frozen = λ n s lt is. let le = half_behind b.plan (frozen_generation b) kept.plan in inr (omega (arith, some, le));
      working = λ n s lt is. let le = half_behind b.plan (working_generation b) kept.plan in inr (omega (arith, some, le));
    }

module _ {size : ℕ} {b : Books} {next : CheckpointHeader} {old new : Image} (kept : IsIntact size old b)
    (only : SavesOnly b.plan next old new)
    (spares : SparesKept b (directory_extent b.plan next.generation next.entries)) where
  between_kept : IsIntact size only.between b
  between_kept = kept_on size spares only.directory kept

  pub kept_saves : IsIntact size new b
  kept_saves = kept_on size (headers_spare between_kept) only.header between_kept

  pub stored_saves : stored_in new b ≡ stored_in old b
  stored_saves = stored_stays size (headers_spare between_kept) only.header ∙ stored_stays size spares only.directory

  pub state_saves : saved_state new b ≡ saved_state old b
  state_saves = state_stays (headers_spare between_kept).frames only.header ∙ state_stays spares.frames only.directory

-- ---- the directory and the slots of one half

pub slots_apart_directory : (p : Plan) (generation : ℕ) {s : ℕ} (m n : ℕ) → s < p.geometry.log → m ≤ p.geometry.log →
    IsApart (place_extent p generation s n) (directory_extent p generation m)
slots_apart_directory p generation {s} m n lt le = grind (arith, nat_tests)

-- the frames of a directory's entries don't overlap the directory
pub directory_spares : {p : Plan} (generation m : ℕ) {es : List Entry} → IsPlan p → IsDirectory p.geometry es → m ≤ p.geometry.log →
    SparesFrames p generation es (directory_extent p generation m)
directory_spares {p} generation m {es} fits is few n lt =
    frame_apart p generation es n (directory_extent p generation m) (λ s slot. slots_apart_directory p generation m n
    (frame_slot_fits p n is slot) few)
    (λ _. home_apart generation fits lt (directories_inside p generation m few))

-- ---- the header that is committed next

pub next_fits : {first room age : ℕ} (b : Books) → IsHeader first room b.header → b.header.age < age → age ≤ 2 ^ 62 →
    taken_count b.frozen ≤ room → room ≤ 4096 → IsHeader first room (next_header age b)
next_fits {age = age} b is later most few small = let more = one_more (b.header.entries == 0) in
    search (arith, is.generation, is.sequence, later, few, small)

-- ---- the frames that the commit saves

-- the objects with frozen frames, and their slots, are a directory
pub frozen_fits : {size : ℕ} {image : Image} {b : Books} → IsIntact size image b → IsDirectory b.plan.geometry (entries_of b.frozen)
frozen_fits {b} kept =
    entries_directory kept.frozen.table kept.frozen.count kept.frozen.few
    (omega (arith, kept.plan.geometry.most_nodes, kept.plan.geometry.most_pages)) kept.plan.geometry.most_log

-- each object with a slot has a valid frame in it
module _ {size : ℕ} {image : Image} {b : Books} (k : ℕ) (kept : IsIntact size image b) (running : b.frozen_size ≡ Some k)
    (stable : k ≤ whole_count b.frozen) where
  pub was : IsRunning b (Some k)
  was = subst (IsRunning b) running kept.running

  pub taken_all : taken_count b.frozen ≡ k
  taken_all = let less = whole_taken b.frozen in omega (arith, less, was.1, stable)

  fs : List Entry
  fs = entries_of b.frozen

  none_saved : (n : ℕ) → frame_slot_in b.plan b.directory n ≡ None
  none_saved n = no_entries b.plan b.directory n (kept.count ∙ was.0)

  pub fs_fit : IsDirectory b.plan.geometry (entries_of b.frozen)
  fs_fit = frozen_fits kept

  whole_at : {n s : ℕ} → n < count_of b.plan → slot_of (place_at b.frozen n) ≡ Some s → place_at b.frozen n ≡ Whole s
  whole_at {n} {s} lt is = let less = whole_taken b.frozen in all_whole b.frozen n (omega (arith, was.1, stable))
      (omega (arith, lt, kept.frozen.count)) is

  abbrev saved_frames : List Frame
  saved_frames = frames_read image b.plan b.header.generation b.directory

  abbrev frozen_puts : List Put
  frozen_puts = puts_in image b.plan (frozen_generation b) b.frozen

  -- if an object has no slot, but its cluster has one, that slot contains the object's home frame
  module _ (complete : AreComplete image b.plan (frozen_generation b) (entries_of b.frozen)) where
    -- the frame that the commit saves for an object without a slot is the saved one
    home_frame : {n : ℕ} → n < count_of b.plan → slot_of (place_at b.frozen n) ≡ None →
        frame_in image b.plan (b.header.generation + 1) (entries_of b.frozen) n ≡ frame_in image b.plan b.header.generation b.directory n
    home_frame {n} lt none =
        frame_new complete lt
        ∙ new_home image b.plan (frozen_generation b) (entries_of b.frozen) n (slot_entries b.frozen n ∙ none)
        ∙ sym (at_home image b.plan b.header.generation b.directory n (none_saved n))

    -- that of an object with a slot is in its slot
    slot_frame_in : {n s : ℕ} → n < count_of b.plan → slot_of (place_at b.frozen n) ≡ Some s →
        frame_in image b.plan (b.header.generation + 1) (entries_of b.frozen) n ≡ slot_bytes image b.plan (b.header.generation + 1) s n
    slot_frame_in {n} lt is =
        frame_new complete lt
        ∙ new_own image b.plan (frozen_generation b) (entries_of b.frozen) n (slot_entries b.frozen n ∙ is)

    frame_next : (n : ℕ) → n < count_of b.plan → frame_read image b.plan (b.header.generation + 1) (entries_of b.frozen) n
        ≡ put_or (put_at frozen_puts n) (frame_at saved_frames n)
    frame_next n lt = grind (arith, nat_tests, home_frame, read_at, put_is, slot_frame_in, whole_at)

    -- the frames that the commit saves: the frozen one of each object that has one, else the saved one
    pub frames_next : frames_read image b.plan (b.header.generation + 1) (entries_of b.frozen) ≡ overlaid frozen_puts saved_frames
    unfolding frames_read overlaid
    frames_next = search (arith, length_read, maps_same, frame_next)

    -- a page with a slot has its sums there
    page_summed : (row b.plan.version).sealed ≡ true → (n s : ℕ) → b.plan.geometry.nodes ≤ n → n < count_of b.plan →
        slot_beside b.plan (entries_of b.frozen) n ≡ Some s → IsSlotSummed image b.plan (frozen_generation b) s n
    page_summed sealed n s le lt beside =
        let own = sym (slot_entries b.frozen n)
        ∙ sym (alone_frame_slot b.plan (entries_of b.frozen) n kept.plan lt (page_own b.plan le) fs_fit.each)
        ∙ sealed_frame_slot b.plan (entries_of b.frozen) n sealed ∙ beside in
        kept.frozen.summed n s lt (whole_at lt own)

    -- in version 3 the commit saves sealed units, which add up to the next root
    pub units_next : {root : Sums} → IsNextRoot image b.plan (frozen_generation b) (entries_of b.frozen) b.root root →
        (row b.plan.version).sealed ≡ true → HasUnits image b.plan root (frozen_generation b) (entries_of b.frozen)
    units_next next sealed =
        next_units (kept.units sealed) (kept.count ∙ was.0) (frozen_generation b) (entries_of b.frozen) sealed
        (complete_seal complete sealed) (page_summed sealed) (next.sealed sealed)

    module _ {age : ℕ} (keepable : AreKeepable b.plan.geometry age (overlaid frozen_puts saved_frames)) where
      keepable_at : {n : ℕ} → n < count_of b.plan → IsKeepable b.plan.geometry age n
          (frame_read image b.plan (b.header.generation + 1) (entries_of b.frozen) n)
      keepable_at {n} lt = rw (← ap (λ (xs : List Frame). frame_at xs n) (sym frames_next)
          ∙ read_at image b.plan (b.header.generation + 1) (entries_of b.frozen) n lt) (keepable.each n lt)

      pub spelt_next : AreSpelt image b.plan age (b.header.generation + 1) (entries_of b.frozen)
      spelt_next n lt = by (slot_of (place_at b.frozen n)) refl where
        by : (o : Option ℕ) → slot_of (place_at b.frozen n) ≡ o → IsSpelt image b.plan age (b.header.generation + 1) (entries_of b.frozen) n
        by None is =
            spelt_at image b.plan b.header.age age (b.header.generation + 1) (entries_of b.frozen) n
            (spelt_same image image b.plan b.header.age (b.header.generation + 1) b.header.generation (entries_of b.frozen) b.directory n
            (home_frame lt is)
            (kept.saved n lt)) (keepable_at lt)
        by (Some s) is =
            spelt_at image b.plan most age (b.header.generation + 1) (entries_of b.frozen) n
            (subst (λ (bytes : List ℕ). IsFrameOf b.plan.geometry most n bytes (frame_from b.plan.geometry n bytes))
            (sym (slot_frame_in lt is))
            (kept.frozen.spelt n s lt (whole_at lt is))) (keepable_at lt)

-- ---- a commit

module _ (disk : Disk) {b : Books} (k : ℕ) (kept : IsIntact disk.sectors disk.seen b) (running : b.frozen_size ≡ Some k)
    (stable : k ≤ whole_count b.frozen)
    (complete : AreComplete disk.seen b.plan (frozen_generation b) (entries_of b.frozen)) {age : ℕ} (later : b.header.age < age)
    (most_age : age ≤ 2 ^ 62)
    (keepable : AreKeepable b.plan.geometry age
    (overlaid (puts_in disk.seen b.plan (frozen_generation b) b.frozen) (frames_read disk.seen b.plan b.header.generation b.directory)))
    {root : Sums} (next : IsNextRoot disk.seen b.plan (frozen_generation b) (entries_of b.frozen) b.root root)
  where
    abbrev extent : Extent
    extent = directory_extent b.plan (frozen_generation b) (taken_count b.frozen)

    abbrev es : List Entry
    es = entries_of b.frozen

    abbrev putting : List Put
    putting = puts_in disk.seen b.plan (working_generation b) b.working

    abbrev after : Books
    after = adopted (next_header age b) root es b

    directory_next : IsDirectory b.plan.geometry es
    directory_next = fs_fit k kept running stable

    inside_half : IsInside extent (half_extent b.plan.version b.plan.geometry (half_sector b.plan (frozen_generation b)))
    inside_half = directories_inside b.plan (frozen_generation b) (taken_count b.frozen) kept.frozen.few

    spares_now : Spares b.plan b.header b.directory extent
    spares_now = spares_other b.header (frozen_generation b) kept.plan kept.directory kept.header.entries (other_parity b.header.generation)
        inside_half

    generation_is : working_generation b ≡ frozen_generation b + 1
    generation_is = ap (generation_after b.header.generation) running

    -- no frame that the books name overlaps the directory
    spares_kept : SparesKept b extent
    spares_kept = record {
      frames = spares_now.frames;
      homes = homes_spare (frozen_generation b) kept inside_half;
      frozen = λ n s lt is. let less = kept.frozen.table.few n s (ap slot_of is) in
          slots_apart_directory b.plan (frozen_generation b) (taken_count b.frozen) n
          (omega (arith, less, kept.frozen.few)) kept.frozen.few;
      working = half_spares (working_generation b) (frozen_generation b) kept.plan (later_half b running) kept.working.table
          kept.working.few
          inside_half;
    }

    abbrev blank : List Place
    blank = replicate (length b.frozen) Nowhere

    none : (n : ℕ) → place_at blank n ≡ Nowhere
    none n = blank_at (length b.frozen) n

    no_place : ArePut disk.seen b.plan (frozen_generation b + 1) blank
    no_place = grind (arith, nat_tests, length-replicate, tally-blank, blank_table, none)

    committed_kept : IsIntact disk.sectors disk.seen after
    committed_kept = record {
      readable = record {
        plan = kept.plan;
        inside = kept.inside;
        header = next_fits b kept.header later most_age kept.frozen.few kept.plan.geometry.most_log;
        count = length_entries b.frozen;
        directory = directory_next;
        saved = spelt_next k kept running stable complete keepable;
        units = units_next k kept running stable complete next;
        no_root = λ plain. next.plain plain ∙ kept.no_root plain;
      };
      few = omega arith;
      moved = λ i lt. absurd (omega (arith, lt));
      frozen = no_place;
      running = none;
      working = subst (λ (g : ℕ). ArePut disk.seen b.plan g b.working) generation_is kept.working;
    }

    committed_spares : SparesKept after extent
    committed_spares = record {
      frames = directory_spares (frozen_generation b) (taken_count b.frozen) kept.plan directory_next kept.frozen.few;
      homes = λ i lt. absurd (omega (arith, lt));
      frozen = none_spares b.plan (frozen_generation b + 1) blank extent none;
      working = half_spares (frozen_generation b + 1) (frozen_generation b) kept.plan
          (λ same. other_parity (frozen_generation b) (sym same)) kept.working.table kept.working.few inside_half;
    }

    abbrev stored_as : ℕ → List Put → List Frame → Stored
    stored_as entries working frames = record {
      working = working;
      frozen = None;
      saved = record { geometry = b.plan.geometry; frames = frames; generation = frozen_generation b; entries = entries; age = age };
      to_move = entries - 0;
    }

    pub committed_stored : stored_in disk.seen (adopted (next_header age b) root (entries_of b.frozen) b)
        ≡ on_snapshots (committed puts age (frozen_of disk.seen b k)) (stored_in disk.seen b)
    committed_stored =
        ap (λ (g : ℕ). stored_as (taken_count b.frozen) (puts_in disk.seen b.plan g b.working)
        (frames_read disk.seen b.plan (frozen_generation b) es)) (sym generation_is)
        ∙ ap (λ (fs : List Frame). stored_as (taken_count b.frozen) putting fs)
        (frames_next k kept running stable complete) ∙ ap (λ (n : ℕ). stored_as n putting
        (overlaid (puts_in disk.seen b.plan (frozen_generation b) b.frozen) (frames_read disk.seen b.plan b.header.generation b.directory)))
        (taken_all k kept running stable)
        ∙ same_move k (overlaid (puts_in disk.seen b.plan (frozen_generation b) b.frozen)
        (frames_read disk.seen b.plan b.header.generation b.directory)) where
          same_move : (n : ℕ) (fs : List Frame) → stored_as n putting fs ≡ record (stored_as n putting fs) { to_move = n }
          same_move n fs = let same : n - 0 ≡ n = omega arith in ap (λ (m : ℕ). record (stored_as n putting fs) { to_move = m }) same

    pub may_commit : IsDurable disk b → b.unwritten ≡ None → IsSoundOn disk b → MayAdopt disk b (next_header age b) root
        (entries_of b.frozen)
    may_commit is written sound = search (committed_kept, spares_now, spares_kept, committed_spares)
