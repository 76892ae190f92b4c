-- Saved frames are copied home.
use Rattle.migrator.proofs.Names.{nat_tests, ℕ, Option, Some, None, List, length, refl, sym, ap, subst, arith, Image, Disk, LeavesOnly, leaves_on, entry_at}
use Rattle.migrator.proofs.Names.{count_of, Plan, IsPlan, apart_turned, own_slot, home_place, place_length, places_apart, MovedBy, home_extent, place_extent}
use Rattle.migrator.proofs.Names.{Place, slot_of, IsTable, taken_count, IsCopied, IsFirst, SavedFrames, Holds, Books, IsDurable, seen_by, Stored, GoesOnDisk}
use Rattle.migrator.proofs.Names.{stored_in, stored_on, IsHome, IsRunning, IsIntact, Spares, Touches, SparesPuts, SparesKept, Unwritten, mended, is_err}
use Rattle.migrator.proofs.Names.{Migrates, Publishes, ⊎_elim, all_moved, IsSoundOn, IsLesser, on_snapshots, Result, Ok, Err, IsErr, Counts, MayFinish, []}
use Rattle.migrator.proofs.Names.{CheckpointHeader, IsDirectory, IsHeader, frame_in, frame_slot_in, AreSpelt, half_within, read_same, spelt_same}
use Rattle.migrator.proofs.Names.{frame_slot_entry, directory_extent, home_header, MayAdopt, adopted, no_sectors, one_length, row, true, HasUnits, frame_sector}
use Rattle.std.proofs.Common.{◌≡◌, ◌+◌, ◌-◌, ◌<◌, ◌≤◌, ◌∙◌, ◌⊎◌}
use Rattle.migrator.proofs.Blocks.{block_home, one_sector}
use Rattle.migrator.proofs.NextUnits.{units_kept}
use Rattle.migrator.proofs.PlacesApart.{stays, frame_stays, mended_disk, touches_mended, place_inside, home_apart, spares_home, at_home, no_entries}
use Rattle.migrator.proofs.Kept.{nowhere_frozen, stored_stays, kept_on, goes_seen, goes_spared}
use Rattle.migrator.proofs.Completing.{none_idle, without}
use Rattle.migrator.proofs.Putting.{none_spares}
use Rattle.migrator.proofs.Publishing.{with_header, idle_kept, idle_stored}
use Rattle.migrator.proofs.Publishing.{may_adopt_idle}
use Rattle.migrator.proofs.Committing.{directory_spares}

-- while entries remain in the log, no checkpoint is frozen

not_running : (b : Books) (o : Option ℕ) → IsRunning b o → 0 < b.header.entries → o ≡ None
not_running b o running some = grind (arith, nat_tests)

pub no_checkpoint : {size : ℕ} {image : Image} {b : Books} → IsIntact size image b → 0 < b.header.entries → b.frozen_size ≡ None
no_checkpoint {b} kept some = not_running b b.frozen_size kept.running some

-- homes don't overlap slots with written frames
puts_home : {p : Plan} (generation : ℕ) {m : ℕ} {ps : List Place} → IsPlan p → IsTable ps → taken_count ps ≤ p.geometry.log →
    m < count_of p → SparesPuts p generation ps (home_extent p m)
puts_home {p} generation {m} fits table few within n s lt is =
    let less = table.few n s (ap slot_of is) in
    apart_turned (home_extent p m) (place_extent p generation s n) (home_apart generation fits within
    (place_inside p generation n (omega (arith, less, few))))

abbrev pub moved_books : Books → ℕ → Books
moved_books b k = record b { moved = b.moved + k }

-- if the frame of the next entry is home, one more entry has been moved
moved_one : {size : ℕ} {image : Image} {b : Books} → IsIntact size image b → b.moved < b.header.entries →
    IsHome image b.plan b.header.generation b.directory b.moved → IsIntact size image (moved_books b 1)
moved_one {size} {image} {b} kept some home = grind (arith, nat_tests)

-- so has an entry that shares the home of the one before it
home_too : {size : ℕ} {image : Image} {b : Books} → IsIntact size image b → 0 < b.moved → b.moved < length b.directory →
    home_place b.plan (entry_at b.directory (b.moved - 1)).object ≡ home_place b.plan (entry_at b.directory b.moved).object →
    IsHome image b.plan b.header.generation b.directory b.moved
home_too {size} {image} {b} kept one within same =
    let p : Plan = b.plan in
    let m : ℕ = (entry_at b.directory (b.moved - 1)).object in
    let n : ℕ = (entry_at b.directory b.moved).object in
    let object : (i : ℕ) → i < length b.directory → (entry_at b.directory i).object < count_of p =
    λ i lt. (kept.directory.each i (record { object = 0; slot = 0 }) lt).object in
    let was = kept.moved (b.moved - 1) (omega (arith, one)) in
    let long : place_length p n ≡ place_length p m = one_length p n m kept.plan (object b.moved within)
    (object (b.moved - 1) (omega (arith, within))) (sym same) in
    record {
      frames = λ k is_k home. was.frames k is_k (home ∙ sym same);
      block = λ sealed i lt.
          ap (λ (h : ℕ). image (h + i)) (sym same) ∙ was.block sealed i (omega (arith, lt, long))
          ∙ ap (λ (k : ℕ). image (k + i)) (one_sector p b.header.generation b.directory m n sealed same);
    }

module _ {old : Disk} (new : Disk) {b : Books} (is : IsDurable old b) (some : b.moved < b.header.entries) where
  none : b.frozen_size ≡ None
  none = no_checkpoint is.kept (omega (arith, some))

  written : b.unwritten ≡ None
  written = none_idle b b.unwritten is.unwritten none

  -- ---- the next entry's frame is copied

  module _ (first : IsFirst b.plan b.directory b.moved)
      (touches : Touches (home_place b.plan (entry_at b.directory b.moved).object)
      (place_length b.plan (entry_at b.directory b.moved).object) old new) where
    abbrev object : ℕ
    object = (entry_at b.directory b.moved).object

    seen_touches : Touches (home_place b.plan object) (place_length b.plan object) (mended_disk old b.unwritten)
        (mended_disk new b.unwritten)
    seen_touches = touches_mended b.unwritten touches

    in_list : b.moved < length b.directory
    in_list = omega (arith, some, is.kept.count)

    object_fits : object < count_of b.plan
    object_fits = (is.kept.directory.each b.moved (record { object = 0; slot = 0 }) in_list).object

    spares : Spares b.plan b.header b.directory (home_extent b.plan object)
    spares = spares_home is.kept.plan is.kept.directory is.kept.header.entries object_fits
        (own_slot b.directory b.moved is.kept.directory.rising in_list)

    spares_all : SparesKept b (home_extent b.plan object)
    spares_all = grind (arith, nat_tests, spares, places_apart, in_list, object_fits, none_spares, nowhere_frozen, none, puts_home)

    kept_new : IsIntact new.sectors (seen_by new.seen b) b
    kept_new = subst (λ (k : ℕ). IsIntact k (seen_by new.seen b) b) (sym touches.size)
        (kept_on old.sectors spares_all seen_touches.elsewhere is.kept)

    stored_new : stored_on new b ≡ stored_on old b
    stored_new = stored_stays old.sectors spares_all seen_touches.elsewhere

    pub uncopied_durable : IsDurable new b
    uncopied_durable = record { kept = kept_new; unwritten = is.unwritten }

    pub uncopied_moved : MovedBy old new b b 0
    uncopied_moved =
        let same : b.moved ≡ b.moved + 0 = omega arith in
        record {
          books = ap (λ (n : ℕ). record b { moved = n }) same;
          stored = stored_new ∙ ap (λ (n : ℕ). record (stored_on old b) { to_move = b.header.entries - n }) same;
          goes_on = goes_seen (goes_spared refl refl refl refl spares seen_touches);
        }

    pub copied_moved : MovedBy old new b (moved_books b 1) 1
    copied_moved = record {
      books = refl;
      stored = ap (λ (s : Stored). record s { to_move = b.header.entries - (b.moved + 1) }) stored_new;
      goes_on = goes_seen (goes_spared refl refl refl refl spares seen_touches);
    }

    pub copied_durable : IsCopied old.seen new.seen b.plan b.header.generation b.directory (entry_at b.directory b.moved).object →
        IsDurable new (moved_books b 1)
    copied_durable copied =
        let seen = subst (λ (o : Option Unwritten). IsCopied (mended old.seen o) (mended new.seen o) b.plan b.header.generation b.directory
        object)
        (sym written) copied in
        record {
          kept = moved_one kept_new some (record {
            frames = λ n lt same. seen.frames n lt same ∙
                sym (frame_stays b.plan b.header.generation b.directory (home_extent b.plan object) spares.frames
                seen_touches.elsewhere n lt);
            block = λ sealed i lt. seen.block sealed i lt ∙ sym (stays (spares.frames object object_fits) seen_touches.elsewhere i lt);
          });
          unwritten = without (moved_books b 1) written;
        }

  -- ---- the next entry's frame was copied with the one before it

  pub passed_durable : 0 < b.moved → home_place b.plan (entry_at b.directory (b.moved - 1)).object
      ≡ home_place b.plan (entry_at b.directory b.moved).object → IsDurable old (moved_books b 1)
  passed_durable one same = record {
    kept = moved_one is.kept some (home_too is.kept one (omega (arith, some, is.kept.count)) same);
    unwritten = is.unwritten;
  }

-- ---- one entry after another

pub goes_trans : (old mid new : Disk) (a b c : Books) → (stored_in (seen_by mid.seen b) b).saved
    ≡ (stored_in (seen_by old.seen a) a).saved → GoesOnDisk old mid a b → GoesOnDisk mid new b c → GoesOnDisk old new a c
goes_trans old mid new a b c same first second = record {
  plan = second.plan ∙ first.plan;
  size = second.size ∙ first.size;
  sound = λ sound. second.sound (first.sound sound);
  any_moment = λ sound.
      leaves_on {old = old} {mid = mid} {new = new} {P = λ x. Holds old.sectors x (stored_in (seen_by old.seen a) a).saved}
      (first.any_moment sound)
      (subst (λ (k : ℕ). LeavesOnly mid new (λ x. Holds k x (stored_in (seen_by old.seen a) a).saved)) first.size
      (subst (λ (s : SavedFrames). LeavesOnly mid new (λ x. Holds mid.sectors x s)) same (second.any_moment (first.sound sound))));
}

pub goes_none : (disk : Disk) (b : Books) → ((c : Image) → disk.left_since disk.moment c → disk.may_leave c) → GoesOnDisk disk disk b b
goes_none disk b only_now = grind (arith, nat_tests)

-- ---- a series of entries

module _ {disk : Disk} {b : Books} (only_now : (c : Image) → disk.left_since disk.moment c → disk.may_leave c) where
  pub moved_none : b.moved ≤ b.header.entries → MovedBy disk disk b b 0
  moved_none few = grind (arith, nat_tests)

  -- if the next entry's frame is home already, the entry is moved without a call
  pub moved_on : MovedBy disk disk b (moved_books b 1) 1
  moved_on = grind (arith, nat_tests)

pub moved_more : {old mid new : Disk} {a b c : Books} {i k : ℕ} → MovedBy old mid a b i → MovedBy mid new b c k →
    MovedBy old new a c (i + k)
moved_more {old} {mid} {new} {a} {b} {c} {i} {k} first second =
    let total : a.moved + i + k ≡ a.moved + (i + k) = omega arith in
    record {
      books = second.books ∙ ap (λ (x : Books). record x { moved = x.moved + k }) first.books
          ∙ ap (λ (n : ℕ). record a { moved = n }) total;
      stored = second.stored ∙ ap (λ (s : Stored). record s { to_move = b.header.entries - (b.moved + k) }) first.stored
          ∙ ap (λ (x : Books). record (stored_on old a) { to_move = x.header.entries - (x.moved + k) }) first.books
          ∙ ap (λ (n : ℕ). record (stored_on old a) { to_move = a.header.entries - n }) total;
      goes_on = goes_trans old mid new a b c (ap (λ (s : Stored). s.saved) first.stored) first.goes_on second.goes_on;
    }

pub next_low : {old mid : Disk} {a b : Books} {i count : ℕ} → MovedBy old mid a b i → a.moved + count ≤ a.header.entries → i < count →
    b.moved < b.header.entries
next_low so_far few lt = subst (λ (x : Books). x.moved < x.header.entries) (sym so_far.books) (omega (arith, few, lt))

-- ---- a migration

move_left : {entries m count some : ℕ} → m ≤ entries → IsLesser some count (entries - m) → entries - (m + some) ≡ entries - m - count
move_left few lesser = ⊎_elim (λ e. omega (arith, e, few)) (λ e. omega (arith, e, few, lesser.0)) lesser.2

-- if the device failed after some frames were copied home, `Migrates` holds
pub migrates_part : {T E U F : Type 0} {old mid : Disk} {a b : Books} {count k : ℕ} {e : E} {r : Result U F} → IsDurable mid b →
    IsSoundOn old a → MovedBy old mid a b k → IsErr r → Counts {T = T} old mid (Err e) → Migrates old mid a b count r
migrates_part {T} {E} {U} {F} {old} {mid} {a} {b} {count} {k} {e} {r} stands sound so_far failed counts = grind (arith, nat_tests)

module _ {old mid : Disk} {a b : Books} {count some : ℕ} (few : a.moved ≤ a.header.entries)
    (lesser : IsLesser some count (a.header.entries - a.moved))
    (so_far : MovedBy old mid a b some) where
  abbrev before : Stored
  before = stored_on old a

  left_is : a.header.entries - (a.moved + some) ≡ a.header.entries - a.moved - count
  left_is = move_left few lesser

  pub left_number : a.header.entries - a.moved - some ≡ a.header.entries - a.moved - count
  left_number = omega (arith, left_is)

  -- if frames are left to copy, or none were to begin with, `Migrates` holds
  pub migrates_left : {T E : Type 0} {value : T} → IsDurable mid b → IsSoundOn old a →
      (b.header.entries ≡ 0) ⊎ (b.moved < b.header.entries) → mid.failures ≡ old.failures →
      Migrates {T = T} {E = E} old mid a b count (Ok value)
  migrates_left {T} {E} {value} stands sound why none =
      let same : b.header.entries ≡ a.header.entries = ap (λ (x : Books). x.header.entries) so_far.books in grind (arith, nat_tests)

  -- facts if all frames are home
  module _ (all : b.moved ≡ b.header.entries) where
    all_old : a.moved + some ≡ a.header.entries
    all_old = subst (λ (x : Books). x.moved ≡ x.header.entries) so_far.books all

    pub all_number : 0 ≡ a.header.entries - a.moved - count
    all_number = omega (arith, all_old, lesser.0)

    -- if all frames are home, and a header that says so is published, `Migrates` holds
    pub migrates_all : {T E U F : Type 0} {new : Disk} {c : Books} {r : Result T E} {s : Result U F} → IsSoundOn old a →
        mid.failures ≡ old.failures → Publishes mid new b c (on_snapshots all_moved (stored_on mid b)) r → (is_err s ≡ is_err r) →
        Migrates old new a c count s
    migrates_all {T} {E} {U} {F} {new} {c} {r} {s} sound none is same = grind (arith, nat_tests)

-- ---- all saved frames are home, and a header says so

no_directory : (p : Plan) → IsDirectory p.geometry []
no_directory p = grind (arith, nat_tests)

home_fits : {first room : ℕ} {h : CheckpointHeader} → IsHeader first room h → 0 < h.entries → IsHeader first room (home_header h)
home_fits {first} {room} {h} is some = grind (arith, nat_tests)

module _ {disk : Disk} {b : Books} (may : MayFinish disk b) where
  idle : b.frozen_size ≡ None
  idle = no_checkpoint may.stands.kept may.some

  abbrev header : CheckpointHeader
  header = home_header b.header

  kept : IsIntact disk.sectors disk.seen b
  kept = idle_kept header b.root [] may.stands idle

  -- an object's home frame is its saved frame
  same_frame : {n : ℕ} → n < count_of b.plan → frame_in disk.seen b.plan b.header.generation [] n
      ≡ frame_in disk.seen b.plan b.header.generation b.directory n
  same_frame {n} lt = by (frame_slot_in b.plan b.directory n) refl where
    by : (o : Option ℕ) → frame_slot_in b.plan b.directory n ≡ o → frame_in disk.seen b.plan b.header.generation [] n
        ≡ frame_in disk.seen b.plan b.header.generation b.directory n
    by None is = at_home disk.seen b.plan b.header.generation [] n (no_entries b.plan [] n refl) ∙ sym
        (at_home disk.seen b.plan b.header.generation b.directory n is)
    by (Some s) is =
        let entry = frame_slot_entry b.plan b.directory n s is in
        at_home disk.seen b.plan b.header.generation [] n (no_entries b.plan [] n refl) ∙ (kept.moved entry.index (omega (
          arith,
          entry.within,
          kept.count,
          may.all,
        ))).frames n
        lt
        (sym entry.home_is)

  -- and its home is the block that it was read from
  same_sector : (row b.plan.version).sealed ≡ true → (n : ℕ) → n < count_of b.plan → (i : ℕ) → i < place_length b.plan n →
      disk.seen (frame_sector b.plan b.header.generation [] n + i) ≡ disk.seen (frame_sector b.plan b.header.generation b.directory n + i)
  same_sector sealed n lt i low = by (frame_slot_in b.plan b.directory n) refl where
    home : frame_sector b.plan b.header.generation [] n ≡ home_place b.plan n
    home = block_home b.plan b.header.generation [] n (no_entries b.plan [] n refl)

    by : (o : Option ℕ) → frame_slot_in b.plan b.directory n ≡ o → disk.seen (frame_sector b.plan b.header.generation [] n + i)
        ≡ disk.seen (frame_sector b.plan b.header.generation b.directory n + i)
    by None is = ap (λ (k : ℕ). disk.seen (k + i)) (home ∙ sym (block_home b.plan b.header.generation b.directory n is))
    by (Some s) is =
        let entry = frame_slot_entry b.plan b.directory n s is in
        let m : ℕ = (entry_at b.directory entry.index).object in
        let is_m : m < count_of b.plan = (kept.directory.each entry.index (record { object = 0; slot = 0 }) entry.within).object in
        let long : place_length b.plan m ≡ place_length b.plan n = one_length b.plan m n kept.plan is_m lt entry.home_is in
        ap (λ (k : ℕ). disk.seen (k + i)) (home ∙ sym entry.home_is)
        ∙ (kept.moved entry.index (omega (arith, entry.within, kept.count, may.all))).block sealed i (omega (arith, low, long))
        ∙ ap (λ (k : ℕ). disk.seen (k + i)) (one_sector b.plan b.header.generation b.directory m n sealed entry.home_is)

  -- so the units stay, and the root
  units_home : (row b.plan.version).sealed ≡ true → HasUnits disk.seen b.plan b.root b.header.generation []
  units_home sealed =
      units_kept b.plan b.header.generation b.header.generation b.directory [] disk.seen disk.seen (same_sector sealed) (kept.units sealed)

  spelt_home : AreSpelt disk.seen b.plan b.header.age b.header.generation []
  spelt_home = grind (arith, nat_tests, spelt_same, same_frame, kept)

  apart : Spares b.plan b.header b.directory (directory_extent b.plan b.header.generation 0)
  apart = grind (arith, nat_tests, half_within, kept, directory_spares, no_sectors)

  home_stored : stored_in disk.seen (with_header b header b.root []) ≡ on_snapshots all_moved (stored_in disk.seen b)
  home_stored = grind (arith, nat_tests, read_same, same_frame)

  pub may_finish : MayAdopt disk b (home_header b.header) b.root []
  may_finish = may_adopt_idle header b.root [] may.stands idle refl (home_fits kept.header may.some) refl (no_directory b.plan) spelt_home
      apart units_home (λ unsealed. refl) may.sound refl

  pub finished_stored : stored_on disk (adopted (home_header b.header) b.root [] b) ≡ on_snapshots all_moved (stored_on disk b)
  finished_stored = idle_stored header b.root [] may.stands idle all_moved home_stored
