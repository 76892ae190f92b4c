-- A directory is written, and then a header is published.
use Rattle.migrator.proofs.Names.{IfOk-from_err, nat_tests, Snapshots, generation_after, working_generation, IsDirectory, IsHeader, AreSpelt, IsInside}
use Rattle.migrator.proofs.Names.{half_extent, half_sector, half_start, directories_inside, First, Second, ArePut, slot_bytes, bytes_at, ap, IsDurable}
use Rattle.migrator.proofs.Names.{IsIntact, Books, MayAdopt, Option, Unwritten, mended, saved_state, stored_in, stored_on, ℕ, Result, Ok, Err, List, refl, sym}
use Rattle.migrator.proofs.Names.{subst, inl, inr, ⊎_elim, OnOk, OnErr, Image, Disk, Only, LeavesOnly, agrees_is, leaves_weaker, leaves_on, Entry}
use Rattle.migrator.proofs.Names.{CheckpointHeader, IsFrameOf, Encodes, SavedState, frame_in, directory_sector, directory_length, state_in, Plan, length_read}
use Rattle.migrator.proofs.Names.{read_at, spelt_same, CommitsOne, Precedes, HasNew, IsOld, IsOldOrNew, IsReady, directory_extent, spares_opening, SparesRest}
use Rattle.migrator.proofs.Names.{same_units, old_denoted, new_denoted, LeavesState, SavesOnly, IsErr, Extent, Touches, None, MayCommitAt, Stays, AreKeepable}
use Rattle.migrator.proofs.Names.{AreComplete, Keeps, committed, next_saved, FrozenPuts, frozen_generation, frozen_of, next_header, seen_by, puts, on_snapshots}
use Rattle.migrator.proofs.Names.{adopted, entries_of, arith, Counts, Publishes, SavedFrames, LeavesSaved, LeavesEither, Stored, IsSoundOn, zero, suc, []}
use Rattle.migrator.proofs.Names.{length, replicate, Place, Nowhere, IsRunning, SparesKept, place_at, Spares, Frame, Geometry, IsKeepable, Commits, LeavesOneOf}
use Rattle.migrator.proofs.Names.{same_Some, option_map, on_ok_weaker, EncodesBy, committed_header, with_sums, Sums, SealedHeader, Version, row, Bool, HasUnits}
use Rattle.migrator.proofs.Names.{true, one_committed, AreEntriesOf, place_length, sectors_from, shape_of, IsSlotSummed, IfSummed, sums_if, TouchesAt}
use Rattle.migrator.proofs.Names.{first_home_inside, false, IsNextRoot}
use Rattle.std.specs.Prelude.{if◌then◌else◌, ◌==◌}
use Rattle.std.proofs.Common.{◌≡◌, ◌⊎◌, ◌∙◌, ◌+◌, ◌*◌, ◌%◌, ◌∷◌, ◌≤◌}
use Rattle.layout.specs.Committed.{Commits as CommitsHeader}
use Rattle.ckpt_log.specs.AnyVersion.{IsHeader as MayBeCommitted}
use Rattle.migrator.proofs.Putting.{half_spares, homes_spare, idle_half, none_spares}
use Rattle.migrator.proofs.PlacesApart.{frame_stays, stays, state_stays, state_spared, sound_spared, moments_spared, homes_behind}
use Rattle.migrator.proofs.Committing.{directory_spares, committed_stored, may_commit, kept_saves, state_saves, stored_saves}
use Rattle.migrator.proofs.Completing.{IsCompleted, goes_after, has_after, keepable_at, kept_with, mid_kept, ready, stored_after, none_idle, without}
use Rattle.migrator.proofs.Kept.{are_put_same, goes_seen, nowhere_frozen}

-- ---- if no cluster is unwritten, reads of the device give all frames

pub kept_raw : {disk : Disk} {b : Books} → b.unwritten ≡ None → IsDurable disk b → IsIntact disk.sectors disk.seen b
kept_raw {disk} {b} none is = subst (λ (o : Option Unwritten). IsIntact disk.sectors (mended disk.seen o) b) none is.kept

pub stored_raw : (disk : Disk) (b : Books) → b.unwritten ≡ None → (c : Books) → c.unwritten ≡ b.unwritten →
    stored_on disk c ≡ stored_in disk.seen c
stored_raw disk b none c same = ap (λ (o : Option Unwritten). stored_in (mended disk.seen o) c) (same ∙ none)

-- ---- the calls of a publish

pub touched_by : {at n : ℕ} {old new : Disk} → TouchesAt at n old new → Touches at n old new
touched_by is = record { size = is.size; elsewhere = is.elsewhere; crash = is.crash; any_moment = is.any_moment }

-- the directory was written outside all sectors that the saved states need
module _ {old mid : Disk} {b : Books} {next : CheckpointHeader} {root : Sums} {fs : List Entry} (may : MayAdopt old b next root fs)
    (touched : Touches (directory_sector b.plan next.generation) (directory_length b.plan.version next.entries) old mid) where
  abbrev p : Plan
  p = b.plan

  abbrev saved : Image → SavedState
  saved image = saved_state image b

  abbrev then_saved : Image → SavedState
  then_saved image = state_in image b.plan next fs

  abbrev extent : Extent
  extent = directory_extent p next.generation next.entries

  abbrev is_saved : Image → Type 0
  is_saved c = Encodes c old.sectors (saved old.seen)

  abbrev is_next : Image → Type 0
  is_next c = Encodes c old.sectors (then_saved old.seen)

  abbrev v : Version
  v = b.plan.version

  -- the next header, with its root and the sums of its directory
  abbrev then_header : SealedHeader
  then_header = with_sums v next root fs

  sound : LeavesState old (saved old.seen) (committed_header b)
  sound = subst (λ (o : Option Unwritten). LeavesState old (saved (mended old.seen o)) (committed_header b)) may.written may.sound

  mid_sound : LeavesState mid (saved mid.seen) (committed_header b)
  mid_sound = sound_spared may.apart touched (committed_header b) sound

  -- while the directory is being written, a crash leaves the old saved state
  pub either_before : LeavesOnly old mid (λ c. Encodes c old.sectors (saved_state old.seen b)
      ⊎ Encodes c old.sectors (state_in old.seen b.plan next fs))
  either_before = leaves_weaker {old = old} {new = mid} {P = is_saved} (λ c. is_saved c ⊎ is_next c) (λ c is. inl is)
      (moments_spared may.apart touched (committed_header b) sound)

  module _ (left : mid.may_leave mid.seen) where
    seen : EncodesBy mid.seen mid.sectors (saved mid.seen) (committed_header b)
    seen = mid_sound mid.seen left

    -- each crash leaves the same committed header as a read gives
    pub commits_one : CommitsOne v mid
    commits_one c is h has =
        subst (CommitsHeader v c) (one_committed v mid.seen (committed_header b) h seen.1 has) (mid_sound c is).1

    pub precedes_next : Precedes v mid.seen then_header
    precedes_next = (committed_header b, seen.1, may.follows)

    module _ (written : AreEntriesOf mid.seen p next.generation fs) where
      next_ready : IsReady mid.seen mid.sectors (then_saved mid.seen) then_header
      next_ready = record {
        same = refl;
        plan = seen.0.plan;
        header = may.kept.header;
        directory = record { count = may.kept.count; fits = may.kept.directory; spelt = written; sums = refl };
        count = length_read mid.seen p next.generation fs;
        each = λ n lt. subst (IsFrameOf p.geometry next.age n (frame_in mid.seen p next.generation fs n))
            (sym (read_at mid.seen p next.generation fs n lt))
            (spelt_same mid.seen old.seen p next.age next.generation next.generation fs fs n
            (frame_stays p next.generation fs extent may.spares_next.frames touched.elsewhere n lt) (may.kept.saved n lt));
        units = λ sealed. same_units old.seen mid.seen p root next.generation fs
            (λ n lt. stays (may.spares_next.frames n lt) touched.elsewhere) (may.kept.units sealed);
      }

      -- an image with the next header denotes the next saved state
      new_state : {c : Image} → HasNew v then_header mid.seen c → is_next c
      new_state {c} has =
          subst (λ (s : SavedState). Encodes c old.sectors s) (state_stays may.spares_next.frames touched.elsewhere)
          (subst (λ (size : ℕ). Encodes c size (then_saved mid.seen)) touched.size
          (new_denoted mid.seen c mid.sectors (then_saved mid.seen) then_header (homes_behind may.kept.plan) next_ready has))

      old_state : {c : Image} → IsOld v then_header mid c → is_saved c
      old_state {c} is = rw (← state_spared may.apart touched, ← touched.size)
          (old_denoted mid.seen is.could_be.0 c mid.sectors (saved mid.seen) then_header (homes_behind may.kept.plan) seen.0
          (mid_sound is.could_be.0 is.could_be.1).0 (commits_one is.could_be.0 is.could_be.1) is.could_be.2 is.committed)

      -- during the whole call a crash leaves the old or the next saved state
      pub either_run : {new : Disk} → LeavesOnly mid new (λ c. IsOldOrNew v then_header mid c)
          → LeavesOnly old new (λ c. Encodes c old.sectors (saved_state old.seen b)
          ⊎ Encodes c old.sectors (state_in old.seen b.plan next fs))
      either_run {new} run =
          leaves_on {old = old} {mid = mid} {new = new} {P = λ c. is_saved c ⊎ is_next c} either_before
          (leaves_weaker {old = mid} {new = new} {P = λ c. IsOldOrNew v then_header mid c} (λ c. is_saved c ⊎ is_next c)
          (λ c. ⊎_elim (λ is. inl (old_state is)) (λ has. inr (new_state has))) run)

      -- if the publish succeeded, each crash leaves the next saved state
      pub saved_next : (new : Disk) → new.sectors ≡ mid.sectors → Only new.seen new → HasNew v then_header mid.seen new.seen →
          LeavesState new (state_in old.seen b.plan next fs) (with_sums b.plan.version next root fs)
      saved_next new size only has c may_leave =
          rw (size ∙ touched.size, agrees_is c new.seen (only c may_leave)) (new_state has, has.committed)

  -- the next header may be committed
  pub may_be_committed : MayBeCommitted v p.geometry.log then_header
  may_be_committed = record {
    fits = may.kept.header;
    unsealed = λ plain. record { root = may.kept.no_root plain; directory = ap (λ (sealed : Bool). sums_if sealed fs) plain };
  }

  pub opening_inside : (row b.plan.version).first_home ≤ mid.sectors
  opening_inside =
      let within = first_home_inside p may.kept.plan in
      let all = may.kept.inside in
      omega (arith, within, all, touched.size)

  -- only the directory, and then the header slot, were written
  pub only_directory : SavesOnly p next old.seen mid.seen
  only_directory = record {
    between = mid.seen;
    directory = touched.elsewhere;
    header = record { before = λ i lt. refl; after = λ i le. refl };
  }

  pub only_both : (new : Disk) → SparesRest v then_header mid.seen new.seen → SavesOnly p next old.seen new.seen
  only_both new published = record {
    between = mid.seen;
    directory = touched.elsewhere;
    header = spares_opening v then_header mid.seen new.seen published;
  }

pub on_err : {T E P : Type 0} (r : Result T E) → P → OnErr r P
on_err {T} {E} {P} r p = grind (arith, nat_tests)

pub on_ok : {T E P : Type 0} (r : Result T E) → P → OnOk r P
on_ok {T} {E} {P} r p = grind (arith, nat_tests)

-- ---- the slots of a checkpoint were completed, and its header is published

module _ {old mid : Disk} {b : Books} {o : Option Unwritten} {k age : ℕ} (may : MayCommitAt old b k age)
    (keeps : Keeps b.plan (frozen_generation b) (entries_of b.frozen) old b.unwritten mid o) where
  abbrev books : Books
  books = record b { unwritten = o }

  abbrev frozen : FrozenPuts
  frozen = frozen_of (seen_by old.seen b) b k

  was : IsIntact old.sectors (seen_by old.seen b) b
  was = may.stands.kept

  pub mid_stays : Stays old mid b (record b { unwritten = o })
  mid_stays = search (arith, kept_with, mid_kept, has_after, stored_after, goes_seen, goes_after)

  module _ (none : o ≡ None) (complete : AreComplete mid.seen b.plan (frozen_generation b) (entries_of b.frozen)) {root : Sums}
      (next : IsNextRoot mid.seen b.plan (frozen_generation b) (entries_of b.frozen) b.root root) where
    now : IsCompleted old (seen_by old.seen b) b k mid
    now = ready was may.running keeps none

    kept : IsIntact mid.sectors mid.seen books
    kept = kept_raw none mid_stays.stands

    keepable : AreKeepable b.plan.geometry age (next_saved puts age (frozen_of mid.seen b k) (stored_in mid.seen b).saved).frames
    keepable = keepable_at now may.keepable

    pub may_commit_now : MayAdopt mid (record b { unwritten = o }) (next_header age b) root (entries_of b.frozen)
    may_commit_now = may_commit mid k kept may.running may.stable complete may.later may.most keepable next mid_stays.stands none
        (mid_stays.goes_on.sound may.sound)

    pub commit_stored : stored_on mid (adopted (next_header age b) root (entries_of b.frozen) (record b { unwritten = o })) ≡ on_snapshots
        (committed puts age (frozen_of (seen_by old.seen b) b k)) (stored_on old b)
    commit_stored =
        stored_raw mid books none (adopted (next_header age b) root (entries_of b.frozen) books) refl
        ∙ committed_stored mid k kept may.running may.stable complete may.later may.most keepable next
        ∙ ap (λ (f : FrozenPuts). on_snapshots (committed puts age f) (stored_in mid.seen b)) now.frozen ∙
        ap (on_snapshots (committed puts age frozen)) now.stored

-- ---- failures, counted over several calls

-- if all calls succeeded, no failure was counted
pub ok_counts : {T E : Type 0} {old new : Disk} {value : T} → new.failures ≡ old.failures → Counts {T = T} {E = E} old new (Ok value)
ok_counts {T} {E} {old} {new} {value} same = grind (arith, nat_tests)

-- a failure was counted, even if it is returned as another error
pub err_counts : {T E U F : Type 0} {old new : Disk} {e : E} {r : Result U F} → IsErr r → Counts {T = T} old new (Err e) → Counts old new r
err_counts failed counts = record { never_falls = counts.never_falls; cause = (λ _. counts.cause.0 refl, λ _. failed) }

-- ---- publishing a header after calls that change nothing stored

-- each crash that leaves the saved frames leaves these or the next ones
pub either_first : {old new : Disk} {saved next : SavedFrames} → LeavesSaved old new saved → LeavesEither old new saved next
either_first {old} {new} {saved} {next} run = grind (arith, nat_tests)

-- if an earlier call failed, nothing is published
pub publishes_none : {T E U F : Type 0} {old new : Disk} {b c : Books} {next : Stored} {e : E} {r : Result U F} → Stays old new b c →
    IsSoundOn old b → IsErr r → Counts {T = T} old new (Err e) → Publishes old new b c next r
publishes_none {T} {E} {U} {F} {old} {new} {b} {c} {next} {e} {r} stays sound failed counts = grind (arith, nat_tests)

-- a publish after successful calls that changed nothing stored is a publish from the state before these calls
pub publishes_after : {T E : Type 0} {old mid new : Disk} {a b c : Books} {next after : Stored} {r : Result T E} → Stays old mid a b →
    IsSoundOn old a → mid.failures ≡ old.failures → next ≡ after → Publishes mid new b c next r → Publishes old new a c after r
publishes_after {T} {E} {old} {mid} {new} {a} {b} {c} {next} {after} {r} stays sound none same is = grind (arith, nat_tests)

-- a publish of `next` is one of any state equal to `next`
pub publishes_as : {T E : Type 0} {old new : Disk} {b c : Books} {next after : Stored} {r : Result T E} → next ≡ after →
    Publishes old new b c next r → Publishes old new b c after r
publishes_as {old = old} {new = new} {b = b} {c = c} {r = r} same is = subst (λ (s : Stored). Publishes old new b c s r) same is

-- ---- the result of the call

module _ {disk : Disk} {b : Books} {next : CheckpointHeader} {root : Sums} {es : List Entry} (may : MayAdopt disk b next root es)
    {new : Disk}
    (size : new.sectors ≡ disk.sectors)
    (only : SavesOnly b.plan next disk.seen new.seen)
    (run : LeavesOnly disk new (λ c. Encodes c disk.sectors (state_in disk.seen b.plan b.header b.directory) ⊎ Encodes c disk.sectors
    (state_in disk.seen b.plan next es))) where
  abbrev after : Books
  after = adopted next root es b

  raw_kept : IsIntact disk.sectors disk.seen b
  raw_kept = kept_raw may.written may.stands

  kept_then : {c : Books} → c.unwritten ≡ b.unwritten → IsIntact disk.sectors new.seen c →
      IsIntact new.sectors (mended new.seen c.unwritten) c
  kept_then {c} same kept = grind (arith, nat_tests)

  moments : LeavesEither disk new (stored_on disk b).saved (stored_on disk after).saved
  moments = grind (arith, nat_tests)

  pub adopted_publishes : {T E : Type 0} {value : T} →
      LeavesState new (state_in disk.seen b.plan next es) (with_sums b.plan.version next root es) → new.failures ≡ disk.failures →
      Publishes {T = T} {E = E} disk new b (adopted next root es b) (stored_on disk (adopted next root es b)) (Ok value)
  adopted_publishes saved none = record {
    stands = record {
      kept = kept_then refl (kept_saves may.kept only may.spares_next);
      unwritten = without after may.written;
    };
    stored = stored_raw new b may.written after refl ∙ stored_saves may.kept only may.spares_next
        ∙ sym (stored_raw disk b may.written after refl);
    unchanged = tt;
    plan = refl;
    sound = rw (may.written, state_saves may.kept only may.spares_next) saved;
    size = size;
    any_moment = moments;
    cause = ok_counts none;
  }

  -- after a failure the books are unchanged
  pub left_publishes : {T E U F : Type 0} {e : E} {r : Result U F} → IsErr r → Counts {T = T} disk new (Err e) →
      Publishes disk new b b (stored_on disk (adopted next root es b)) r
  left_publishes {r} failed counts =
      search (
        kept_then refl (kept_saves raw_kept only may.spares),
        IfOk-from_err,
        on_err r (stored_raw new b may.written b refl ∙ stored_saves raw_kept only may.spares ∙ sym (stored_raw disk b may.written b refl)),
        moments,
        err_counts failed counts,
      )

-- publishing the next header commits the frozen frames
pub commits_by : {T E : Type 0} {old new : Disk} {b c : Books} {k age : ℕ} {r : Result T E} → MayCommitAt old b k age →
    Publishes old new b c (on_snapshots (committed puts age (frozen_of (seen_by old.seen b) b k)) (stored_on old b)) r →
    Commits old new b c age r
commits_by {old = old} {new = new} {b = b} {c = c} {k = k} {age = age} {r = r} may is = record {
  stands = is.stands;
  stored = λ f some. subst (λ (g : FrozenPuts). OnOk r (stored_on new c ≡ on_snapshots (committed puts age g) (stored_on old b)))
      (same_Some (frozen_of (seen_by old.seen b) b k) f (sym (ap (option_map (frozen_of (seen_by old.seen b) b)) may.running) ∙ some))
      is.stored;
  generation = on_ok_weaker r (λ e. ap (λ (s : Stored). s.saved.generation) e) is.stored;
  unchanged = is.unchanged;
  plan = is.plan;
  sound = is.sound;
  size = is.size;
  any_moment = subst (λ (o : Option ℕ). LeavesOneOf old new (stored_on old b).saved
      (option_map (λ f. next_saved puts age f (stored_on old b).saved) (option_map (frozen_of (seen_by old.seen b) b) o))) (sym may.running)
      is.any_moment;
  cause = is.cause;
}

-- ---- if no checkpoint is frozen

-- the books with this header, root and directory
abbrev pub with_header : Books → CheckpointHeader → Sums → List Entry → Books
with_header b next root es =
    record b { header = next; root = root; directory = es; moved = 0 }

no_places : (ps : List Place) → ((n : ℕ) → place_at ps n ≡ Nowhere) → replicate (length ps) Nowhere ≡ ps
no_places [] none = refl
no_places (p ∷ ps) none = rw (none zero, no_places ps (λ n. none (suc n)))

-- generations with the same remainder mod 2 have the same slots
pub slot_same : (image : Image) (plan : Plan) (g h : ℕ) → g % 2 ≡ h % 2 → (s n : ℕ) →
    slot_bytes image plan g s n ≡ slot_bytes image plan h s n
slot_same image plan g h same s n = ap (λ (r : ℕ). bytes_at image (half_start plan (if r == 0 then First else Second) + 9 * s) plan n) same

pub sums_same : (image : Image) (plan : Plan) (g h : ℕ) → g % 2 ≡ h % 2 → (s n : ℕ) → IsSlotSummed image plan h s n →
    IsSlotSummed image plan g s n
sums_same image plan g h same s n =
    subst (λ (r : ℕ). IfSummed (shape_of plan n) (sectors_from image (half_start plan (if r == 0 then First else Second) + 9 * s)
    (place_length plan n))) (sym same)

pub after_same : (g h : ℕ) (o : Option ℕ) → g % 2 ≡ h % 2 → generation_after g o % 2 ≡ generation_after h o % 2
after_same g h o same = grind (arith, nat_tests)

half_put : {image : Image} {p : Plan} {g h : ℕ} {ps : List Place} → h % 2 ≡ g % 2 → ArePut image p g ps → ArePut image p h ps
half_put {image} {p = plan} {g} {h} same are =
    are_put_same (λ n s lt is. slot_same image plan h g same s n) (λ n s lt is. sums_same image plan h g same s n) are

module _ {disk : Disk} {b : Books} (next : CheckpointHeader) (root : Sums) (es : List Entry) (is : IsDurable disk b)
    (idle : b.frozen_size ≡ None) where
  none : b.unwritten ≡ None
  none = none_idle b b.unwritten is.unwritten idle

  blank : (n : ℕ) → place_at b.frozen n ≡ Nowhere
  blank = nowhere_frozen is.kept idle

  pub idle_kept : IsIntact disk.sectors disk.seen b
  idle_kept = kept_raw none is

  idle_books : with_header b next root es ≡ adopted next root es b
  idle_books = grind (arith, nat_tests, no_places, blank)

  pub idle_stored : (stage : Snapshots FrozenPuts → Snapshots FrozenPuts) →
      stored_in disk.seen (with_header b next root es) ≡ on_snapshots stage (stored_in disk.seen b) →
      stored_on disk (adopted next root es b) ≡ on_snapshots stage (stored_on disk b)
  idle_stored stage stored = grind (arith, nat_tests)

  module _ (parity : next.generation % 2 ≡ b.header.generation % 2) (header : IsHeader
      (row b.plan.version).first_sequence b.plan.geometry.log next)
      (count : length es ≡ next.entries)
      (directory : IsDirectory b.plan.geometry es) (spelt : AreSpelt disk.seen b.plan next.age next.generation es)
      (apart : Spares b.plan b.header b.directory (directory_extent b.plan next.generation next.entries))
      (units : (row b.plan.version).sealed ≡ true → HasUnits disk.seen b.plan root next.generation es)
      (plain : (row b.plan.version).sealed ≡ false → root ≡ b.root) where
    abbrev sectors : Extent
    sectors = directory_extent b.plan next.generation next.entries

    inside : IsInside sectors (half_extent b.plan.version b.plan.geometry (half_sector b.plan next.generation))
    inside = directories_inside b.plan next.generation next.entries header.entries

    kept_next : IsIntact disk.sectors disk.seen (with_header b next root es)
    kept_next = record {
      readable = record {
        plan = is.kept.plan;
        inside = is.kept.inside;
        header = header;
        count = count;
        directory = directory;
        saved = spelt;
        units = units;
        no_root = λ unsealed. plain unsealed ∙ is.kept.no_root unsealed;
      };
      few = omega arith;
      moved = λ i less. absurd (omega (arith, less));
      frozen = half_put (omega (arith, parity)) idle_kept.frozen;
      running = subst (IsRunning (with_header b next root es)) (sym idle) blank;
      working = half_put (after_same next.generation b.header.generation b.frozen_size parity) idle_kept.working;
    }

    spares : SparesKept b sectors
    spares = search (arith, homes_spare, inside, none_spares, blank, half_spares, idle_half)

    spares_next : SparesKept (with_header b next root es) sectors
    spares_next = record {
      frames = directory_spares next.generation next.entries is.kept.plan directory header.entries;
      homes = λ i less. absurd (omega (arith, less));
      frozen = none_spares b.plan (next.generation + 1) b.frozen sectors blank;
      working = half_spares (working_generation (with_header b next root es)) next.generation is.kept.plan
          (idle_half (with_header b next root es) idle next.generation refl) is.kept.working.table is.kept.working.few inside;
    }

    pub may_adopt_idle : IsSoundOn disk b → b.header.sequence + 1 ≡ next.sequence → MayAdopt disk b next root es
    may_adopt_idle sound follows = grind (arith, nat_tests, sound, none, seen, idle_books, kept_next, spares, spares_next)

-- ---- a frame that may be kept at an age may be kept at a later one

module _ (g : Geometry) (age later : ℕ) (le : age ≤ later) where
  pub keepable_later : {n : ℕ} {f : Frame} → IsKeepable g age n f → IsKeepable g later n f
  keepable_later {n} {f} is = grind (arith, nat_tests)
