-- Which numbers were renewed since the last checkpoint or restart. The machine that a kernel stands for, up or down, and what a crash
-- leaves.
use Rattle.kernel.proofs.Names.{ℕ, Bool, true, false, not, List, length, map, refl, sym, ap, arith, range_with_len, get_or-map, ne_eqb, ext_get_or}
use Rattle.kernel.proofs.Names.{get_or-map-range_with_len, length-map-range_with_len, Cap, Frame, ObjectHeader, Content, blank_frame, frame_at, frames_in}
use Rattle.kernel.proofs.Names.{header_at, renewing, is_given_up, Parts, Renews, frames_of, objects_in, headers_in, Snapshots, moved_saved, FrozenFrames}
use Rattle.kernel.proofs.Names.{SavedFrames, home_saved, base_of, renewed_since, allocations_at, base_by, renewed_at, renewed_length, [], subst, ⊎_elim, inl}
use Rattle.kernel.proofs.Names.{inr, nat_tests, Geometry, Saved, at_home, Image, Disk, CountsNow, OnlyNow, leaves_weaker, started, Holds, LeavesSaved}
use Rattle.kernel.proofs.Names.{LeavesEither, denoted_by, saved_of, IsSoundSaved, DenotesOne, Leaves, LeavesOne, append-nil, Option, Some, slice_index_or}
use Rattle.kernel.proofs.Names.{Contains, Answer, Command, Machine, Running, Up, Down, candidates, opened, Reopens, Step, carried_out, refusal_of, second, Only}
use Rattle.kernel.proofs.Names.{Elapses, agrees_is, goes_on_cut, leaves_on, OpenFault, View, Live, Power, power_of, RefusesToOpen, Recovers, IsNoReason}
use Rattle.kernel.proofs.Names.{IsSomeDown, Opens, Reopened, IsSomeUp, IsUp, running, IsCaused, IsDeviceOf, IsSomeMachine, Serves, ServesFrom, ServesUp, Stands}
use Rattle.kernel.proofs.Names.{disk_of, one_denoted, one_not_bad, refused_by, takes_memory, wants_memory_to_show, Result, IfOk, Invocation, code_with, HasCode}
use Rattle.kernel.proofs.Names.{Refusal, ResultCode, done_with, moved}
use Rattle.std.proofs.Common.{◌≡◌, ◌+◌, ◌-◌, ◌<◌, ◌≤◌, ◌||◌, ◌∙◌, ◌==◌, ◌⊎◌, ◌∷◌, ◌++◌}
use Rattle.std.specs.Prelude.{if◌then◌else◌}
use Rattle.model.specs.declared.answer.Answer.TheVariants as answer
use Rattle.model.specs.declared.answer.Refusal.TheVariants as refusal
use Rattle.model.specs.declared.command.Command.TheVariants as command
use Rattle.layout.specs.declared.open_fault.OpenFault.TheVariants as fault
use Rattle.kernel.specs.Power as power

pub header_in : (hs : List ObjectHeader) (cs : List (Content Cap)) (n : ℕ) → (frame_at (frames_in hs cs) n).header ≡ header_at hs n
header_in hs cs n = sym (get_or-map (λ (f : Frame). f.header) (frames_in hs cs) n blank_frame) ∙
    ap (λ (ks : List ObjectHeader). header_at ks n) (headers_in hs cs)

-- a count differs from the saved one exactly if it differed before or rises now
differs : (gone : Bool) (base old new : ℕ) → base ≤ old → new ≡ old + (if gone then 1 else 0) →
    (not (old == base) || gone) ≡ not (new == base)
differs gone base old new le is = search (arith, nat_tests, ne_eqb)

-- the parameters: the frames at the last checkpoint, and the objects before and after a step that raises counts only by `Renews`
module _ (base : List Frame) (p q : Parts) (renews : Renews p q) (risen : (n : ℕ) → allocations_at base n ≤ allocations_at (frames_of p) n)
  where
    abbrev gone : ℕ → Bool
    gone n = is_given_up (objects_in p) (objects_in q) n

    rising : (n : ℕ) → allocations_at (frames_of q) n ≡ allocations_at (frames_of p) n + (if gone n then 1 else 0)
    rising n = search (arith, nat_tests, header_in)

    pub risen_on : (n : ℕ) → allocations_at base n ≤ allocations_at (frames_of q) n
    risen_on n = omega (arith, risen n, rising n)

    pub renewed_on : renewing (renewed_since base (frames_of p)) (objects_in p) (objects_in q) ≡ renewed_since base (frames_of q)
    unfolding renewing
    renewed_on =
        let before = renewed_since base (frames_of p) in
        let after = renewed_since base (frames_of q) in
        let test : ℕ → Bool = λ n. slice_index_or before n false || gone n in
        let count = length-map-range_with_len test 0 (length before) in
        let size = renewed_length base (frames_of p) in
        ext_get_or false (map test (range_with_len 0 (length before))) after (count ∙ (size ∙ sym (renewed_length base (frames_of q))))
        (λ n inside.
        let within : n < length before = omega (arith, inside, count) in
        let known : n < length base = omega (arith, within, size) in
        get_or-map-range_with_len test 0 (length before) n n false within (omega arith)
        ∙ (ap (λ (b : Bool). b || gone n) (renewed_at base (frames_of p) n known)
        ∙ (differs (gone n) (allocations_at base n) (allocations_at (frames_of p) n) (allocations_at (frames_of q) n) (risen n) (rising n)
        ∙ sym (renewed_at base (frames_of q) n known))))

frames_if : (b : Bool) (fs : SavedFrames) → (if b then home_saved fs else fs).frames ≡ fs.frames
frames_if b fs = search (arith, nat_tests)

pub base_moved : (a : Snapshots FrozenFrames) (n : ℕ) → base_of (moved n a) ≡ base_of a
base_moved a n = ap (λ (fs : List Frame). base_by fs a.frozen) (frames_if (a.to_move - n == 0) a.saved)

-- if an image denotes one of some states, it denotes one of any longer list
pub among : (g : Geometry) (size : ℕ) (c : Image) (ss ts : List Saved) → DenotesOne g size ss c → DenotesOne g size (ss ++ ts) c
among g size c [] ts one = absurd one
among g size c (s ∷ ss) ts one = ⊎_elim (λ here. inl here) (λ there. inr (among g size c ss ts there)) one

-- if no call was made, a crash leaves what it left before
pub leaves_here : (g : Geometry) (disk : Disk) (ss ts : List Saved) → OnlyNow disk → Leaves g disk ss → LeavesOne g disk disk (ss ++ ts)
leaves_here g disk ss ts only_now here = search (arith, nat_tests, started, among)

-- if the sectors hold the saved frames at every moment, a crash leaves the saved state
pub leaves_along : {g : Geometry} {old new : Disk} {fs : SavedFrames} {ts : List Saved} → IsSoundSaved g fs → new.sectors ≡ old.sectors →
    LeavesSaved old new fs → LeavesOne g old new (saved_of fs ∷ ts)
leaves_along {g} {old} {new} {fs} {ts} sound size moments = search (arith, nat_tests, leaves_weaker, denoted_by)

-- if the sectors hold the saved or the next frames at every moment, a crash leaves one of these two states
pub leaves_either : {g : Geometry} {old new : Disk} {fs next : SavedFrames} → IsSoundSaved g fs → IsSoundSaved g next →
    new.sectors ≡ old.sectors → LeavesEither old new fs next →
    LeavesOne g old new (saved_of fs ∷ saved_of next ∷ [])
leaves_either {g} {old} {new} {fs} {next} sound sound_next size moments = record {
  size = size;
  any_moment = leaves_weaker {old = old} {new = new} {P = λ c. Holds old.sectors c fs ⊎ Holds old.sectors c next}
      (DenotesOne g old.sectors (saved_of fs ∷ saved_of next ∷ []))
      (λ c held. ⊎_elim (λ was. inl (denoted_by g old.sectors c fs sound was))
      (λ is. inr (inl (denoted_by g old.sectors c next sound_next is))) held) moments;
}

-- if a crash at any moment of a run leaves one of some states, so does a crash at its end
pub leaves_end : (g : Geometry) (old new : Disk) (ss : List Saved) → CountsNow new → LeavesOne g old new ss → Leaves g new ss
leaves_end g old new ss counts_now run c left = search (arith, nat_tests)

-- ---- what is saved goes home

home_same : (fs : SavedFrames) → fs.entries ≡ 0 → home_saved fs ≡ fs
home_same fs none = search (arith, nat_tests)

home_or_saved : (g : Geometry) (size : ℕ) (c : Image) (fs : SavedFrames) → IsSoundSaved g fs → (home last : Bool) →
    (fs.entries == 0) ≡ home → Holds size c (if last then home_saved fs else fs) →
    DenotesOne g size (saved_of fs ∷ (if home then [] else if last then at_home (saved_of fs) ∷ [] else [])) c
home_or_saved g size c fs sound home false is holds = inl (denoted_by g size c fs sound holds)
home_or_saved g size c fs sound false true is holds = inr
    (inl (denoted_by g size c (home_saved fs) (record { geometry = sound.geometry; sound = sound.sound }) holds))
home_or_saved g size c fs sound true true is holds = search (arith, nat_tests, denoted_by, home_same)

pub leaves_home : (g : Geometry) (old new : Disk) (a : Snapshots FrozenFrames) (n : ℕ) → IsSoundSaved g a.saved →
    new.sectors ≡ old.sectors → LeavesEither old new a.saved (moved_saved n a) →
    LeavesOne g old new (saved_of a.saved ∷ (if a.saved.entries == 0 then [] else if a.to_move - n ==
    0 then at_home (saved_of a.saved) ∷ [] else []))
leaves_home g old new a n sound size moments =
    let more : List Saved = if a.saved.entries == 0 then [] else if a.to_move - n == 0 then at_home (saved_of a.saved) ∷ [] else [] in
    record {
      size = size;
      any_moment = leaves_weaker {old = old} {new = new} {P = λ c. Holds old.sectors c a.saved ⊎ Holds old.sectors c (moved_saved n a)}
          (DenotesOne g old.sectors (saved_of a.saved ∷ more)) (λ c held. ⊎_elim (λ was. inl (denoted_by g old.sectors c a.saved sound was))
          (λ is. home_or_saved g old.sectors c a.saved sound (a.saved.entries == 0) (a.to_move - n == 0) refl is)
          held) moments;
    }

-- ---- steps of the machine

only_one : (s t : Saved) → Contains (s ∷ []) t → t ≡ s
only_one s t there = search (arith, nat_tests)

-- if a machine that is up is restarted, the outcome is that of opening the saved state
up_again : (g : Geometry) (r : Running) (a : Answer) (after : Machine) → Reopens g (r.saved ∷ []) a after →
    (a ≡ answer.At r.saved.generation r.saved.world.age) × (after ≡ Up (opened g r.saved))
up_again g r a after again = search (arith, nat_tests, only_one)

-- a `restart` of a machine that is down at m's candidates is also a `restart` of m
restarts : (g : Geometry) (m : Machine) (a : Answer) (after : Machine) → Step g (Down (candidates m)) command.Restart a after →
    Step g m command.Restart a after
unfolding refusal_of carried_out
restarts g (Up r) a after again = search (arith, nat_tests, up_again)
restarts g (Down saved) a after again = again

is_cut : (g : Geometry) (m : Machine) (a : Answer) (after : Machine) → Step g (Down (candidates m)) command.Restart a after →
    Step g m command.Cut a after
unfolding refusal_of carried_out
is_cut g (Up r) a after again = restarts g (Up r) a after again
is_cut g (Down saved) a after again = again

reopens_step : (g : Geometry) (m : Machine) (c : Command) (a : Answer) (after : Machine) → (c ≡ command.Restart) ⊎ (c ≡ command.Cut) →
    Step g (Down (candidates m)) command.Restart a after → Step g m c a after
reopens_step g m c a after which again = search (arith, nat_tests, restarts, is_cut)

-- ---- crashes

-- if a crash leaves one of some candidates, it leaves one of any longer list
more_left : (g : Geometry) (old new : Disk) (ss ts : List Saved) → LeavesOne g old new ss → LeavesOne g old new (ss ++ ts)
more_left g old new ss ts run = search (arith, nat_tests, leaves_weaker, among)

-- two runs, one after the other, are a run
left_on : (g : Geometry) (old mid new : Disk) (ss : List Saved) → LeavesOne g old mid ss → LeavesOne g mid new ss → LeavesOne g old new ss
left_on g old mid new ss first next = search (arith, nat_tests, leaves_on)

-- the parameters: the disk before and after a power cut, which leaves an image that a crash may leave
module _ (g : Geometry) (old new : Disk) (ss : List Saved) (left : old.may_leave new.seen) (durable : Only new.seen new)
    (size : new.sectors ≡ old.sectors)
    (before : Leaves g old ss) where
  pub cut_leaves : Leaves g new ss
  cut_leaves c now = search (arith, nat_tests, agrees_is)

  pub cut_left : OnlyNow old → CountsNow old → Elapses old new → LeavesOne g old new ss
  cut_left only_now counts_now time = search (arith, nat_tests, goes_on_cut, started)

module _ {D S : Type 0} (disk : D → Disk) (view : S → View D) (parts : S → Parts) where
  -- ---- a command that goes on

  -- a kernel with a store is up
  pub some_up : (o : Option (Live S)) (d : Option D) (l : Live S) → o ≡ Some l → IsSomeMachine disk view parts (power_of o d) →
      IsSomeMachine disk view parts (power.Up l)
  some_up o d l is some = subst (λ (x : Option (Live S)). IsSomeMachine disk view parts (power_of x d)) is some

  pub requested_up : (o : Option (Live S)) (d : Option D) (l : Live S) → o ≡ Some l → IsSomeMachine disk view parts (power_of o d) →
      IsSomeUp disk view parts l
  requested_up o d l is some = search (arith, nat_tests, some_up)

  -- if the answer isn't `Fault`, the kernel stays up
  pub stays_up : (l k : Live S) (c : Command) (a : Answer) → (a ≡ answer.Refused refusal.Fault → ⊥) → ServesUp disk view parts l c a k →
      Serves disk view parts (power.Up l) c a (power.Up k)
  stays_up l k c a fine serves g (Up r) stands =
      let s = serves g stands.0 in
      subst (λ (x : Running). ServesFrom disk view parts g (Up x) (power.Up l) c a (power.Up k)) (sym stands.1) (record {
        after = Up (running disk view parts k);
        step = s.step fine;
        stands = (s.up fine, refl);
        leaves = s.leaves;
      })
  stays_up l k c a fine serves g (Down saved) stands = absurd stands

  -- the device beneath a kernel is unique
  pub one_device : (p : Power D S) (d e : D) → IsDeviceOf disk view parts p d → IsDeviceOf disk view parts p e → d ≡ e
  one_device p d e is other = search (arith, nat_tests)

  -- if the answer is `Fault`, the kernel goes down with the store's device
  pub goes_down : (l k : Live S) (c : Command) (d : D) → CountsNow (disk d) →
      ServesUp disk view parts l c (answer.Refused refusal.Fault) k → d ≡ (view k.store).beneath →
      Serves disk view parts (power.Up l) c (answer.Refused refusal.Fault) (power.Down d)
  goes_down l k c d counts_now serves is g (Up r) stands =
      let was : Machine = Up (running disk view parts l) in
      let ss : List Saved = candidates was ++ second was c in
      let left : LeavesOne g (disk (view l.store).beneath) (disk d) ss = subst
      (λ (x : D). LeavesOne g (disk (view l.store).beneath) (disk x) ss) (sym is)
      (serves g stands.0).leaves in
      subst (λ (x : Running). ServesFrom disk view parts g (Up x) (power.Up l) c (answer.Refused refusal.Fault) (power.Down d))
      (sym stands.1) (record {
        after = Down ss;
        step = inr (inr (tt, refl, refl));
        stands = leaves_end g (disk (view l.store).beneath) (disk d) ss counts_now left;
        leaves = left;
      })
  goes_down l k c d counts_now serves is g (Down saved) stands = absurd stands

  -- a kernel that stood for some machine still does after a command
  pub some_after : (p q : Power D S) (c : Command) (a : Answer) → Serves disk view parts p c a q → IsSomeMachine disk view parts p →
      IsSomeMachine disk view parts q
  some_after p q c a serves some = let s = serves some.0 some.1 some.2 in (some.0, s.after, s.stands)

  -- if the answer is `NoMemory`, the command shows an object or opens the device
  pub memory_taken : (p q : Power D S) (c : Command) (a : Answer) → Serves disk view parts p c a q → IsSomeMachine disk view parts p →
      a ≡ answer.Refused refusal.NoMemory → takes_memory c ≡ true
  memory_taken p q c a serves some is = search (arith, nat_tests, wants_memory_to_show)

  -- ---- opened, and opened again

  pub opens_up : (device : D) (l : Live S) → Recovers disk view parts device l → Opens disk view parts device (power.Up l)
  opens_up device l recovers =
      let fs = (view l.store).snapshots.saved in
      record {
        geometry = fs.geometry;
        saved = saved_of fs;
        denoted = record { frames = fs; holds = recovers.holds; sound = recovers.up.sound.saved; stands = refl };
        stands = (recovers.up, sym recovers.at_saved);
        durable = recovers.durable;
        only_reads = recovers.only_reads;
        failures = recovers.failures;
      }

  pub opened_some : (device : D) (l : Live S) → Recovers disk view parts device l → IsSomeMachine disk view parts (power.Up l)
  opened_some device l recovers = let opens = opens_up device l recovers in
      (opens.geometry, Up (opened opens.geometry opens.saved), opens.stands)

  module _ (device : D) (seen_left : (disk device).may_leave (disk device).seen) (g : Geometry) (ss : List Saved)
      (leaves : Leaves g (disk device) ss) where
    pub rises : (l : Live S) (generation age : ℕ) → Recovers disk view parts device l →
        generation ≡ (view l.store).snapshots.saved.generation → age ≡ (view l.store).snapshots.saved.age →
        Reopened disk view parts g ss device (answer.At generation age) (power.Up l)
    rises l generation age recovers same_generation same_age =
        let fs = (view l.store).snapshots.saved in
        let one = one_denoted g (disk device).sectors (disk device).seen ss fs (leaves (disk device).seen seen_left) recovers.holds in
        let same : fs.geometry ≡ g = one.1.geometry in
        record {
          after = Up (opened g (saved_of fs));
          step = inl (saved_of fs, one.0, ap (λ (n : ℕ). answer.At n age) same_generation ∙ ap (answer.At fs.generation) same_age, refl);
          stands = (
            subst (λ (h : Geometry). IsUp disk view parts h l) same recovers.up,
            subst (λ (h : Geometry). opened h (saved_of fs) ≡ running disk view parts l) same (sym recovers.at_saved),
          );
          leaves = record {
            size = recovers.only_reads.size;
            any_moment = leaves_weaker {old = disk device} {new = disk (view l.store).beneath} {P = (disk device).may_leave}
                (DenotesOne g (disk device).sectors ss) leaves recovers.only_reads.any_moment;
          };
        }

    pub stays_down : (why : OpenFault) (back : D) → RefusesToOpen disk device back why →
        Reopened disk view parts g ss device (answer.Refused (refused_by why)) (power.Down back)
    stays_down why back refuses = reported why refuses
      where
        run : LeavesOne g (disk device) (disk back) ss
        run = record {
          size = refuses.only_reads.size;
          any_moment = leaves_weaker {old = disk device} {new = disk back} {P = (disk device).may_leave}
              (DenotesOne g (disk device).sectors ss) leaves
              refuses.only_reads.any_moment;
        }

        still : Leaves g (disk back) ss
        still c left = subst (λ (n : ℕ). DenotesOne g n ss c) (sym refuses.only_reads.size) (leaves c (refuses.only_reads.crash c left))

        reported : (e : OpenFault) → RefusesToOpen disk device back e → Reopened disk view parts g ss device (answer.Refused (refused_by e))
            (power.Down back)
        reported fault.Failed r = record {
          after = Down ss;
          step = inr (inr (refl, refl, sym (ap Down (append-nil ss))));
          stands = still;
          leaves = run;
        }
        reported fault.NoMemory r = record { after = Down ss; step = inr (inl (refl, refl, refl)); stands = still; leaves = run }
        reported (fault.Bad reason) r = absurd
            (one_not_bad g (disk device).sectors (disk device).seen ss reason (leaves (disk device).seen seen_left) r.is_why.1)

  -- if a crash of a kernel left the device's image, `recover` can't refuse it as bad
  pub no_reason : (device back : D) (why : OpenFault) → (disk device).may_leave (disk device).seen → IsSomeDown disk device →
      RefusesToOpen disk device back why → IsNoReason why
  no_reason device back (fault.Bad reason) seen_left down refuses =
      absurd (one_not_bad down.0 (disk device).sectors (disk device).seen down.1 reason (down.2 (disk device).seen seen_left)
      refuses.is_why.1)
  no_reason device back c seen_left down refuses = tt

  -- ---- restarts and power cuts

  -- what a crash leaves on the device of a machine
  beneath : (g : Geometry) (p : Power D S) (m : Machine) (d : D) → Stands disk view parts g p m → IsDeviceOf disk view parts p d →
      Leaves g (disk d) (candidates m)
  beneath g p m d stands is = search (arith, nat_tests)

  disk_is : (p : Power D S) (d : D) (P : Disk → Type 0) → IsDeviceOf disk view parts p d → P (disk d) → P (disk_of disk view parts p)
  disk_is p d P is has = search (arith, nat_tests)

  pub some_down : (p : Power D S) (d : D) → IsSomeMachine disk view parts p → IsDeviceOf disk view parts p d → IsSomeDown disk d
  some_down p d some is = (some.0, candidates some.1, beneath some.0 p some.1 d some.2 is)

  pub risen_some : (q : Power D S) (e : D) (a : Answer) → IsSomeDown disk e →
      ((g : Geometry) (ss : List Saved) → Leaves g (disk e) ss → Reopened disk view parts g ss e a q) → IsSomeMachine disk view parts q
  risen_some q e a down again = let r = again down.0 down.1 down.2 in (down.0, r.after, r.stands)

  module _ (p q : Power D S) (d : D) (c : Command) (a : Answer) (is : IsDeviceOf disk view parts p d)
      (which : (c ≡ command.Restart) ⊎ (c ≡ command.Cut)) where
    -- if opening the device again leaves only what a crash left before, it serves the command
    pub opened_again : (e : D) → ((g : Geometry) (ss : List Saved) → Leaves g (disk d) ss →
        LeavesOne g (disk d) (disk e) ss × Leaves g (disk e) ss) → ((g : Geometry) (ss : List Saved) → Leaves g (disk e) ss →
        Reopened disk view parts g ss e a q) → Serves disk view parts p c a q
    opened_again e left again g m stands =
        let ss = candidates m in
        let first = left g ss (beneath g p m d stands is) in
        let r = again g ss first.1 in
        record {
          after = r.after;
          step = reopens_step g m c a r.after which r.step;
          stands = r.stands;
          leaves = disk_is p d (λ (x : Disk). LeavesOne g x (disk_of disk view parts q) (ss ++ second m c)) is
              (more_left g (disk d) (disk_of disk view parts q) ss (second m c)
              (left_on g (disk d) (disk e) (disk_of disk view parts q) ss first.0 r.leaves));
        }

    pub again_caused : (e : D) → (disk e).failures ≡ (disk d).failures → IsCaused (disk e) (disk_of disk view parts q) a →
        IsCaused (disk_of disk view parts p) (disk_of disk view parts q) a
    again_caused e same caused = search (arith, nat_tests, disk_is)

  -- if the device wasn't called, a crash leaves what it left before
  pub left_alone : (d : D) → OnlyNow (disk d) → (g : Geometry) (ss : List Saved) → Leaves g (disk d) ss →
      LeavesOne g (disk d) (disk d) ss × Leaves g (disk d) ss
  left_alone d only_now g ss leaves = search (arith, nat_tests, append-nil, leaves_here)

  pub left_cut : (d e : D) → OnlyNow (disk d) → CountsNow (disk d) → (disk d).may_leave (disk e).seen → Only (disk e).seen (disk e) →
      (disk e).sectors ≡ (disk d).sectors → Elapses (disk d) (disk e) →
      (g : Geometry) (ss : List Saved) → Leaves g (disk d) ss → LeavesOne g (disk d) (disk e) ss × Leaves g (disk e) ss
  left_cut d e only_now counts_now left durable size time g ss leaves = search (arith, nat_tests, cut_left, cut_leaves)

  pub some_cut : (d e : D) → OnlyNow (disk d) → CountsNow (disk d) → (disk d).may_leave (disk e).seen → Only (disk e).seen (disk e) →
      (disk e).sectors ≡ (disk d).sectors → Elapses (disk d) (disk e) → IsSomeDown disk d → IsSomeDown disk e
  some_cut d e only_now counts_now left durable size time down = search (arith, nat_tests, left_cut)

-- the result code that an invocation reports is that of the machine's objects
module _ {D S : Type 0} (disk : D → Disk) (view : S → View D) (parts : S → Parts) where
  invoked_code : (l : Live S) (i : Invocation) (code : Option ResultCode) →
      code ≡ code_with (parts l.store).geometry (objects_in (parts l.store)) i answer.Done →
      HasCode disk view parts (power.Up l) (command.Invoke i) (done_with code)
  invoked_code l i code is g m stands = search (arith, nat_tests)

  pub up_code : (l : Live S) (i : Invocation) (r : Result (Option ResultCode) Refusal) →
      IfOk r (λ code. code ≡ code_with (parts l.store).geometry (objects_in (parts l.store)) i answer.Done)
      → IfOk r (λ code. HasCode disk view parts (power.Up l) (command.Invoke i) (done_with code))
  up_code l i r is = search (arith, nat_tests, invoked_code)
