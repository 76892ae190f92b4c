-- Commands that are served (`ServesUp`): refused, carried out, or ended by a failure of the device.
use Rattle.kernel.proofs.Names.{nat_tests, ℕ, Bool, Option, None, Some, Err, List, [], length, refl, sym, ap, subst, arith, Answer, Refusal, Command, Geometry}
use Rattle.kernel.proofs.Names.{AreKeepable, IsSoundFrames, world_at, Frozen, Running, Saved, Up, touched_count, untouched, Step, refusal_of, second, Image}
use Rattle.kernel.proofs.Names.{Disk, IsCommitAnswer, IsFreezeAnswer, IsRefused, Holds, LeavesSaved, LeavesEither, Parts, frames_of, objects_in, keepable_count}
use Rattle.kernel.proofs.Names.{MayCommit, Snapshots, freezing, left_in, moved_saved, next_saved, all_frozen, whole, FrozenFrames, IsStabilizeAnswer, Continues}
use Rattle.kernel.proofs.Names.{View, stabilized, AreCounted, BanksState, Performs, Live, saved_of, LeavesOne, AreSoundTogether, IsUp, base_of, disk_at}
use Rattle.kernel.proofs.Names.{frozen_of, renewed_since, running, running_of, IsCaused, ServesUp, leaves_saved, base_frozen, none_renewed, MakesNoDeviceCall}
use Rattle.std.proofs.Common.{◌≡◌, ◌+◌, ◌-◌, ◌^◌, ◌<◌, ◌≤◌, ◌∷◌, ◌∙◌}
use Rattle.checkpoint.specs.Snapshots as stage
use Rattle.model.specs.declared.answer.Answer.TheVariants as answer
use Rattle.model.specs.declared.answer.Refusal.TheVariants as refusal
use Rattle.model.specs.declared.command.Command.TheVariants as command
use Rattle.kernel.proofs.Performing.{refused_step}
use Rattle.kernel.proofs.Names.{AreSameUnlessFailed, unrisen}
use Rattle.checkpoint.specs.Store.{all_untouched}
use Rattle.kernel.proofs.Machines.{leaves_along, leaves_either, leaves_here, leaves_home, base_moved, renewed_on}
use Rattle.kernel.proofs.Stages.{acts_sound, begun_sound, committed_sound, frozen_none, frozen_some, moved_sound, next_sound, none_there}
use Rattle.kernel.proofs.Stages.{same_running, saved_moved, some_left, some_there, stabilized_sound, stays_sound, checkpoint_step, commit_step, evict_refused}
use Rattle.kernel.proofs.Stages.{evict_step, migrate_step, none_to_commit, none_to_stabilize, not_home, not_stable, running_already, second_of_commit}
use Rattle.kernel.proofs.Stages.{stabilize_step}

-- the state of a kernel after its store was replaced
abbrev pub with_store : {S : Type 0} → Live S → S → Live S
with_store l s = record { store = s; banks = l.banks; age = l.age; frozen_age = l.frozen_age }

-- The parameters: the ghost members of a device and of an object store, and two of their laws.
module _ {D S : Type 0} (disk : D → Disk) (view : S → View D) (parts : S → Parts)
    (only_now : (d : D) (c : Image) → (disk d).left_since (disk d).moment c → (disk d).may_leave c)
    (sound_holds : (s : S) (c : Image) → (view s).usable → (disk (view s).beneath).may_leave c →
    Holds (disk (view s).beneath).sectors c (view s).snapshots.saved) where
  -- if a store is usable and sound, a kernel with it is up
  pub is_up : (g : Geometry) (l : Live S) → (view l.store).usable → AreSoundTogether g (parts l.store) (view l.store).snapshots l.banks
      l.age l.frozen_age → IsUp disk view parts g l
  is_up g l store sound = search (arith, nat_tests, leaves_saved)

  -- if a refusal applies and nothing changes, the kernel served the command
  pub refused : (l : Live S) (c : Command) (why : Refusal) → ((g : Geometry) → IsUp disk view parts g l →
      refusal_of g (running disk view parts l) c ≡ Some why) →
      ServesUp disk view parts l c (answer.Refused why) l
  refused l c why applies g up = record {
    step = λ other. refused_step g (running disk view parts l) c why (applies g up);
    up = λ other. up;
    leaves = leaves_here g (disk_at disk view parts l) (saved_of (view l.store).snapshots.saved ∷ [])
        (second (Up (running disk view parts l)) c)
        (only_now (view l.store).beneath) up.leaves;
  }

  -- a refusal is served if the store after it equals the one before
  pub refused_again : (l : Live S) (s : S) (c : Command) (why : Refusal) → s ≡ l.store →
      ((g : Geometry) → IsUp disk view parts g l → refusal_of g (running disk view parts l) c ≡ Some why) →
      ServesUp disk view parts l c (answer.Refused why) (with_store l s)
  refused_again l s c why same applies = search (arith, nat_tests, refused)

  -- a command that fails is served if a crash during it leaves only states that it may leave
  pub failed : (old new : Live S) (c : Command) →
      ((g : Geometry) → IsUp disk view parts g old → LeavesOne g (disk_at disk view parts old) (disk_at disk view parts new)
      (saved_of (view old.store).snapshots.saved ∷ second (Up (running disk view parts old)) c)) →
      ServesUp disk view parts old c (answer.Refused refusal.Fault) new
  failed old new c leaves g up = record { step = λ other. absurd (other refl); up = λ other. absurd (other refl); leaves = leaves g up }

  -- ---- evictions, invocations, loads, stores and what is shown

  module _ (l : Live S) (s : S) (continues : Continues disk (view l.store) (view s)) where
    continues_along : (g : Geometry) (c : Command) → IsUp disk view parts g l →
        LeavesOne g (disk_at disk view parts l) (disk (view s).beneath) (saved_of (view l.store).snapshots.saved ∷ second
        (Up (running disk view parts l)) c)
    continues_along g c up = search (arith, nat_tests, leaves_along)

    pub evict_failed : (n : ℕ) → ServesUp disk view parts l (command.Evict n) (answer.Refused refusal.Fault) (with_store l s)
    evict_failed n = failed l (with_store l s) (command.Evict n) (λ g up. continues_along g (command.Evict n) up)

    module _ (before : (parts l.store).failures ≡ (disk (view l.store).beneath).failures)
        (after : (parts s).failures ≡ (disk (view s).beneath).failures) where
      on_disk : (parts s).failures ≡ (parts l.store).failures → (disk (view s).beneath).failures ≡ (disk (view l.store).beneath).failures
      on_disk stayed = sym after ∙ stayed ∙ before

      -- a command of a process is served if the process performs it (`Performs`) and the age doesn't fall
      pub acted : (banks : BanksState) (age : ℕ) (c : Command) (a : Answer) → l.age ≤ age →
          Performs l.age (parts l.store) c a age (parts s) → ((parts s).failures ≡ (parts l.store).failures →
          AreCounted (parts s).geometry (objects_in (parts s)) banks) → ServesUp disk view parts l c a
          (record { store = s; banks = banks; age = age; frozen_age = l.frozen_age })
      acted banks age c a later serves counted g up = record {
        step = λ other.
            subst (λ (x : Snapshots FrozenFrames). Step g (Up (running disk view parts l)) c a
            (Up (running_of (parts s) x age l.frozen_age)))
            (sym (beside other))
            (subst (λ (h : Geometry). Step h (Up (running disk view parts l)) c a
            (Up (running_of (parts s) (view l.store).snapshots age l.frozen_age)))
            up.sound.geometry (subst (λ (rs : List Bool). Step (parts l.store).geometry (Up (running disk view parts l)) c a
            (Up (record (running_of (parts s) (view l.store).snapshots age l.frozen_age) { renewed = rs })))
            (renewed_on (base_of (view l.store).snapshots) (parts l.store) (parts s) (serves.stays other).renews up.sound.risen)
            (serves.step (renewed_since (base_of (view l.store).snapshots) (frames_of (parts l.store)))
            (frozen_of l.frozen_age (view l.store).snapshots.frozen) (saved_of (view l.store).snapshots.saved)
            (view l.store).snapshots.to_move other)));
        up = λ other.
            let stays = serves.stays other in
            let geometry : (parts s).geometry ≡ g = stays.geometry ∙ up.sound.geometry in
            is_up g (record { store = s; banks = banks; age = age; frozen_age = l.frozen_age })
            (continues.usable (on_disk (stayed other)) up.store)
            (acts_sound (beside other) later geometry stays.renews
            (subst (λ (h : Geometry). IsSoundFrames h age (frames_of (parts s))) geometry stays.sound)
            (subst (λ (h : Geometry). AreCounted h (objects_in (parts s)) banks) geometry (counted (stayed other))) up.sound);
        leaves = continues_along g c up;
      }
        where
          stayed : (a ≡ answer.Refused refusal.Fault → ⊥) → (parts s).failures ≡ (parts l.store).failures
          stayed other = unrisen (parts l.store).failures (parts s).failures serves.later (λ rose. other (serves.cause.1 rose))

          beside : (a ≡ answer.Refused refusal.Fault → ⊥) → (view s).snapshots ≡ (view l.store).snapshots
          beside other = continues.snapshots (on_disk (stayed other))

      -- an eviction is served if the present objects stay the same
      pub evicted : parts s ≡ parts l.store → (n : ℕ) → n < length (parts l.store).headers →
          ServesUp disk view parts l (command.Evict n) answer.Done (with_store l s)
      evicted same n within g up =
          let stayed = on_disk (ap (λ (p : Parts). p.failures) same) in
          let beside = continues.snapshots stayed in
          record {
            step = λ other.
                subst (λ (r : Running). Step g (Up (running disk view parts l)) (command.Evict n) answer.Done (Up r))
                (sym (same_running same beside l.age l.frozen_age))
                (evict_step g (running disk view parts l) n (subst (λ (m : ℕ). n < m)
                (keepable_count g l.age (parts l.store) up.sound.now.keepable) within));
            up = λ other. is_up g (with_store l s) (continues.usable stayed up.store) (stays_sound same beside up.sound);
            leaves = continues_along g (command.Evict n) up;
          }

  pub bad_number : (l : Live S) (n : ℕ) → length (parts l.store).headers ≤ n →
      ServesUp disk view parts l (command.Evict n) (answer.Refused refusal.BadNumber) l
  bad_number l n past = refused l (command.Evict n) refusal.BadNumber
      (λ g up. evict_refused g (running disk view parts l) n (subst (λ (m : ℕ). m ≤ n)
      (keepable_count g l.age (parts l.store) up.sound.now.keepable) past))

  -- ---- the stages of a checkpoint

  -- a checkpoint is served if all objects are frozen, and the device isn't called
  pub begun : (l : Live S) (s : S) (n : ℕ) → l.age < 2 ^ 62 → (view l.store).snapshots.frozen ≡ None →
      (view l.store).snapshots.saved.entries ≡ 0 → parts s ≡ all_untouched (parts l.store) → n ≡ touched_count (parts l.store).touched →
      (view s).snapshots ≡ freezing (all_frozen (frames_of (parts l.store)) (touched_count (parts l.store).touched))
      (view l.store).snapshots → (view s).beneath ≡ (view l.store).beneath → (view s).usable →
      ServesUp disk view parts l command.Checkpoint (answer.Frozen n) (record
      { store = s; banks = l.banks; age = l.age + 1; frozen_age = l.age + 1 })
  begun l s n young none home same size beside beneath usable g up =
      let a = (view l.store).snapshots in
      let before = running disk view parts l in
      record {
        step = λ other.
            subst (λ (X : Type 0). X) (sym (λ i. Step g (Up before) command.Checkpoint (answer.Frozen (size i)) (Up (after g up i))))
            (checkpoint_step g before young (frozen_none a.frozen l.frozen_age none) home);
        up = λ other. is_up g (record { store = s; banks = l.banks; age = l.age + 1; frozen_age = l.age + 1 }) usable
            (subst (λ (x : Snapshots FrozenFrames). AreSoundTogether g (parts s) x l.banks (l.age + 1) (l.age + 1)) (sym beside)
            (begun_sound up.sound (parts s) (touched_count (parts l.store).touched) (ap (λ (p : Parts). p.geometry) same) frames young));
        leaves = subst (λ (d : D). LeavesOne g (disk_at disk view parts l) (disk d) (saved_of a.saved ∷ [])) (sym beneath)
            (leaves_here g (disk_at disk view parts l) (saved_of a.saved ∷ []) [] (only_now (view l.store).beneath) up.leaves);
      }
    where
      frames : frames_of (parts s) ≡ frames_of (parts l.store)
      frames = ap frames_of same

      after : (g : Geometry) (up : IsUp disk view parts g l) → running_of (parts s) (view s).snapshots (l.age + 1) (l.age + 1) ≡ record {
        now = world_at (l.age + 1) (frames_of (parts l.store));
        touched = untouched g;
        renewed = untouched g;
        frozen = Some (record {
          world = world_at (l.age + 1) (frames_of (parts l.store));
          size = touched_count (parts l.store).touched;
          left = touched_count (parts l.store).touched;
        });
        saved = saved_of (view l.store).snapshots.saved;
        to_move = (view l.store).snapshots.to_move;
      }
      after g up = λ i. record {
        now = world_at (l.age + 1) (frames i);
        touched = (ap (λ (p : Parts). p.touched) same ∙ ap untouched up.sound.geometry) i;
        renewed = (ap (λ (x : Snapshots FrozenFrames). renewed_since (base_of x) (frames_of (parts s))) beside
            ∙ (ap (renewed_since (frames_of (parts l.store))) frames ∙ none_renewed g (frames_of (parts l.store))
            up.sound.now.keepable.count)) i;
        frozen = frozen_of (l.age + 1) (beside i).frozen;
        saved = saved_of (beside i).saved;
        to_move = (beside i).to_move;
      }

  -- the parameters: the kernel before a stage that calls the device, and the store after it
  module _ (l : Live S) (s : S) (size : (disk (view s).beneath).sectors ≡ (disk (view l.store).beneath).sectors)
    where
      -- if only the snapshots changed, and they are sound, the kernel is still up
      came : parts s ≡ parts l.store → (g : Geometry) (b : Snapshots FrozenFrames) → (view s).snapshots ≡ b → (view s).usable →
          AreSoundTogether g (parts l.store) b l.banks l.age l.frozen_age → IsUp disk view parts g (with_store l s)
      came same g b beside store sound = is_up g (with_store l s) store (stays_sound same beside sound)

      stepped : parts s ≡ parts l.store → (g : Geometry) (b : Snapshots FrozenFrames) (c : Command) (a : Answer) → (view s).snapshots ≡ b →
          Step g (Up (running disk view parts l)) c a (Up (running_of (parts l.store) b l.age l.frozen_age)) →
          Step g (Up (running disk view parts l)) c a (Up (running disk view parts (with_store l s)))
      stepped same g b c a beside step =
          subst (λ (r : Running). Step g (Up (running disk view parts l)) c a (Up r)) (sym (same_running same beside l.age l.frozen_age))
          step

      module _ (f : FrozenFrames) (frozen : (view l.store).snapshots.frozen ≡ Some f) where
        now_frozen : Frozen
        now_frozen = record { world = world_at l.frozen_age f.frames; size = f.size; left = f.left }

        is_frozen : (running disk view parts l).frozen ≡ Some now_frozen
        unfolding now_frozen
        is_frozen = frozen_some (view l.store).snapshots.frozen f l.frozen_age frozen

        -- `stabilize`: after a crash at any moment the image denotes the saved state
        module _ (moments : LeavesSaved (disk (view l.store).beneath) (disk (view s).beneath) (view l.store).snapshots.saved) (n : ℕ)
          where
            stabilize_along : (g : Geometry) → IsUp disk view parts g l →
                LeavesOne g (disk_at disk view parts l) (disk (view s).beneath) (saved_of (view l.store).snapshots.saved ∷ [])
            stabilize_along g up = leaves_along up.sound.saved size moments

            pub stabilize_went : parts s ≡ parts l.store → (left : ℕ) → left ≡ f.left - n →
                (view s).snapshots ≡ stabilized n f (view l.store).snapshots → (view s).usable →
                ServesUp disk view parts l (command.Stabilize n) (answer.Left left) (with_store l s)
            unfolding now_frozen
            stabilize_went same left reported beside usable g up = record {
              step = λ other.
                  stepped same g (stabilized n f (view l.store).snapshots) (command.Stabilize n) (answer.Left left) beside
                  (subst (λ (X : Type 0). X) (λ i. Step g (Up (running disk view parts l)) (command.Stabilize n)
                  (answer.Left (sym reported i))
                  (Up (record (running_of (parts l.store) (stabilized n f (view l.store).snapshots) l.age l.frozen_age) {
                    renewed = renewed_since (base_frozen (view l.store).snapshots f frozen i) (frames_of (parts l.store));
                  }))) (stabilize_step g (running disk view parts l) n now_frozen is_frozen));
              up = λ other. came same g (stabilized n f (view l.store).snapshots) beside usable (stabilized_sound up.sound n f frozen);
              leaves = stabilize_along g up;
            }

            pub stabilize_failed : ServesUp disk view parts l (command.Stabilize n) (answer.Refused refusal.Fault) (with_store l s)
            stabilize_failed = failed l (with_store l s) (command.Stabilize n) stabilize_along

        -- `commit`: after a crash at any moment the image denotes the saved state or the frozen one
        module _ (stable : f.left ≡ 0)
            (moments : LeavesEither (disk (view l.store).beneath) (disk (view s).beneath) (view l.store).snapshots.saved
            (next_saved whole l.frozen_age f (view l.store).snapshots.saved)) where
          commit_along : (g : Geometry) → IsUp disk view parts g l →
              LeavesOne g (disk_at disk view parts l) (disk (view s).beneath)
              (saved_of (view l.store).snapshots.saved ∷ second (Up (running disk view parts l)) command.Commit)
          unfolding now_frozen
          commit_along g up =
              subst (λ (ss : List Saved). LeavesOne g (disk_at disk view parts l) (disk (view s).beneath)
              (saved_of (view l.store).snapshots.saved ∷ ss))
              (sym (second_of_commit g (running disk view parts l) now_frozen is_frozen stable))
              (leaves_either up.sound.saved (next_sound up.sound f frozen) size moments)

          pub commit_went : parts s ≡ parts l.store → (generation : ℕ) → generation ≡ (view l.store).snapshots.saved.generation + 1 →
              (view s).snapshots ≡ stage.committed whole l.frozen_age f (view l.store).snapshots → (view s).usable →
              ServesUp disk view parts l command.Commit (answer.Committed generation) (with_store l s)
          unfolding now_frozen
          commit_went same generation reported beside usable g up = record {
            step = λ other.
                stepped same g (stage.committed whole l.frozen_age f (view l.store).snapshots) command.Commit (answer.Committed generation)
                beside
                (subst (λ (X : Type 0). X) (λ i. Step g (Up (running disk view parts l)) command.Commit (answer.Committed (sym reported i))
                (Up (record (running_of (parts l.store) (stage.committed whole l.frozen_age f (view l.store).snapshots) l.age
                l.frozen_age) {
                  renewed = renewed_since (base_frozen (view l.store).snapshots f frozen i) (frames_of (parts l.store));
                }))) (commit_step g (running disk view parts l) now_frozen is_frozen stable));
            up = λ other. came same g (stage.committed whole l.frozen_age f (view l.store).snapshots) beside usable
                (committed_sound up.sound f frozen);
            leaves = commit_along g up;
          }

          pub commit_failed : ServesUp disk view parts l command.Commit (answer.Refused refusal.Fault) (with_store l s)
          commit_failed = failed l (with_store l s) command.Commit commit_along

      -- `migrate`: after a crash at any moment the image denotes the saved state, with its entries or without
      module _ (n : ℕ) (moments : LeavesEither (disk (view l.store).beneath) (disk (view s).beneath) (view l.store).snapshots.saved
          (moved_saved n (view l.store).snapshots)) where
        migrate_along : (g : Geometry) → IsUp disk view parts g l →
            LeavesOne g (disk_at disk view parts l) (disk (view s).beneath)
            (saved_of (view l.store).snapshots.saved ∷ second (Up (running disk view parts l)) (command.Migrate n))
        migrate_along g up = leaves_home g (disk_at disk view parts l) (disk (view s).beneath) (view l.store).snapshots n up.sound.saved
            size moments

        pub migrate_went : parts s ≡ parts l.store → (left : ℕ) → left ≡ (view l.store).snapshots.to_move - n →
            (view s).snapshots ≡ stage.moved n (view l.store).snapshots → (view s).usable →
            ServesUp disk view parts l (command.Migrate n) (answer.Left left) (with_store l s)
        migrate_went same left reported beside usable g up = record {
          step = λ other.
              stepped same g (stage.moved n (view l.store).snapshots) (command.Migrate n) (answer.Left left) beside
              (subst (λ (X : Type 0). X) (λ i. Step g (Up (running disk view parts l)) (command.Migrate n) (answer.Left (sym reported i))
              (Up (record (running_of (parts l.store) (stage.moved n (view l.store).snapshots) l.age l.frozen_age) {
                saved = sym (saved_moved (parts l.store) (view l.store).snapshots l.age l.frozen_age n) i;
                renewed = renewed_since (sym (base_moved (view l.store).snapshots n) i) (frames_of (parts l.store));
              }))) (migrate_step g (running disk view parts l) n));
          up = λ other. came same g (stage.moved n (view l.store).snapshots) beside usable (moved_sound up.sound n);
          leaves = migrate_along g up;
        }

        pub migrate_failed : ServesUp disk view parts l (command.Migrate n) (answer.Refused refusal.Fault) (with_store l s)
        migrate_failed = failed l (with_store l s) (command.Migrate n) migrate_along

  -- ---- refusals of a store

  module _ (l : Live S) (s : S) where
    -- a `checkpoint` that the store refuses is served
    pub freeze_refused : (why : Refusal) → s ≡ l.store → l.age < 2 ^ 62 →
        IsFreezeAnswer {T = ℕ} (left_in whole (view l.store).snapshots) (view l.store).snapshots.saved.entries (Err why) →
        ServesUp disk view parts l command.Checkpoint (answer.Refused why) (with_store l s)
    freeze_refused refusal.CheckpointRunning same young reported =
        let f = some_there (view l.store).snapshots.frozen reported in
        refused_again l s command.Checkpoint refusal.CheckpointRunning same
        (λ g up. running_already g (running disk view parts l) young _ (frozen_some (view l.store).snapshots.frozen f.0 l.frozen_age f.1))
    freeze_refused refusal.MigrationPending same young reported =
        refused_again l s command.Checkpoint refusal.MigrationPending same (λ g up. not_home g (running disk view parts l) young
        (frozen_none (view l.store).snapshots.frozen l.frozen_age (none_there (view l.store).snapshots.frozen reported.0)) reported.1)
    freeze_refused why same young reported = absurd reported

    module _ (size : (disk (view s).beneath).sectors ≡ (disk (view l.store).beneath).sectors) where
      -- a `stabilize` that the store refuses, or that fails, is served
      pub stabilize_refused : (why : Refusal) (n : ℕ) → IsStabilizeAnswer (disk (view l.store).beneath) (disk (view s).beneath)
          (left_in whole (view l.store).snapshots) n (Err why) → (IsRefused {T = ℕ} (Err why) → s ≡ l.store) →
          LeavesSaved (disk (view l.store).beneath) (disk (view s).beneath) (view l.store).snapshots.saved →
          ServesUp disk view parts l (command.Stabilize n) (answer.Refused why) (with_store l s)
      stabilize_refused refusal.NoCheckpoint n reported again moments =
          refused_again l s (command.Stabilize n) refusal.NoCheckpoint (again tt) (λ g up. none_to_stabilize g (running disk view parts l) n
          (frozen_none (view l.store).snapshots.frozen l.frozen_age (none_there (view l.store).snapshots.frozen reported.1)))
      stabilize_refused refusal.Fault n reported again moments = search (arith, nat_tests, some_there, stabilize_failed)
      stabilize_refused why n reported again moments = absurd reported

      -- a `commit` that the store refuses, or that fails, is served
      pub commit_refused : (why : Refusal) → IsCommitAnswer (disk (view l.store).beneath) (disk (view s).beneath)
          (left_in whole (view l.store).snapshots) (view l.store).snapshots.saved.generation (Err why) →
          (IsRefused {T = ℕ} (Err why) → s ≡ l.store) → ((f : FrozenFrames) → (view l.store).snapshots.frozen ≡ Some f → f.left ≡ 0 →
          LeavesEither (disk (view l.store).beneath) (disk (view s).beneath) (view l.store).snapshots.saved
          (next_saved whole l.frozen_age f (view l.store).snapshots.saved)) →
          ServesUp disk view parts l command.Commit (answer.Refused why) (with_store l s)
      commit_refused refusal.NoCheckpoint reported again moments =
          refused_again l s command.Commit refusal.NoCheckpoint (again tt) (λ g up. none_to_commit g (running disk view parts l)
          (frozen_none (view l.store).snapshots.frozen l.frozen_age (none_there (view l.store).snapshots.frozen reported.1)))
      commit_refused (refusal.NotStable left) reported again moments =
          let f = some_left (view l.store).snapshots.frozen left (sym reported.1) in
          subst (λ (n : ℕ). ServesUp disk view parts l command.Commit (answer.Refused (refusal.NotStable n)) (with_store l s)) f.2
          (refused_again l s command.Commit (refusal.NotStable f.0.left) (again tt)
          (λ g up. not_stable g (running disk view parts l) (record {
            world = world_at l.frozen_age f.0.frames;
            size = f.0.size;
            left = f.0.left;
          })
          (frozen_some (view l.store).snapshots.frozen f.0 l.frozen_age f.1) (λ none. above left reported.2 (sym f.2 ∙ none))))
        where
          above : (n : ℕ) → 0 < n → n ≡ 0 → ⊥
          above n some none = omega (arith, some, none)
      commit_refused refusal.Fault reported again moments =
          let f = some_left (view l.store).snapshots.frozen 0 (sym reported.1) in
          commit_failed l s size f.0 f.1 f.2 (moments f.0 f.1 f.2)
      commit_refused why reported again moments = absurd reported

-- a refusal is `Fault` exactly if the device failed
pub failed_cause : (old new : Disk) → old.failures < new.failures → IsCaused old new (answer.Refused refusal.Fault)
failed_cause old new more = record { later = omega (arith, more); exact = (λ e. more, λ rose. refl) }

pub other_cause : (old new : Disk) (why : Refusal) → new.failures ≡ old.failures → (answer.Refused why ≡ answer.Refused refusal.Fault → ⊥) →
    IsCaused old new (answer.Refused why)
other_cause old new why same other = search (arith, nat_tests)

pub freeze_cause : (old new : Disk) (left : Option ℕ) (entries : ℕ) (why : Refusal) → IsFreezeAnswer {T = ℕ} left entries (Err why) →
    new.failures ≡ old.failures → IsCaused old new (answer.Refused why)
freeze_cause old new left entries why reported same = search (arith, nat_tests, other_cause)

pub stabilize_cause : (old new : Disk) (left : Option ℕ) (count : ℕ) (why : Refusal) → IsStabilizeAnswer old new left count (Err why) →
    IsCaused old new (answer.Refused why)
stabilize_cause old new left count why reported = search (arith, nat_tests, other_cause, failed_cause)

pub commit_cause : (old new : Disk) (left : Option ℕ) (saved : ℕ) (why : Refusal) → IsCommitAnswer old new left saved (Err why) →
    IsCaused old new (answer.Refused why)
commit_cause old new left saved why reported = search (arith, nat_tests, other_cause, failed_cause)

-- no refusal of `freeze` is one of `NeedsNoDeviceCall`
pub freeze_looks : (left : Option ℕ) (entries : ℕ) (why : Refusal) → IsFreezeAnswer {T = ℕ} left entries (Err why) →
    MakesNoDeviceCall (answer.Refused why) → ⊥
freeze_looks left entries why reported is = search (arith, nat_tests)

pub stabilize_looks : (old new : Disk) (left : Option ℕ) (count : ℕ) (why : Refusal) → IsStabilizeAnswer old new left count (Err why) →
    MakesNoDeviceCall (answer.Refused why) → ⊥
stabilize_looks old new left count why reported is = search (arith, nat_tests)

pub commit_looks : (old new : Disk) (left : Option ℕ) (saved : ℕ) (why : Refusal) → IsCommitAnswer old new left saved (Err why) →
    MakesNoDeviceCall (answer.Refused why) → ⊥
commit_looks old new left saved why reported is = search (arith, nat_tests)

-- the frozen state of a kernel that is up may be committed at the frozen age
pub may_commit : {D S : Type 0} (disk : D → Disk) (view : S → View D) (parts : S → Parts) (l : Live S) →
    ((g : Geometry) × IsUp disk view parts g l) → (f : FrozenFrames) → (view l.store).snapshots.frozen ≡ Some f →
    MayCommit whole l.frozen_age f (view l.store).snapshots.saved
may_commit disk view parts l up f frozen =
    let sound = up.1.sound in
    let held = sound.frozen f frozen in record {
      later = held.after;
      most = held.sound.sound.age;
      keepable = λ stable. subst (λ (g : Geometry). AreKeepable g l.frozen_age f.frames) (sym sound.saved.geometry) held.sound.keepable;
    }

-- if two counts of failures agree before and after, and one of them stayed, so did the other
pub unfailed : {old new p q : ℕ} → p ≡ old → q ≡ new → new ≡ old → q ≡ p
unfailed before after stayed = after ∙ stayed ∙ sym before

-- after a call that only reads, the counts of banks still hold
pub counted_still : {p q : Parts} {banks : BanksState} → AreSameUnlessFailed p q → AreCounted p.geometry (objects_in p) banks →
    q.failures ≡ p.failures → AreCounted q.geometry (objects_in q) banks
counted_still {p} {q} {banks} same counted stayed = subst (λ (r : Parts). AreCounted r.geometry (objects_in r) banks) (sym (same stayed))
    counted

-- an answer is `Fault` exactly if the device failed
pub caused : {p q : Parts} {old new : Disk} {c : Command} {age later : ℕ} {a : Answer} → p.failures ≡ old.failures →
    q.failures ≡ new.failures → Performs age p c a later q → IsCaused old new a
caused {p} {q} {old} {new} {c} {age} {later} {a} before after serves = record {
  later = omega (arith, serves.later, before, after);
  exact = (
    λ e. let rose = serves.cause.0 e in omega (arith, rose, before, after),
    λ rose. serves.cause.1 (omega (arith, rose, before, after)),
  );
}

-- the frames of a store that is up are sound
pub up_sound : {D S : Type 0} (disk : D → Disk) (view : S → View D) (parts : S → Parts) (l : Live S) →
    ((g : Geometry) × IsUp disk view parts g l) → IsSoundFrames (parts l.store).geometry l.age (frames_of (parts l.store))
up_sound disk view parts l up = subst (λ (g : Geometry). IsSoundFrames g l.age (frames_of (parts l.store))) (sym up.1.sound.geometry)
    up.1.sound.now

-- the counts of the banks of a store that is up
pub up_counted : {D S : Type 0} (disk : D → Disk) (view : S → View D) (parts : S → Parts) (l : Live S) →
    ((g : Geometry) × IsUp disk view parts g l) → AreCounted (parts l.store).geometry (objects_in (parts l.store)) l.banks
up_counted disk view parts l up = search (arith, nat_tests)
