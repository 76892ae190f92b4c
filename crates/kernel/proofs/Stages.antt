-- Steps of the machine: evictions, the stages of a checkpoint, and openings. Each stage keeps frames sound.
use Rattle.kernel.proofs.Names.{ℕ, Bool, true, Option, None, Some, List, [], refl, sym, ap, subst, arith, nat_tests, Geometry, Frozen, Saved, Running, Up}
use Rattle.kernel.proofs.Names.{touched_count, untouched, object_count, Step, carried_out, committed, refusal_of, second, World, option_map, Frame}
use Rattle.kernel.proofs.Names.{objects_of, AreKeepable, IsSoundFrames, world_at, IsSound, Snapshots, freezing, moved_saved, next_saved, all_frozen, whole}
use Rattle.kernel.proofs.Names.{at_home, Parts, Renews, frames_of, objects_in, keepable_later, most, SavedFrames, home_saved, FrozenFrames, stabilized}
use Rattle.kernel.proofs.Names.{AreCounted, BanksState, saved_of, IsSoundSaved, AreSoundTogether, IsSoundFrozen, base_of, frozen_of, running_of}
use Rattle.kernel.proofs.Names.{allocations_at, base_frozen}
use Rattle.model.specs.Step.{moved}
use Rattle.std.proofs.Common.{◌≡◌, ◌+◌, ◌-◌, ◌^◌, ◌<◌, ◌≤◌, ◌∷◌, ◌∙◌}
use Rattle.std.specs.Prelude.{◌==◌, if◌then◌else◌}
use Rattle.model.specs.declared.answer.Answer.TheVariants as answer
use Rattle.model.specs.declared.answer.Refusal.TheVariants as refusal
use Rattle.model.specs.declared.command.Command.TheVariants as command
use Rattle.checkpoint.specs.Snapshots as stage
use Rattle.model.specs.Step as machine
use Rattle.kernel.proofs.Performing.{done_step}
use Rattle.kernel.proofs.Machines.{base_moved, risen_on}

module _ (g : Geometry) (s : Running) where
  -- ---- evictions
  pub evict_step : (n : ℕ) → n < object_count g → Step g (Up s) (command.Evict n) answer.Done (Up s)
  unfolding refusal_of carried_out
  evict_step n within = search (arith, nat_tests, done_step)

  pub evict_refused : (n : ℕ) → object_count g ≤ n → refusal_of g s (command.Evict n) ≡ Some refusal.BadNumber
  unfolding refusal_of
  evict_refused n past = search (arith, nat_tests)

  -- ---- refusals of `checkpoint`
  pub worn : 2 ^ 62 ≤ s.now.age → refusal_of g s command.Checkpoint ≡ Some refusal.Worn
  unfolding refusal_of
  worn old = search (arith, nat_tests)

  module _ (young : s.now.age < 2 ^ 62) where
    pub running_already : (f : Frozen) → s.frozen ≡ Some f → refusal_of g s command.Checkpoint ≡ Some refusal.CheckpointRunning
    unfolding refusal_of
    running_already f is = search (arith, nat_tests)

    pub not_home : s.frozen ≡ None → (s.saved.entries ≡ 0 → ⊥) → refusal_of g s command.Checkpoint ≡ Some refusal.MigrationPending
    unfolding refusal_of
    not_home none more = search (arith, nat_tests)

    pub checkpoint_step : s.frozen ≡ None → s.saved.entries ≡ 0 → (let now : World =
        record { objects = s.now.objects; age = s.now.age + 1 } in let f : Frozen =
        record { world = now; size = touched_count s.touched; left = touched_count s.touched } in
        Step g (Up s) command.Checkpoint (answer.Frozen (touched_count s.touched))
        (Up (record { now = now; touched = untouched g; renewed = untouched g; frozen = Some f; saved = s.saved; to_move = s.to_move })))
    unfolding refusal_of carried_out
    checkpoint_step none home = search (arith, nat_tests, done_step)

  -- ---- refusals of the later stages
  pub none_to_stabilize : (n : ℕ) → s.frozen ≡ None → refusal_of g s (command.Stabilize n) ≡ Some refusal.NoCheckpoint
  unfolding refusal_of
  none_to_stabilize n none = ap (λ (o : Option Frozen). elim o [ None ↦ Some refusal.NoCheckpoint | Some f ↦ None ]) none

  pub none_to_commit : s.frozen ≡ None → refusal_of g s command.Commit ≡ Some refusal.NoCheckpoint
  unfolding refusal_of
  none_to_commit none = search (arith, nat_tests)

  pub not_stable : (f : Frozen) → s.frozen ≡ Some f → (f.left ≡ 0 → ⊥) → refusal_of g s command.Commit ≡ Some (refusal.NotStable f.left)
  unfolding refusal_of
  not_stable f is more = search (arith, nat_tests)

  pub stabilize_step : (n : ℕ) (f : Frozen) → s.frozen ≡ Some f →
      Step g (Up s) (command.Stabilize n) (answer.Left (f.left - n))
      (Up (machine.freezing s (Some (record { world = f.world; size = f.size; left = f.left - n }))))
  unfolding refusal_of carried_out
  stabilize_step n f is = search (arith, nat_tests, done_step)

  pub commit_step : (f : Frozen) → s.frozen ≡ Some f → f.left ≡ 0 →
      Step g (Up s) command.Commit (answer.Committed (s.saved.generation + 1))
      (Up (record { now = s.now; touched = s.touched; renewed = s.renewed; frozen = None; saved = committed s f; to_move = f.size }))
  unfolding refusal_of carried_out
  commit_step f is stable = search (arith, nat_tests, done_step)

  pub migrate_step : (n : ℕ) → Step g (Up s) (command.Migrate n) (answer.Left (s.to_move - n))
      (Up (record { now = s.now; touched = s.touched; renewed = s.renewed; frozen = s.frozen; saved = moved s n; to_move = s.to_move - n }))
  unfolding refusal_of carried_out
  migrate_step n = done_step g s (command.Migrate n) _ _ refl refl refl

  -- ---- the other states that a commit may save

  abbrev committing : Option Frozen → List Saved
  committing o = elim o [ None ↦ [] | Some f ↦ if f.left == 0 then committed s f ∷ [] else [] ]

  pub second_of_commit : (f : Frozen) → s.frozen ≡ Some f → f.left ≡ 0 → second (Up s) command.Commit ≡ committed s f ∷ []
  second_of_commit f is stable =
      let there : (f.left == 0) ≡ true = grind (arith, nat_tests) in
      ap committing is ∙ ap (λ (b : Bool). if b then committed s f ∷ [] else []) there

-- ---- frames at a later age

world_later : (g : Geometry) (age later : ℕ) (fs : List Frame) → later ≤ 2 ^ 62 → IsSound g (world_at age fs) →
    IsSound g (world_at later fs)
world_later g age later fs within w = search (arith, nat_tests)

pub frames_later : (g : Geometry) (age later : ℕ) (fs : List Frame) → age ≤ later → later ≤ 2 ^ 62 → IsSoundFrames g age fs →
    IsSoundFrames g later fs
frames_later g age later fs le within f = search (arith, nat_tests, keepable_later, world_later)

-- sound frames have encodings
pub keepable_most : (g : Geometry) (p : Parts) (age : ℕ) → p.geometry ≡ g → IsSoundFrames g age (frames_of p) →
    AreKeepable p.geometry most (frames_of p)
keepable_most g p age same f = search (arith, nat_tests, most, keepable_later)

-- ---- the same objects

module _ {p q : Parts} (same : q ≡ p) {a b : Snapshots FrozenFrames} (beside : b ≡ a) where
  pub same_running : (age frozen_age : ℕ) → running_of q b age frozen_age ≡ running_of p a age frozen_age
  same_running age frozen_age = λ k. running_of (same k) (beside k) age frozen_age

  pub stays_sound : {g : Geometry} {banks : BanksState} {age frozen_age : ℕ} → AreSoundTogether g p a banks age frozen_age →
      AreSoundTogether g q b banks age frozen_age
  stays_sound {g} {banks} {age} {frozen_age} s = subst (λ (X : Type 0). X) (λ k. AreSoundTogether g (sym same k) (sym beside k) banks age
      frozen_age) s

-- a step of a process keeps the kernel sound if the age doesn't fall
pub acts_sound : {g : Geometry} {p q : Parts} {a b : Snapshots FrozenFrames} {old_banks banks : BanksState} {old_age age frozen_age : ℕ} →
    b ≡ a → old_age ≤ age → q.geometry ≡ g → Renews p q → IsSoundFrames g age (frames_of q) →
    AreCounted g (objects_in q) banks → AreSoundTogether g p a old_banks old_age frozen_age → AreSoundTogether g q b banks age frozen_age
acts_sound {g} {p} {q} {a} {b} {old_banks} {banks} {old_age} {age} {frozen_age} beside later geometry renews now counted s = subst
    (λ (x : Snapshots FrozenFrames). AreSoundTogether g q x banks age frozen_age) (sym beside) (record {
      geometry = geometry;
      now = now;
      counted = counted;
      frozen = λ f is. let h = s.frozen f is in record { after = h.after; before = omega (arith, h.before, later); sound = h.sound };
      saved = s.saved;
      order = omega (arith, s.order, later);
      risen = risen_on (base_of a) p q renews s.risen;
    })

-- ---- stages

module _ {g : Geometry} {p : Parts} {a : Snapshots FrozenFrames} {banks : BanksState} {age frozen_age : ℕ}
    (s : AreSoundTogether g p a banks age frozen_age)
  where
    -- freezing all objects keeps the kernel sound, at the next age
    pub begun_sound : (q : Parts) (n : ℕ) → q.geometry ≡ p.geometry → frames_of q ≡ frames_of p → age < 2 ^ 62 →
        AreSoundTogether g q (freezing (all_frozen (frames_of p) n) a) banks (age + 1) (age + 1)
    begun_sound q n geometry frames young =
        let now : IsSoundFrames g (age + 1) (frames_of p) = frames_later g age (age + 1) (frames_of p) (omega arith) (omega (arith, young))
        s.now in
        record {
          geometry = geometry ∙ s.geometry;
          now = subst (λ (fs : List Frame). IsSoundFrames g (age + 1) fs) (sym frames) now;
          counted = subst (λ (fs : List Frame). AreCounted g (objects_of fs) banks) (sym frames) s.counted;
          frozen = λ f is. frozen_now f is now;
          saved = s.saved;
          order = omega (arith, s.order);
          risen = λ n. subst (λ (fs : List Frame). allocations_at (frames_of p) n ≤ allocations_at fs n) (sym frames) (omega arith);
        }
      where
        frozen_now : (f : FrozenFrames) → Some (record { frames = frames_of p; size = n; left = n }) ≡ Some f →
            IsSoundFrames g (age + 1) (frames_of p) → IsSoundFrozen g a.saved.age (age + 1) (age + 1) f
        frozen_now f is now =
            let fs : FrozenFrames = record { frames = frames_of p; size = n; left = n } in
            let same : fs ≡ f = cc in
            subst (IsSoundFrozen g a.saved.age (age + 1) (age + 1)) same (record
            { after = omega (arith, s.order); before = omega arith; sound = now })

    -- no allocation count has fallen since the freeze
    risen_frozen : (f : FrozenFrames) → a.frozen ≡ Some f → (n : ℕ) → allocations_at f.frames n ≤ allocations_at (frames_of p) n
    risen_frozen f is n = subst (λ (fs : List Frame). allocations_at fs n ≤ allocations_at (frames_of p) n) (base_frozen a f is) (s.risen n)

    -- `stabilize` keeps the kernel sound
    pub stabilized_sound : (n : ℕ) (f : FrozenFrames) → a.frozen ≡ Some f → AreSoundTogether g p (stabilized n f a) banks age frozen_age
    stabilized_sound n f is = record {
      geometry = s.geometry;
      now = s.now;
      counted = s.counted;
      frozen = λ e same. still e same;
      saved = s.saved;
      order = s.order;
      risen = risen_frozen f is;
    }
      where
        still : (e : FrozenFrames) → Some (record { frames = f.frames; size = f.size; left = f.left - n }) ≡ Some e →
            IsSoundFrozen g a.saved.age frozen_age age e
        still e same =
            let was = s.frozen f is in
            let fs : FrozenFrames = record { frames = f.frames; size = f.size; left = f.left - n } in
            let it : fs ≡ e = cc in
            subst (IsSoundFrozen g a.saved.age frozen_age age) it (record { after = was.after; before = was.before; sound = was.sound })

    -- the state that `commit` saves is sound
    pub next_sound : (f : FrozenFrames) → a.frozen ≡ Some f → IsSoundSaved g (next_saved whole frozen_age f a.saved)
    next_sound f is = record { geometry = s.saved.geometry; sound = (s.frozen f is).sound }

    pub committed_sound : (f : FrozenFrames) → a.frozen ≡ Some f → AreSoundTogether g p (stage.committed whole frozen_age f a) banks age
        frozen_age
    committed_sound f is = record {
      geometry = s.geometry;
      now = s.now;
      counted = s.counted;
      frozen = λ e same. none e same;
      saved = next_sound f is;
      order = (s.frozen f is).before;
      risen = risen_frozen f is;
    }
      where
        none : (e : FrozenFrames) → None ≡ Some e → IsSoundFrozen g frozen_age frozen_age age e
        none e same = cc

    -- the saved state stays sound when `migrate` brings its frames home
    home_or_not : (b : Bool) → IsSoundSaved g (if b then home_saved a.saved else a.saved)
    home_or_not b = search (arith, nat_tests)

    age_or_not : (b : Bool) → (if b then home_saved a.saved else a.saved).age ≡ a.saved.age
    age_or_not b = search (arith, nat_tests)

    pub moved_sound : (n : ℕ) → AreSoundTogether g p (stage.moved n a) banks age frozen_age
    moved_sound n =
        let same : (moved_saved n a).age ≡ a.saved.age = age_or_not (a.to_move - n == 0) in
        record {
          geometry = s.geometry;
          now = s.now;
          counted = s.counted;
          frozen = λ f is. subst (λ (k : ℕ). IsSoundFrozen g k frozen_age age f) (sym same) (s.frozen f is);
          saved = home_or_not (a.to_move - n == 0);
          order = subst (λ (k : ℕ). k ≤ age) (sym same) s.order;
          risen = λ m. subst (λ (fs : List Frame). allocations_at fs m ≤ allocations_at (frames_of p) m) (sym (base_moved a n)) (s.risen m);
        }

-- if the saved frames are moved home, so is the saved state; if not, it stays
saved_if : (b : Bool) (fs : SavedFrames) → saved_of (if b then home_saved fs else fs) ≡ (if b then at_home (saved_of fs) else saved_of fs)
saved_if b fs = search (arith, nat_tests)

pub saved_moved : (p : Parts) (a : Snapshots FrozenFrames) (age frozen_age n : ℕ) →
    saved_of (moved_saved n a) ≡ moved (running_of p a age frozen_age) n
saved_moved p a age frozen_age n = saved_if (a.to_move - n == 0) a.saved

-- ---- how many frozen frames are left

pub frozen_some : (o : Option FrozenFrames) (f : FrozenFrames) (age : ℕ) → o ≡ Some f →
    frozen_of age o ≡ Some (record { world = world_at age f.frames; size = f.size; left = f.left })
frozen_some o f age is = ap (frozen_of age) is

pub frozen_none : (o : Option FrozenFrames) (age : ℕ) → o ≡ None → frozen_of age o ≡ None
frozen_none o age is = ap (frozen_of age) is

-- if no number of frames left is reported, no checkpoint is frozen
pub none_there : (o : Option FrozenFrames) → option_map (λ (f : FrozenFrames). f.left) o ≡ None → o ≡ None
none_there o reported = search (arith, nat_tests)

pub some_there : (o : Option FrozenFrames) → (option_map (λ (f : FrozenFrames). f.left) o ≡ None → ⊥) → (f : FrozenFrames) × (o ≡ Some f)
some_there o reported = search (arith, nat_tests)

pub some_left : (o : Option FrozenFrames) (n : ℕ) → Some n ≡ option_map (λ (f : FrozenFrames). f.left) o →
    (f : FrozenFrames) × (o ≡ Some f) × (f.left ≡ n)
some_left o n reported = search (arith, nat_tests)

pub some_left_after : (o : Option FrozenFrames) (count n : ℕ) → option_map (λ (k : ℕ). k - count)
    (option_map (λ (f : FrozenFrames). f.left) o) ≡ Some n → (f : FrozenFrames) × (o ≡ Some f) × (n ≡ f.left - count)
some_left_after o count n reported = search (arith, nat_tests)
