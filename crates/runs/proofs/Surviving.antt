-- What a crash during a run leaves, and that it can be opened.
use Rattle.runs.proofs.Names.{nat_tests, ℕ, List, [], sym, subst, inl, inr, arith, Geometry, Machine, Saved, Up, Down, candidates, opened, Turn, IsRun, Image}
use Rattle.runs.proofs.Names.{Disk, LeavesOnly, leaves_on, leaves_weaker, started, OpenFault, Parts, View, Power, Denotes, DenotesOne, RefusesToOpen}
use Rattle.runs.proofs.Names.{IsNoReason, Opens, Stands, disk_of, denotes_one, denoted_not_bad, AreTurnsOf, IsLeftIn, CrashesAreSurvived}
use Rattle.runs.proofs.Names.{CrashesInRunsAreSurvived, IsOpenedAt, IsSurvived, MaySave, MaySaveIn}
use Rattle.std.proofs.Common.{◌∷◌}
use Rattle.layout.specs.declared.open_fault.OpenFault.TheVariants as fault
use Rattle.kernel.specs.Power as power
use Rattle.runs.proofs.Turning.{denotes_this}

-- the image denotes a state that the run may save
abbrev LeavesSaved : Geometry → ℕ → Machine → List Turn → Image → Type 0
LeavesSaved g size m turns c = (s : Saved) × MaySave m turns s × Denotes g size c s

candidate : (g : Geometry) (size : ℕ) (m : Machine) (c : Image) → DenotesOne g size (candidates m) c → LeavesSaved g size m [] c
candidate g size m c one = denotes_this g size c (candidates m) one

module _ {D S : Type 0} (disk : D → Disk) (view : S → View D) (parts : S → Parts)
    (only_now : (d : D) (c : Image) → (disk d).left_since (disk d).moment c → (disk d).may_leave c) where
  abbrev of : Power D S → Disk
  of p = disk_of disk view parts p

  -- a crash before the first turn leaves a state that the run may save
  before_turns : (g : Geometry) (m : Machine) (p : Power D S) → Stands disk view parts g p m →
      LeavesOnly (of p) (of p) (LeavesSaved g (of p).sectors m [])
  before_turns g (Up r) (power.Up l) stands = search (arith, nat_tests, started, candidate)
  before_turns g (Down saved) (power.Down d) stands = search (arith, nat_tests, started, candidate)
  before_turns g (Down saved) (power.Up l) stands = absurd stands
  before_turns g (Up r) (power.Down d) stands = absurd stands
  before_turns g m power.Between stands = absurd stands

  -- a crash during the turns leaves a state that the run may save
  turns_leave : (g : Geometry) (turns : List Turn) (m last : Machine) (old new : Power D S) → Stands disk view parts g old m →
      IsRun g m turns last → AreTurnsOf disk view parts g old new turns → LeavesOnly (of old) (of new)
      (LeavesSaved g (of old).sectors m turns)
  turns_leave g [] m last old new stands run same = search (arith, nat_tests, before_turns)
  turns_leave g (t ∷ ts) m last old new stands run goes =
      let turn = goes.1 in
      let size = (of old).sectors in
      let rest : LeavesOnly (of goes.0) (of new) (LeavesSaved g size t.after ts) =
      subst (λ (n : ℕ). LeavesOnly (of goes.0) (of new) (LeavesSaved g n t.after ts)) turn.size
      (turns_leave g ts t.after last goes.0 new turn.stands run.2 goes.2) in
      leaves_on {old = of old} {mid = of goes.0} {new = of new} {P = LeavesSaved g size m (t ∷ ts)}
      (leaves_weaker {old = of old} {new = of goes.0} {P = IsLeftIn g size t} (LeavesSaved g size m (t ∷ ts))
      (λ c is. (is.0, inl is.1, is.2)) turn.any_moment)
      (leaves_weaker {old = of goes.0} {new = of new} {P = LeavesSaved g size t.after ts} (LeavesSaved g size m (t ∷ ts))
      (λ c is. (is.0, inr is.1, is.2)) rest)

  -- if a device holds an image that denotes a saved state, it opens at this state
  opened_there : (g : Geometry) (size : ℕ) (c : Image) (s : Saved) → Denotes g size c s → IsOpenedAt disk view parts g size c s
  opened_there g size c s denoted d size_is seen_is =
      let held : Denotes g (disk d).sectors (disk d).seen s =
      subst (λ (n : ℕ). Denotes g n (disk d).seen s) (sym size_is) (subst (λ (x : Image). Denotes g size x s) (sym seen_is) denoted) in
      (opens d held, refuses d held)
    where
      opens : (d : D) → Denotes g (disk d).sectors (disk d).seen s → (k : Power D S) → Opens disk view parts d k →
          Stands disk view parts g k (Up (opened g s))
      opens d held k is =
          let one = denotes_one is.geometry g (disk d).sectors (disk d).seen is.saved s is.denoted held in
          subst (λ (x : Saved). Stands disk view parts g k (Up (opened g x))) one.1
          (subst (λ (h : Geometry). Stands disk view parts h k (Up (opened h is.saved))) one.0 is.stands)

      refuses : (d : D) → Denotes g (disk d).sectors (disk d).seen s → (back : D) (why : OpenFault) → RefusesToOpen disk d back why →
          IsNoReason why
      refuses d held back fault.Failed is = tt
      refuses d held back fault.NoMemory is = tt
      refuses d held back (fault.Bad reason) is = denoted_not_bad g (disk d).sectors (disk d).seen s reason held is.is_why.1

  -- an image that a crash leaves opens at a state that may be left
  survived : (g : Geometry) (old new : Power D S) (MayBeLeft : Saved → Type 0) →
      LeavesOnly (of old) (of new) (λ c. (s : Saved) × MayBeLeft s × Denotes g (of old).sectors c s) →
      IsSurvived disk view parts g old new MayBeLeft
  survived g old new MayBeLeft leaves =
      let size = (of old).sectors in
      leaves_weaker {old = of old} {new = of new} {P = λ c. (s : Saved) × MayBeLeft s × Denotes g size c s}
      (λ c. (s : Saved) × MayBeLeft s × Denotes g size c s × IsOpenedAt disk view parts g size c s)
      (λ c is. (is.0, is.1, is.2, opened_there g size c is.0 is.2)) leaves

  pub crashes_survived : CrashesAreSurvived disk view parts
  crashes_survived g old new t turn = survived g old new (MaySaveIn t) turn.any_moment

  pub in_runs_survived : CrashesInRunsAreSurvived disk view parts
  in_runs_survived g m old new turns stands run = survived g old new (MaySave m turns)
      (turns_leave g turns m run.after old new stands run.run run.each)
