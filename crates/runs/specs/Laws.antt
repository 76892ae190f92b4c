-- Laws of runs: if nothing fails, the output is determined; crashes are survived; changes are bounded.
use Rattle.runs.specs.Names.{ℕ, Bool, true, false, List, [], Contains, Command, Geometry, IsClosed, Machine, Running}
use Rattle.runs.specs.Names.{Saved, Up, candidates, opened, Reported, Turn, IsRun, output_of, takes_memory, Says}
use Rattle.runs.specs.Names.{object_at, Disk, Image, LeavesOnly, OpenFault, AreBy, IsKept, with_free, Parts, View}
use Rattle.runs.specs.Names.{Power, Denotes, RefusesToOpen, IsNoReason, Opens, Stands, disk_of}
use Rattle.std.specs.Prelude.{◌≡◌, ◌≢◌, ◌⊎◌, ◌∷◌}
use Rattle.model.specs.declared.answer.Answer.TheVariants as answer
use Rattle.model.specs.declared.answer.Refusal.TheVariants as refusal
use Rattle.model.specs.declared.line.Line.TheVariants as line
use Rattle.runs.specs.KernelRuns.{IsRunOf, IsTurnOf, MaySaveIn, lines_in}

-- in this turn the device didn't fail, and memory didn't run out
pub record IsSteady (t : Turn) : Type 0 where
  pub device : t.reply ≢ Reported (answer.Refused refusal.Fault)
  pub memory : (c : Command) → Says t.line (line.Command c) → takes_memory c ≡ true →
      t.reply ≢ Reported (answer.Refused refusal.NoMemory)

abbrev pub AreSteady : List Turn → Type 0
AreSteady [] = Unit {0}
AreSteady (t ∷ ts) = IsSteady t × AreSteady ts

-- if two runs begin at the same machine, have the same lines, and nothing fails, they write the same and end at the
-- same machine
abbrev pub SteadyRunsAgree : Type 0
SteadyRunsAgree = (g : Geometry) (s : Running) (ts us : List Turn) (a b : Machine) → IsRun g (Up s) ts a →
    IsRun g (Up s) us b → lines_in ts ≡ lines_in us →
    AreSteady ts → AreSteady us → (output_of ts ≡ output_of us) × (a ≡ b)

-- s may be saved if a crash comes during a run: it may be saved in one of its turns, or is a candidate at the end
abbrev pub MaySave : Machine → List Turn → Saved → Type 0
MaySave m [] s = Contains (candidates m) s
MaySave m (t ∷ ts) s = MaySaveIn t s ⊎ MaySave t.after ts s

-- The parameters: the ghost members of a device and of an object store.
module _ {D S : Type 0} (disk : D → Disk) (view : S → View D) (parts : S → Parts) where
  -- the authority bound. Take a run of invocations, loads and stores by processes of a closed set, or by those that
  -- they make from free numbers. Then each object outside the set that wasn't free is kept
  abbrev pub RunsAreConfined : Type 0
  RunsAreConfined = (g : Geometry) (s t : Running) (old new : Power D S) (turns : List Turn) (inside : ℕ → Bool) →
      Stands disk view parts g old (Up s) → Stands disk view parts g new (Up t) →
      IsRunOf disk view parts g (Up s) old new turns →
      IsClosed s.now.objects inside → AreBy (with_free s.now.objects inside) turns → (n : ℕ) →
      with_free s.now.objects inside n ≡ false →
      IsKept inside (object_at s.now.objects n) (object_at t.now.objects n)

  -- a device that holds this image opens at this saved state, unless it fails or memory runs out
  abbrev pub IsOpenedAt : Geometry → ℕ → Image → Saved → Type 0
  IsOpenedAt g size c s = (d : D) → (disk d).sectors ≡ size → (disk d).seen ≡ c →
      ((k : Power D S) → Opens disk view parts d k → Stands disk view parts g k (Up (opened g s)))
      × ((back : D) (why : OpenFault) → RefusesToOpen disk d back why → IsNoReason why)

  -- after a crash at any moment between two kernels, the image denotes a state that may be left, and opens at it
  abbrev pub IsSurvived : Geometry → Power D S → Power D S → (Saved → Type 0) → Type 0
  IsSurvived g old new MayBeLeft = LeavesOnly (disk_of disk view parts old) (disk_of disk view parts new)
      (λ c. (s : Saved) × MayBeLeft s × Denotes g (disk_of disk view parts old).sectors c s
      × IsOpenedAt g (disk_of disk view parts old).sectors c s)

  -- the main theorem: if a crash comes at any moment of a turn, the image opens at a state that may be saved in the
  -- turn
  abbrev pub CrashesAreSurvived : Type 0
  CrashesAreSurvived = (g : Geometry) (old new : Power D S) (t : Turn) → IsTurnOf disk view parts g old new t →
      IsSurvived g old new (MaySaveIn t)

  -- if a crash comes at any moment of a run, the image opens at a state that may be saved in the run
  abbrev pub CrashesInRunsAreSurvived : Type 0
  CrashesInRunsAreSurvived = (g : Geometry) (m : Machine) (old new : Power D S) (turns : List Turn) →
      Stands disk view parts g old m → IsRunOf disk view parts g m old new turns →
      IsSurvived g old new (MaySave m turns)
