-- Saving the present state: the stages of a checkpoint, one after another.
use Rattle.runs.specs.Names.{ℕ, List, [], Result, Ok, Err, Answer, Command, Disk, Geometry, Machine, Parts, Power}
use Rattle.runs.specs.Names.{Reported, Stands, Turn, View, Refusal, spelling}
use Rattle.std.specs.Prelude.{◌≡◌, ◌≢◌, ◌⊎◌, ◌-◌, ◌^◌, ◌∷◌}
use Rattle.model.specs.declared.answer.Answer.TheVariants as answer
use Rattle.model.specs.declared.command.Command.TheVariants as command
use Rattle.runs.specs.KernelRuns.{IsRunOf}

-- the greatest count that a command may give
abbrev pub all_objects : ℕ
all_objects = 2 ^ 64 - 1

-- the turn's line is the command, and its reply is this answer or refusal
abbrev pub IsStage : Command → Turn → Result Answer Refusal → Type 0
IsStage c t (Ok a) = (t.line ≡ spelling c) × (t.reply ≡ Reported a) × ((why : Refusal) → a ≢ answer.Refused why)
IsStage c t (Err why) = (t.line ≡ spelling c) × (t.reply ≡ Reported (answer.Refused why))

-- the answer to the commit, if the migration after it wasn't refused
abbrev pub after_migration : Answer → Result Answer Refusal → Result Answer Refusal
after_migration committed (Ok a) = Ok committed
after_migration committed (Err why) = Err why

-- the commands that commit the present state; the first one brings home what an earlier save left in the log
abbrev pub commit_stages : List Command
commit_stages = command.Migrate all_objects ∷ command.Checkpoint ∷ command.Stabilize all_objects ∷ command.Commit ∷ []

-- The parameters: the ghost members of a device and of an object store.
module _ {D S : Type 0} (disk : D → Disk) (view : S → View D) (parts : S → Parts) where
  -- for each machine that the kernel stands for, the command was carried out as a run of one turn
  abbrev pub CarriesOut : Power D S → Command → Power D S → Result Answer Refusal → Type 0
  CarriesOut old c new r = (g : Geometry) (m : Machine) → Stands disk view parts g old m →
      (t : Turn) × IsRunOf disk view parts g m old new (t ∷ []) × IsStage c t r

  -- the commands were carried out in order, up to the first that was refused; r is the answer to the last one
  abbrev pub CarriesOutAll : Power D S → List Command → Power D S → Result Answer Refusal → Type 0
  CarriesOutAll old [] new r = ⊥
  CarriesOutAll old (c ∷ []) new r = CarriesOut old c new r
  CarriesOutAll old (c ∷ d ∷ cs) new r =
      ((why : Refusal) × (r ≡ Err why) × CarriesOut old c new (Err why))
      ⊎ ((next : Power D S) × (a : Answer) × CarriesOut old c next (Ok a) × CarriesOutAll next (d ∷ cs) new r)

  -- what was committed was moved home; if nothing was committed, nothing happened
  abbrev pub Moves : Result Answer Refusal → Power D S → Power D S → Result Answer Refusal → Type 0
  Moves (Ok committed) old new r = (moved : Result Answer Refusal) × CarriesOut old (command.Migrate all_objects) new moved
      × (r ≡ after_migration committed moved)
  Moves (Err why) old new r = (new ≡ old) × (r ≡ Err why)

  -- everything was saved, and r is the answer to the commit; or a stage was refused, and none came after it
  abbrev pub Saves : Power D S → Power D S → Result Answer Refusal → Type 0
  Saves old new r = (next : Power D S) × (committed : Result Answer Refusal)
      × CarriesOutAll old commit_stages next committed
      × Moves committed next new r
