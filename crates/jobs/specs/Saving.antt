-- Running a script, and then saving the present state.
use Rattle.jobs.specs.Names.{Answer, Bool, Err, Geometry, IsDeviceOf, List, Ok, OpenFault, Opens, Option, Parts, Power}
use Rattle.jobs.specs.Names.{Refusal, RefusesToOpen, Result, RunFault, RunsSeen, Saves, Stop, Turn, View, Disk, Writes}
use Rattle.jobs.specs.Names.{Written, line_of, printed, refusal_text, ℕ}
use Rattle.std.specs.Prelude.{◌≡◌}
use Rattle.jobs.specs.declared.fault.Fault.{Fault}
use Rattle.jobs.specs.declared.fault.Fault.TheVariants as fault
use Rattle.jobs.specs.Faults.{IsRunEnd}

-- the answer to the commit, or the first refusal
abbrev pub saved_text : Result Answer Refusal → List ℕ
saved_text (Ok a) = printed a
saved_text (Err why) = line_of (refusal_text why)

-- how the command ends: `cannot write output` if the answer wasn't written; else by whether saving was refused
abbrev pub saved_end : Result Answer Refusal → Result (Unit {0}) RunFault → Result (Unit {0}) Fault
saved_end saved (Err e) = Err fault.CannotWriteOutput
saved_end (Ok a) (Ok u) = Ok u
saved_end (Err why) (Ok u) = Err (fault.NotSaved why)

-- the fault of the run, if it has one; else the outcome of saving
abbrev pub first_fault : Result (Unit {0}) Fault → Result (Unit {0}) Fault → Result (Unit {0}) Fault
first_fault (Ok a) saved = saved
first_fault (Err why) saved = Err why

-- The parameters: the ghost members of a device and of an object store.
module _ {D S : Type 0} (disk : D → Disk) (view : S → View D) (parts : S → Parts) where
  -- the present state was saved, or a stage was refused, and the answer was written
  abbrev pub SavesAndTells : Power D S → Power D S → Written → Written → Result (Unit {0}) Fault → Type 0
  SavesAndTells old new output output_left end =
      (saved : Result Answer Refusal) × Saves disk view parts old new saved
      × (wrote : Result (Unit {0}) RunFault) × Writes output output_left wrote (saved_text saved) × (end ≡ saved_end saved wrote)

  -- if the script was read to its end, the present state was saved; else nothing more was done
  abbrev pub SavesIf : Result (Unit {0}) RunFault → Power D S → Power D S → Written → Written → Result (Unit {0}) Fault →
      Type 0
  SavesIf (Ok a) old new output output_left end = SavesAndTells old new output output_left end
  SavesIf (Err e) old new output output_left end = (new ≡ old) × (output_left ≡ output) × (end ≡ Ok tt)

  -- a kernel was opened, and an observer saw a script run over it; if the script was read to its end, the present
  -- state was saved. Or the device wasn't opened, and nothing was read or written
  abbrev pub SavesImage : {O : Type 0} → (Geometry → Turn → O → O → Bool → Type 0) → D → D → O → O
      → Option (List ℕ) → Option (List ℕ) → Written → Written →
      Result (Result (Unit {0}) RunFault) OpenFault → Result (Unit {0}) Fault → Type 0
  SavesImage sees device back before after input input_left output output_left (Ok outcome) end =
      (first : Power D S) × (ran : Power D S) × (last : Power D S) × Opens disk view parts device first
      × (between : Written) × RunsSeen disk view parts sees first ran before after input input_left output between outcome
      × SavesIf outcome ran last between output_left end × IsDeviceOf disk view parts last back
  SavesImage sees device back before after input input_left output output_left (Err why) end =
      RefusesToOpen disk device back why × (input_left ≡ input) × (output_left ≡ output) × (after ≡ before)

  -- how a command that runs a script and then saves ends
  abbrev pub EndsSaved : {O : Type 0} → (Geometry → Turn → O → O → Bool → Type 0) → (O → Option Stop) → D → D → O → O
      → Option (List ℕ) → Option (List ℕ) → Written → Written → Result (Unit {0}) Fault → Type 0
  EndsSaved sees stop device back before after input input_left output output_left result =
      (outcome : Result (Result (Unit {0}) RunFault) OpenFault) × (ran : Result (Unit {0}) Fault) × (saved : Result (Unit {0}) Fault)
      × IsRunEnd outcome (stop after) ran
      × SavesImage sees device back before after input input_left output output_left outcome saved
      × (result ≡ first_fault ran saved)
