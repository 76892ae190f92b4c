-- The command that runs a shell.
use Rattle.jobs.specs.Names.{Written, Bool, true, false, List, codes, Result, ℕ, line_of, Unsaved, RunFault, Writes}
use Rattle.jobs.specs.Names.{Disk, Err, IsDeviceOf, Ok, OpenFault, Opens, Option, Parts, Power, RefusesToOpen, View}
use Rattle.jobs.specs.Names.{Inspects, ServesFrom, session_at, Shell}
use Rattle.std.specs.Prelude.{◌≡◌, ◌||◌}

abbrev pub unsaved_text : List ℕ
unsaved_text = codes "eros: some invocations or stores are not committed"

-- if the flag is set, a line was written, whole or in part
abbrev pub TellsIf : Bool → List ℕ → Written → Written → Type 0
TellsIf true text old new = (wrote : Result (Unit {0}) RunFault) × Writes old new wrote (line_of text)
TellsIf false text old new = new ≡ old

-- if something isn't committed, a line that says so was written
abbrev pub TellsUnsaved : Unsaved → Written → Written → Type 0
TellsUnsaved unsaved old new = TellsIf (unsaved.present || unsaved.frozen) unsaved_text old new

-- The parameters: the ghost members of a device, of an object store and of an inspector.
module _ {D S : Type 0} (disk : D → Disk) (view : S → View D) (parts : S → Parts) (inspects : Inspects D) where
  -- a kernel was opened, and a shell served lines over it; or the device wasn't opened, and nothing was read or
  -- written
  abbrev pub ServesImage : {N : Type 0} → (N → Written) → D → D → Shell N → Shell N → Option (List (List ℕ)) →
      Option (List (List ℕ)) → Written → Written → Result (Result (Unit {0}) RunFault) OpenFault → Type 0
  ServesImage written device back before after ahead ahead_left output output_left (Ok outcome) =
      (first : Power D S) × (last : Power D S) × Opens disk view parts device first
      × ServesFrom disk view parts inspects before.topics.now before.is_prompting ahead ahead_left
      (session_at written before first output) (session_at written after last output_left) outcome
      × IsDeviceOf disk view parts last back
  ServesImage written device back before after ahead ahead_left output output_left (Err why) =
      RefusesToOpen disk device back why × (ahead_left ≡ ahead) × (output_left ≡ output) × (after ≡ before)
