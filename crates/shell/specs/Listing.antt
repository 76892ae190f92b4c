-- The list of all objects.
use Rattle.std.specs.Prelude.{◌≡◌, ◌⊎◌, ◌∷◌, ℕ, suc, List, [], codes, length, Result, Ok, Err}
use Rattle.capability.specs.Parts.{Parts}
use Rattle.checkpoint.specs.Store.{View}
use Rattle.device.specs.Disk.{Disk}
use Rattle.kernel.specs.Power.{Power}
use Rattle.model.specs.Object.{role_of}
use Rattle.model.specs.Text.{headed, line_of, refusal_text, spaced}
use Rattle.model.specs.declared.answer.Answer.{Answer}
use Rattle.model.specs.declared.answer.Answer.TheVariants as answer
use Rattle.model.specs.declared.answer.Description.{Description}
use Rattle.model.specs.declared.answer.Refusal.{Refusal}
use Rattle.model.specs.declared.answer.Refusal.TheVariants as refusal
use Rattle.model.specs.declared.command.Command.TheVariants as command
use Rattle.model.specs.declared.object.Role.{Role}
use Rattle.model.specs.declared.object.Role.TheVariants as role
use Rattle.runs.specs.Saving.{CarriesOut}
use Rattle.script.specs.Writing.{Writes, Written, Wrote}
use Rattle.script.specs.declared.fault.RunFault.{RunFault}

abbrev pub role_text : Role → List ℕ
role_text role.Free = codes "free"
role_text role.Page = codes "page"
role_text role.Node = codes "node"
role_text role.Root = codes "process"
role_text role.Annex = codes "annex"
role_text role.Bank = codes "bank"

-- the line of an object with this role, number and owner; nothing for a free number
abbrev pub line_by : Role → ℕ → ℕ → List ℕ
line_by role.Free n owner = []
line_by r n owner = line_of (spaced (headed (role_text r) n owner))

-- the line of an object that was shown
abbrev pub listed_text : Description → List ℕ
listed_text d = line_by (role_of d.object.content) d.number d.object.owner

-- the line of the object in an answer to `show`
abbrev pub shown_text : Answer → List ℕ
shown_text (answer.Shown d) = listed_text d
shown_text a = []

-- the text if `show` is refused: nothing beyond the last number, else the refusal
abbrev pub end_text : Refusal → List ℕ
end_text refusal.BadNumber = []
end_text why = line_of (refusal_text why)

-- The parameters: the ghost members of a device and of an object store.
module _ {D S : Type 0} (disk : D → Disk) (view : S → View D) (parts : S → Parts) where
  -- the objects from number n on were shown with these answers, and their lines written
  abbrev pub AreListed : ℕ → List Answer → Power D S → Power D S → Written → Written → Type 0
  AreListed n [] old new output output_left = (new ≡ old) × (output_left ≡ output)
  AreListed n (a ∷ more) old new output output_left = (next : Power D S) × (between : Written)
      × CarriesOut disk view parts old (command.Show n) next (Ok a) × Wrote output between (shown_text a)
      × AreListed (suc n) more next new between output_left

  -- the list ends at number n: it is the last one, `show` was refused, or the object's line couldn't be written whole
  abbrev pub EndsList : ℕ → Power D S → Power D S → Written → Written → Result (Unit {0}) RunFault → Type 0
  EndsList n old new output output_left r =
      ((n ≡ 8192) × (new ≡ old) × Writes output output_left r [])
      ⊎ ((why : Refusal) × CarriesOut disk view parts old (command.Show n) new (Err why) × Writes output output_left r (end_text why))
      ⊎ ((a : Answer) × (e : RunFault) × CarriesOut disk view parts old (command.Show n) new (Ok a) × (r ≡ Err e)
      × Writes output output_left r (shown_text a))

  -- all objects were listed from number 0 on, up to where the list ended
  abbrev pub Lists : Power D S → Power D S → Written → Written → Result (Unit {0}) RunFault → Type 0
  Lists old new output output_left r = (answers : List Answer) × (between : Power D S) × (listed : Written)
      × AreListed 0 answers old between output listed × EndsList (length answers) between new listed output_left r
