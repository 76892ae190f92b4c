-- What the commands do with images.
use Rattle.jobs.specs.Names.{Written, Wrote, ℕ, List, [], codes, decimal, Bool, Option, Result, Ok, Err, Members}
use Rattle.jobs.specs.Names.{Geometry, Saved, Turn, line_of, spaced, Disk, NewLayout, OnlyReads, OpenFault, new_plan}
use Rattle.jobs.specs.Names.{Parts, View, Power, RefusesToOpen, Opens, Denotes, IsDeviceOf, Description, IsDescription}
use Rattle.jobs.specs.Names.{BuildsFrom, Refuses, plan_for, IsNotUpgraded, Upgrades, Stop, RunsOver, RunsSeen, RunFault}
use Rattle.jobs.specs.Names.{Format, WroteFront, number_object}
use Rattle.std.specs.Prelude.{◌≡◌, ◌≢◌, ◌↔◌, ◌<◌, ◌∷◌}
use Rattle.json_lines.specs.declared.format.Format.TheVariants as format
use Rattle.json_lines.specs.declared.key.Key.TheVariants as key
use Rattle.json_lines.specs.declared.object.Member.TheVariants as member
use Rattle.layout.specs.declared.open_fault.OpenFault.TheVariants as opening
use Rattle.description.specs.declared.fault.BuildFault.TheVariants as build
use Rattle.image_builder.specs.declared.new_layout.NewLayout.TheVariants as layout
use Rattle.image_builder.specs.declared.upgrade_fault.UpgradeFault.TheVariants as upgrade
use Rattle.script.specs.declared.fault.RunFault.TheVariants as run
use Rattle.jobs.specs.declared.fault.Fault.{Fault}
use Rattle.jobs.specs.declared.fault.Fault.TheVariants as fault
use Rattle.jobs.specs.Faults.{IsRunEnd}

-- the line for an image that was built
abbrev pub built_text : ℕ → List ℕ
built_text total = spaced (codes "built" ∷ decimal total ∷ codes "sectors" ∷ [])

-- the line for an image that can be opened
abbrev pub checked_text : Format → ℕ → ℕ → ℕ → List ℕ
checked_text format.Text generation age entries =
    spaced (codes "ok generation" ∷ decimal generation ∷ codes "age" ∷ decimal age ∷ codes "entries" ∷ decimal entries ∷
    [])
checked_text format.Json generation age entries =
    number_object (codes "generation") generation (member.Number key.Age age ∷ member.Number key.Entries entries ∷ [])

-- the line with the size of the image that a TOML table describes was written
abbrev pub TellsTotal : Members → (List ℕ → Type 0) → Type 0
TellsTotal ms Reported = (d : Description) × IsDescription ms d × Reported (line_of (built_text (plan_for d).total))

-- an image was built, and its size written; or the size couldn't be written whole; or no image was built
abbrev pub BuildsImage : {D : Type 0} → (D → Disk) → Members → D → D → Written → Written →
    Result (Unit {0}) Fault → Type 0
BuildsImage disk ms old new output output_left (Ok a) = BuildsFrom ms (disk old) (disk new) × TellsTotal ms
    (Wrote output output_left)
BuildsImage disk ms old new output output_left (Err fault.CannotWriteOutput) = BuildsFrom ms (disk old) (disk new) ×
    TellsTotal ms (WroteFront output output_left)
BuildsImage disk ms old new output output_left (Err (fault.Build why)) =
    Refuses ms (disk old).sectors why × (why ≢ build.Failed → new ≡ old) ×
    ((why ≡ build.Failed) ↔ ((disk old).failures < (disk new).failures)) × (output_left ≡ output)
BuildsImage disk ms old new output output_left (Err _) = ⊥

-- the line for an image that was written in a new layout; if the version stays, the image is a copy
abbrev pub upgraded_text : NewLayout → ℕ → List ℕ
upgraded_text layout.Newest total = spaced (codes "upgraded" ∷ decimal total ∷ codes "sectors" ∷ [])
upgraded_text layout.Kept total = spaced (codes "copied" ∷ decimal total ∷ codes "sectors" ∷ [])

-- an image was written in a new layout, and its size was written
abbrev pub UpgradesAndTells : {D E : Type 0} → NewLayout → (D → Disk) → (E → Disk) → D → E → E → (List ℕ → Type 0) →
    Type 0
UpgradesAndTells l disk new_disk old before new Reported =
    (done : Upgrades l (disk old) (new_disk before) (new_disk new)) × Reported
    (line_of (upgraded_text l (new_plan l done.state.plan).total))

-- an image was written in a new layout, and its size written; or the size couldn't be written whole; or no image was
-- written
abbrev pub UpgradesImage : {D E : Type 0} → NewLayout → (D → Disk) → (E → Disk) → D → E → E → Written → Written →
    Result (Unit {0}) Fault → Type 0
UpgradesImage l disk new_disk old before new output output_left (Ok a) = UpgradesAndTells l disk new_disk old before new
    (Wrote output output_left)
UpgradesImage l disk new_disk old before new output output_left (Err fault.CannotWriteOutput) = UpgradesAndTells l disk
    new_disk old before new (WroteFront output output_left)
UpgradesImage l disk new_disk old before new output output_left (Err (fault.Upgrade why)) =
    IsNotUpgraded l disk old (new_disk before).sectors why × (why ≢ upgrade.Failed → new ≡ before)
    × ((why ≡ upgrade.Failed) ↔ ((new_disk before).failures < (new_disk new).failures)) × (output_left ≡ output)
UpgradesImage l disk new_disk old before new output output_left (Err _) = ⊥

-- the fault if the old device failed
abbrev pub old_failed : Fault
old_failed = fault.Upgrade (upgrade.Old opening.Failed)

-- The parameters: the ghost members of a device and of an object store.
module _ {D S : Type 0} (disk : D → Disk) (view : S → View D) (parts : S → Parts) where
  -- a kernel was opened on the device, and a script run over it with this outcome; `back` is the kernel's device
  -- after the run
  abbrev pub OpensAndRuns : D → D → Option (List ℕ) → Option (List ℕ) → Written → Written →
      Result (Unit {0}) RunFault → Type 0
  OpensAndRuns device back input input_left output output_left outcome =
      (first : Power D S) × (last : Power D S) × Opens disk view parts device first × RunsOver disk view parts first
      last input input_left output output_left outcome
      × IsDeviceOf disk view parts last back

  -- a kernel was opened on the device, and an observer saw a script run over it with this outcome
  abbrev pub OpensAndSees : {O : Type 0} → (Geometry → Turn → O → O → Bool → Type 0) → D → D → O → O
      → Option (List ℕ) → Option (List ℕ) → Written → Written → Result (Unit {0}) RunFault → Type 0
  OpensAndSees sees device back before after input input_left output output_left outcome =
      (first : Power D S) × (last : Power D S) × Opens disk view parts device first
      × RunsSeen disk view parts sees first last before after input input_left output output_left outcome × IsDeviceOf
      disk view parts last back

  -- an observer saw a script run over the image; or the device wasn't opened, and nothing was read, written or
  -- observed
  abbrev pub SeesImage : {O : Type 0} → (Geometry → Turn → O → O → Bool → Type 0) → D → D → O → O
      → Option (List ℕ) → Option (List ℕ) → Written → Written →
      Result (Result (Unit {0}) RunFault) OpenFault → Type 0
  SeesImage sees device back before after input input_left output output_left (Ok outcome) =
      OpensAndSees sees device back before after input input_left output output_left outcome
  SeesImage sees device back before after input input_left output output_left (Err why) =
      RefusesToOpen disk device back why × (input_left ≡ input) × (output_left ≡ output) × (after ≡ before)

  -- how a command that runs a script ends: the run that its observer saw, and where the observer ended it
  abbrev pub EndsAs : {O : Type 0} → (Geometry → Turn → O → O → Bool → Type 0) → (O → Option Stop) → D → D → O → O
      → Option (List ℕ) → Option (List ℕ) → Written → Written → Result (Unit {0}) Fault → Type 0
  EndsAs sees stop device back before after input input_left output output_left result =
      (outcome : Result (Result (Unit {0}) RunFault) OpenFault) × IsRunEnd outcome (stop after) result
      × SeesImage sees device back before after input input_left output output_left outcome

  -- a script was run over a kernel; or the device wasn't opened, and nothing was read or written
  abbrev pub RunsImage : D → D → Option (List ℕ) → Option (List ℕ) → Written → Written →
      Result (Unit {0}) Fault → Type 0
  RunsImage device back input input_left output output_left (Ok a) = OpensAndRuns device back input input_left output
      output_left (Ok a)
  RunsImage device back input input_left output output_left (Err fault.CannotReadScript) = OpensAndRuns device back
      input input_left output output_left (Err run.Read)
  RunsImage device back input input_left output output_left (Err fault.CannotWriteOutput) = OpensAndRuns device back
      input input_left output output_left (Err run.Write)
  RunsImage device back input input_left output output_left (Err (fault.Open why)) = RefusesToOpen disk device back why
      × (input_left ≡ input) × (output_left ≡ output)
  RunsImage device back input input_left output output_left (Err _) = ⊥

-- a device was opened without a failure and only read, and `Reported` holds of the line about its saved state
abbrev pub TellsSaved : {D : Type 0} → Format → (D → Disk) → D → D → (List ℕ → Type 0) → Type 0
TellsSaved f disk device back Reported =
    (geometry : Geometry) × (saved : Saved) × Denotes geometry (disk device).sectors (disk device).seen saved × Reported
    (line_of (checked_text f saved.generation saved.world.age saved.entries))
    × OnlyReads (disk device) (disk back) × ((disk back).failures ≡ (disk device).failures)

-- the line about a device was written; or it couldn't be written whole; or the device wasn't opened
abbrev pub ChecksImage : {D : Type 0} → Format → (D → Disk) → D → D → Written → Written →
    Result (Unit {0}) Fault → Type 0
ChecksImage f disk device back output output_left (Ok a) = TellsSaved f disk device back (Wrote output output_left)
ChecksImage f disk device back output output_left (Err fault.CannotWriteOutput) = TellsSaved f disk device back
    (WroteFront output output_left)
ChecksImage f disk device back output output_left (Err (fault.Open why)) = RefusesToOpen disk device back why ×
    (output_left ≡ output)
ChecksImage f disk device back output output_left (Err _) = ⊥
