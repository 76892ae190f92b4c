-- The messages of faults, and the exit status of a command.
use Rattle.jobs.specs.Names.{Written, ℕ, List, [], codes, decimal, Option, None, Some, Result, Ok, Err, OpenFault}
use Rattle.jobs.specs.Names.{line_of, spaced, BuildFault, UpgradeFault, fault_number, GrowthFault, Stop, cause_text}
use Rattle.jobs.specs.Names.{Refusal, RunFault, Writes, reason_number, refusal_text, text_object}
use Rattle.std.specs.Prelude.{◌≡◌, ◌≢◌, ◌∷◌, ◌++◌}
use Rattle.json_lines.specs.declared.key.Key.TheVariants as key
use Rattle.json_lines.specs.declared.object.Member.TheVariants as member
use Rattle.layout.specs.declared.open_fault.OpenFault.TheVariants as opening
use Rattle.description.specs.declared.fault.BuildFault.TheVariants as build
use Rattle.image_builder.specs.declared.upgrade_fault.UpgradeFault.TheVariants as upgrade
use Rattle.description.specs.declared.sizes.GrowthFault.TheVariants as growth
use Rattle.script.specs.declared.fault.RunFault.TheVariants as run
use Rattle.jobs.specs.declared.fault.Fault.{Fault}
use Rattle.jobs.specs.declared.fault.Fault.TheVariants as fault

abbrev pub build_text : BuildFault → List ℕ
build_text build.Small = codes "eros: cannot write image"
build_text build.Failed = codes "eros: device failed"
build_text build.NoMemory = codes "eros: no memory"
build_text why = spaced (codes "eros: bad description" ∷ decimal (fault_number why) ∷ [])

abbrev pub open_text : OpenFault → List ℕ
open_text opening.Failed = codes "eros: device failed"
open_text opening.NoMemory = codes "eros: no memory"
open_text (opening.Bad reason) = spaced (codes "eros: bad image" ∷ decimal (reason_number reason) ∷ [])

abbrev pub upgrade_text : UpgradeFault → List ℕ
upgrade_text (upgrade.Old why) = open_text why
upgrade_text upgrade.Small = codes "eros: cannot write image"
upgrade_text upgrade.Failed = codes "eros: device failed"
upgrade_text upgrade.NoMemory = codes "eros: no memory"

-- where a strict run ended, and why: `eros: stopped at line 3: ..`
abbrev pub stop_text : Stop → List ℕ
stop_text stop = spaced (codes "eros: stopped at line" ∷ (decimal stop.line ++ codes ":") ∷ cause_text stop.cause ∷ [])

-- why a description can't be renumbered
abbrev pub sizes_text : GrowthFault → List ℕ
sizes_text growth.Limits = codes "eros: no image has these sizes"
sizes_text growth.Nodes = codes "eros: too few nodes"
sizes_text growth.Pages = codes "eros: too few pages"
sizes_text growth.NoMemory = codes "eros: no memory"

-- the message if a stage of saving was refused
abbrev pub not_saved_text : Refusal → List ℕ
not_saved_text why = spaced (codes "eros: not saved:" ∷ refusal_text why ∷ [])

-- the message of a fault
abbrev pub fault_text : Fault → List ℕ
fault_text fault.CannotReadDescription = codes "eros: cannot read description"
fault_text fault.NotToml = codes "eros: bad description"
fault_text fault.CannotWriteImage = codes "eros: cannot write image"
fault_text fault.CannotOpenImage = codes "eros: cannot open image"
fault_text fault.CannotReadScript = codes "eros: cannot read script"
fault_text fault.CannotWriteOutput = codes "eros: cannot write output"
fault_text fault.NoMemory = codes "eros: no memory"
fault_text (fault.Build why) = build_text why
fault_text (fault.Open why) = open_text why
fault_text (fault.Upgrade why) = upgrade_text why
fault_text (fault.Stopped stop) = stop_text stop
fault_text (fault.NoObject o) = spaced (codes "eros: no object" ∷ decimal o ∷ [])
fault_text (fault.Sizes why) = sizes_text why
fault_text (fault.NotSaved why) = not_saved_text why
fault_text (fault.NoProcess p) = spaced (codes "eros: no process" ∷ decimal p ∷ [])

-- the message of a device that can't be opened, in JSON
abbrev pub open_json : OpenFault → List ℕ
open_json opening.Failed = text_object (codes "fault") (codes "device failed") []
open_json opening.NoMemory = text_object (codes "fault") (codes "no memory") []
open_json (opening.Bad reason) = text_object (codes "fault") (codes "bad image")
    (member.Number key.Reason (reason_number reason) ∷ [])

-- the message of a fault of a command that only reads an image, in JSON; for any other command only the fault's name
abbrev pub fault_json : Fault → List ℕ
fault_json fault.CannotReadDescription = text_object (codes "fault") (codes "cannot read description") []
fault_json fault.NotToml = text_object (codes "fault") (codes "bad description") []
fault_json fault.CannotWriteImage = text_object (codes "fault") (codes "cannot write image") []
fault_json fault.CannotOpenImage = text_object (codes "fault") (codes "cannot open image") []
fault_json fault.CannotReadScript = text_object (codes "fault") (codes "cannot read script") []
fault_json fault.CannotWriteOutput = text_object (codes "fault") (codes "cannot write output") []
fault_json fault.NoMemory = text_object (codes "fault") (codes "no memory") []
fault_json (fault.Open why) = open_json why
fault_json (fault.NoProcess p) = text_object (codes "fault") (codes "no process") (member.Number key.Number p ∷ [])
fault_json (fault.NoObject o) = text_object (codes "fault") (codes "no object") (member.Number key.Number o ∷ [])
fault_json (fault.Build why) = text_object (codes "fault") (codes "not built") []
fault_json (fault.Upgrade why) = text_object (codes "fault") (codes "not upgraded") []
fault_json (fault.Stopped stop) = text_object (codes "fault") (codes "stopped") []
fault_json (fault.Sizes why) = text_object (codes "fault") (codes "not renumbered") []
fault_json (fault.NotSaved why) = text_object (codes "fault") (codes "not saved") []

-- if the observer ended the run, the line where it did is known
abbrev pub HasStop : Result (Result (Unit {0}) RunFault) OpenFault → Option Stop → Type 0
HasStop (Ok (Err run.Stopped)) None = ⊥
HasStop outcome stop = Unit {0}

-- how a run ended, or why the device couldn't be opened, as the fault of the command
abbrev pub IsRunEnd : Result (Result (Unit {0}) RunFault) OpenFault → Option Stop → Result (Unit {0}) Fault → Type 0
IsRunEnd (Ok (Ok a)) stop end = end ≡ Ok a
IsRunEnd (Ok (Err run.Read)) stop end = end ≡ Err fault.CannotReadScript
IsRunEnd (Ok (Err run.Write)) stop end = end ≡ Err fault.CannotWriteOutput
IsRunEnd (Ok (Err run.Stopped)) None end = ⊥
IsRunEnd (Ok (Err run.Stopped)) (Some stop) end = end ≡ Err (fault.Stopped stop)
IsRunEnd (Err why) stop end = end ≡ Err (fault.Open why)

-- the outcome of a command whose last step is a write
abbrev pub after_write : Result (Unit {0}) RunFault → Result (Unit {0}) Fault
after_write (Ok a) = Ok a
after_write (Err e) = Err fault.CannotWriteOutput

-- the exit status of a command
abbrev pub status_of : Result (Unit {0}) Fault → ℕ
status_of (Ok a) = 0
status_of (Err why) = 1

-- the fault of a command, if it has one
abbrev pub fault_in : Result (Unit {0}) Fault → Option Fault
fault_in (Ok a) = None
fault_in (Err why) = Some why

-- the exit status and the fault are those of this outcome
abbrev pub IsEnd : Result (Unit {0}) Fault → ℕ → Option Fault → Type 0
IsEnd outcome status fault = (status ≡ status_of outcome) × (fault ≡ fault_in outcome)

-- if the outcome is a fault, its message was written as a line, whole or in part
abbrev pub IsReported : Result (Unit {0}) Fault → Written → Written → Type 0
IsReported (Ok a) old new = new ≡ old
IsReported (Err why) old new = (wrote : Result (Unit {0}) RunFault) × Writes old new wrote (line_of (fault_text why))

-- The outcome of passing on the buffered output. If that succeeded, the status stays and the buffer is empty. If it
-- failed, a status of 0 becomes 1, and any other stays.
abbrev pub PassesOn : Result (Unit {0}) RunFault → ℕ → ℕ → List ℕ → Result (Unit {0}) Fault → Type 0
PassesOn (Ok a) before after left outcome = (outcome ≡ Ok tt) × (after ≡ before) × (left ≡ [])
PassesOn (Err e) before after left (Ok a) = (after ≡ before) × (before ≢ 0)
PassesOn (Err e) before after left (Err fault.CannotWriteOutput) = (before ≡ 0) × (after ≡ 1)
PassesOn (Err e) before after left (Err _) = ⊥
