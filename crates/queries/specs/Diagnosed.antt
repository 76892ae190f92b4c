-- What is printed about a refused image.
use Rattle.queries.specs.Names.{Written, Wrote, ℕ, List, codes, Option, None, Some, Result, Ok, Err, line_of, Disk}
use Rattle.queries.specs.Names.{OpenFault, ImageFault, fault_text, WroteFront, Fault}
use Rattle.std.specs.Prelude.{◌≡◌}
use Rattle.image_explainer.specs.Explained.{Explains}
use Rattle.jobs.specs.declared.fault.Fault.TheVariants as fault

-- the line about an image
abbrev pub explanation_text : Option ImageFault → List ℕ
explanation_text None = codes "ok"
explanation_text (Some d) = fault_text d

-- the exit status: 0 only if nothing is wrong
abbrev pub explained_status : Result (Option ImageFault) Fault → ℕ
explained_status (Ok None) = 0
explained_status (Ok (Some d)) = 1
explained_status (Err why) = 1

-- the outcome of the command: what is wrong with the image is no fault of the command
abbrev pub without_fault : Result (Option ImageFault) Fault → Result (Unit {0}) Fault
without_fault (Ok found) = Ok tt
without_fault (Err why) = Err why

-- the device was only read, and the line about its image was written
abbrev pub TellsFault : {D : Type 0} → (D → Disk) → D → D → Option ImageFault → (List ℕ → Type 0) → Type 0
TellsFault disk device back found Reported =
    (let r : Result (Option ImageFault) OpenFault = Ok found in Explains disk device back r) × Reported
    (line_of (explanation_text found))

-- the line about an image was written; or it couldn't be written whole; or the device failed, or memory ran out
abbrev pub ExplainsImage : {D : Type 0} → (D → Disk) → D → D → Written → Written →
    Result (Option ImageFault) Fault → Type 0
ExplainsImage disk device back output output_left (Ok found) = TellsFault disk device back found
    (Wrote output output_left)
ExplainsImage disk device back output output_left (Err fault.CannotWriteOutput) = (found : Option ImageFault) ×
    TellsFault disk device back found (WroteFront output output_left)
ExplainsImage disk device back output output_left (Err (fault.Open why)) =
    (let r : Result (Option ImageFault) OpenFault = Err why in Explains disk device back r) × (output_left ≡ output)
ExplainsImage disk device back output output_left (Err _) = ⊥
