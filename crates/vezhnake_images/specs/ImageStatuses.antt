-- The statuses, and the numbers that C gets for them.
use Rattle.std.specs.Prelude.{ℕ, ◌+◌, Bool, true, false}
use Rattle.description.specs.Faults.{fault_number}
use Rattle.description.specs.declared.fault.BuildFault.{BuildFault}
use Rattle.description.specs.declared.fault.BuildFault.TheVariants as build
use Rattle.layout.specs.Reason.{reason_number}
use Rattle.layout.specs.declared.open_fault.OpenFault.{OpenFault}
use Rattle.layout.specs.declared.open_fault.OpenFault.TheVariants as fault
use Rattle.vezhnake_images.specs.declared.image_status.ImageStatus.{ImageStatus}
use Rattle.vezhnake_images.specs.declared.image_status.ImageStatus.TheVariants as status

-- the status if no device was opened
abbrev pub status_by : OpenFault → ImageStatus
status_by fault.Failed = status.Failed
status_by fault.NoMemory = status.NoMemory
status_by (fault.Bad reason) = status.Bad reason

-- the status if no image was built
abbrev pub built_by : BuildFault → ImageStatus
built_by build.NoMemory = status.NoMemory
built_by build.Failed = status.Failed
built_by why = status.BadDescription why

-- the number of a status
abbrev pub image_number : ImageStatus → ℕ
image_number status.Done = 0
image_number (status.Bad reason) = reason_number reason
image_number status.NoMemory = 11
image_number status.BadSize = 12
image_number status.SmallBuffer = 16
image_number status.Failed = 18
image_number status.NotToml = 20
image_number (status.BadDescription why) = 20 + fault_number why

-- the call did its work, or its buffer is too small, and `Fits` says what then holds; or it did nothing, and
-- `Refuses` says why
abbrev pub Answered : (Bool → Type 0) → (ImageStatus → Type 0) → ImageStatus → Type 0
Answered Fits Refuses status.Done = Fits true
Answered Fits Refuses status.SmallBuffer = Fits false
Answered Fits Refuses refused = Refuses refused
