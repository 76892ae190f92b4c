-- What the bytes of an image hold, and why bytes are refused.
use Rattle.std.specs.Prelude.{◌≡◌, ◌≢◌, ◌⊎◌, ◌<◌, ℕ, ◌*◌, ◌%◌, List, length}
use Rattle.device.specs.Calls.{Agrees, image_of}
use Rattle.device.specs.Disk.{Disk}
use Rattle.devices.specs.FileDevice.{file_disk}
use Rattle.devices.specs.declared.file_device.CopiedFile.{CopiedFile}
use Rattle.layout.specs.Denoted.{SavedState}
use Rattle.queries.specs.Images.{ReadsSaved}
use Rattle.recovery.specs.Recovered.{IsBad}
use Rattle.vezhnake_images.specs.contracts.no_file.NoFileSectorFile.TheImpl.{ghosts}
use Rattle.vezhnake_images.specs.declared.image_status.ImageStatus.{ImageStatus}
use Rattle.vezhnake_images.specs.declared.image_status.ImageStatus.TheVariants as status
use Rattle.vezhnake_images.specs.declared.no_file.NoFile.{NoFile}

-- a device in memory
abbrev pub ImageDevice : Type 0
ImageDevice = CopiedFile NoFile ghosts

-- a device in memory, as a disk
abbrev pub image_disk : ImageDevice → Disk
image_disk d = file_disk d

-- a device that holds these bytes
pub record IsOver (bytes : List ℕ) (d : ImageDevice) : Type 0 where
  pub size : 512 * (image_disk d).sectors ≡ length bytes
  pub seen : Agrees (image_disk d).seen (image_of bytes)

-- the image in these bytes saves this state
abbrev pub SavesState : List ℕ → SavedState → Type 0
SavesState bytes s = (d : ImageDevice) × (back : ImageDevice) × IsOver bytes d × ReadsSaved image_disk d back s

-- why a run doesn't open the image in these bytes
abbrev pub RefusesBytes : List ℕ → ImageStatus → Type 0
RefusesBytes bytes (status.Bad reason) =
    (d : ImageDevice) × IsOver bytes d × IsBad (image_disk d).sectors (image_disk d).seen reason
RefusesBytes bytes status.NoMemory = Unit {0}
RefusesBytes bytes status.BadSize = (length bytes % 512 ≢ 0) ⊎ (67108864 < length bytes)
RefusesBytes bytes _ = ⊥
