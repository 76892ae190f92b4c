-- The image that is built from a description's text, as bytes, and why none is built.
use Rattle.std.specs.Prelude.{◌≡◌, ◌⊎◌, ◌≤◌, ◌<◌, ◌*◌, ℕ, Bool, true, false, List, None, Some, drop, length, take}
use Rattle.std.specs.Prelude.{IsUtf8}
use Rattle.description.specs.Faults.{fault_number}
use Rattle.description.specs.Reading.{IsDescription}
use Rattle.description.specs.Rules.{IsWithinLimits, Refuses, plan_for}
use Rattle.description.specs.declared.entry.Description.{Description}
use Rattle.device.specs.Calls.{AreSectors}
use Rattle.image_builder.specs.Built.{BuildsFrom}
use Rattle.toml.specs.Data.{Members}
use Rattle.toml.specs.Parse.{parse_document}
use Rattle.vezhnake_images.specs.ImageBytes.{ImageDevice, image_disk}
use Rattle.vezhnake_images.specs.ImageStatuses.{Answered}
use Rattle.vezhnake_images.specs.declared.image_status.ImageStatus.{ImageStatus}
use Rattle.vezhnake_images.specs.declared.image_status.ImageStatus.TheVariants as status

-- the text is read as this description
abbrev pub IsRead : List ℕ → Description → Type 0
IsRead text d = (table : Members) × (parse_document text ≡ Some table) × IsDescription table d

-- why no image of a table is built on a device that is large enough
abbrev pub RefusesTable : Members → ImageStatus → Type 0
RefusesTable table (status.BadDescription fault) = (fault_number fault ≤ 6) × (sectors : ℕ) × Refuses table sectors fault
RefusesTable table status.NoMemory = Unit {0}
RefusesTable table _ = ⊥

-- why no image of a text is built
abbrev pub RefusesText : List ℕ → ImageStatus → Type 0
RefusesText text status.NotToml = (IsUtf8 text → ⊥) ⊎ (parse_document text ≡ None)
RefusesText text status.NoMemory = Unit {0}
RefusesText text refused = (table : Members) × (parse_document text ≡ Some table) × RefusesTable table refused

-- the image of a table was built on a device of this size, which is now d
pub record IsBuiltOn (table : Members) (sectors : ℕ) (d : ImageDevice) : Type 0 where
  pub before : ImageDevice
  pub built : BuildsFrom table (image_disk before) (image_disk d)
  pub size : (image_disk d).sectors ≡ sectors

-- the bytes are exactly the image of the text's description
pub record IsImageOf (text bytes : List ℕ) : Type 0 where
  pub description : Description
  pub table : Members
  pub read : parse_document text ≡ Some table
  pub described : IsDescription table description
  pub device : ImageDevice
  pub built : IsBuiltOn table (plan_for description).total device
  pub size : length bytes ≡ 512 * (plan_for description).total
  pub bytes_are : AreSectors (image_disk device).seen 0 bytes

-- if the image of the text's description fits, the buffer begins with it; else its length was written
abbrev pub PutsImage : List ℕ → List ℕ → List ℕ → ℕ → Bool → Type 0
PutsImage text old new size true = IsImageOf text (take size new) × (size ≤ length old) × (drop size new ≡ drop size old)
PutsImage text old new size false =
    ((d : Description) × IsRead text d × IsWithinLimits d × (size ≡ 512 * (plan_for d).total))
    × (length old < size) × (new ≡ old)

-- the image was put into the buffer; or it is longer than the buffer; or the status says why there is none
abbrev pub BuildsBytes : List ℕ → List ℕ → List ℕ → ℕ → ℕ → ImageStatus → Type 0
BuildsBytes text old new size_old size =
    Answered (PutsImage text old new size) (λ refused. RefusesText text refused × (new ≡ old) × (size ≡ size_old))
