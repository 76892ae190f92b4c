-- Directories in sealed sectors.
use Rattle.std.specs.Prelude.{◌≡◌, ℕ, List, length, Option, Some, None, ⊤}
use Rattle.device.specs.Calls.{Elsewhere, IsTorn, Tears}
use Rattle.device.specs.Disk.{Disk, Image}
use Rattle.device.specs.Moments.{LeavesOnly}
use Rattle.layout.specs.Directory.{AllFitting, IsDirectory}
use Rattle.layout.specs.declared.bad_image.BadImage.{BadImage}
use Rattle.layout.specs.declared.bad_image.BadImage.TheVariants.{BadDirectory}
use Rattle.layout.specs.declared.directory.Entry.{Entry}
use Rattle.layout.specs.declared.open_fault.OpenFault.{OpenFault}
use Rattle.layout.specs.declared.open_fault.OpenFault.TheVariants.{Bad, Failed, NoMemory}
use Rattle.layout.specs.sealed.Directory.{AreEntries, HasEntries, entries_bytes, sums_of_entries}
use Rattle.layout.specs.sealed.Sector.{seal_in}
use Rattle.model.specs.declared.geometry.Geometry.{Geometry}
use Rattle.seal.specs.declared.sums.Sums.{Sums}

-- only the n sectors from `at` on may have changed; a crash may leave any bytes in them
pub record TouchesAt (at n : ℕ) (old new : Disk) : Type 0 where
  pub size : new.sectors ≡ old.sectors
  pub elsewhere : Elsewhere at n old.seen new.seen
  pub crash : Tears at n old new
  pub any_moment : LeavesOnly old new (λ c. IsTorn at n old c)

-- these bytes are a sector of n entries with this seal, or no such sector
abbrev pub IsPieceIn : List ℕ → ℕ → List Entry → Option Sums → Type 0
IsPieceIn bytes n es (Some seal) = (bytes ≡ entries_bytes es) × (seal ≡ seal_in bytes)
IsPieceIn bytes n es None = (ds : List Entry) → length ds ≡ n → AllFitting ds → bytes ≡ entries_bytes ds → ⊥

-- the sectors from `at` on contain n entries with these sums, or no n entries
abbrev pub AreEntriesIn : Image → ℕ → ℕ → List Entry → Option Sums → Type 0
AreEntriesIn image at n es (Some sums) = AreEntries image at es × (sums ≡ sums_of_entries es)
AreEntriesIn image at n es None = (ds : List Entry) → length ds ≡ n → AllFitting ds → AreEntries image at ds → ⊥

-- why no directory of n entries is read: the sectors are none with these sums
abbrev pub IsBadDirectory : Image → ℕ → Geometry → Sums → ℕ → OpenFault → Type 0
IsBadDirectory image at g sums n Failed = ⊤
IsBadDirectory image at g sums n NoMemory = ⊥
IsBadDirectory image at g sums n (Bad reason) = (reason ≡ BadDirectory) ×
    ((es : List Entry) → length es ≡ n → HasEntries image at g sums es → ⊥)

-- why entries that were read are refused: a sector contained none, the sums differ, or they are no directory
pub record IsNoDirectory (g : Geometry) (found : Option Sums) (sums : Sums) (es : List Entry) (e : BadImage)
    : Type 0 where
  pub reason : e ≡ BadDirectory
  pub none : found ≡ Some sums → AllFitting es × (IsDirectory g es → ⊥)

-- a directory that was written is read back, as no other directory, and isn't refused
abbrev pub DirectoriesAreReadBack : Type 0
DirectoriesAreReadBack = (image : Image) (at : ℕ) (g : Geometry) (es : List Entry) → IsDirectory g es →
    AreEntries image at es →
    ((read : List Entry) → length read ≡ length es → HasEntries image at g (sums_of_entries es) read → read ≡ es)
    × ((e : OpenFault) → IsBadDirectory image at g (sums_of_entries es) (length es) e → e ≡ Failed)
