-- Images in which one part was replaced, for example by older bytes.
use Rattle.std.specs.Prelude.{◌≡◌, ℕ, ◌+◌, ◌<◌, ◌≤◌, IsTrue, List}
use Rattle.device.specs.Disk.{Image, IsWhole}
use Rattle.layout.specs.Denoted.{IsBadBy, SavedState}
use Rattle.layout.specs.Image.{directory_sector, frame_sector, sectors_from}
use Rattle.layout.specs.Version.{directory_length}
use Rattle.layout.specs.declared.bad_image.BadImage.TheVariants.{BadDirectory, BadFrame}
use Rattle.layout.specs.sealed.Sector.{seal_in}
use Rattle.layout.specs.sealed.Units.{begins_unit, unit_bytes}
use Rattle.seal.specs.Sums.{sums_of}
use Rattle.seal.specs.declared.sums.Sums.{Sums}
use Rattle.damage_laws.specs.Damage.{IsGood, IsInBlockOf}

-- the old image encodes s in version 3, and the new one differs from it only in these sectors
pub record IsChanged (size : ℕ) (s : SavedState) (Here : ℕ → Type 0) (old new : Image) : Type 0 where
  pub good : IsGood old size s
  pub device : IsWhole size new
  pub elsewhere : (i : ℕ) → (Here i → ⊥) → new i ≡ old i

-- the seal of the unit that an object begins
abbrev pub seal_at : Image → SavedState → ℕ → Sums
seal_at image s object = seal_in (unit_bytes image s.plan s.header.generation s.directory object)

-- if one unit holds bytes with another seal, the image is refused: the units don't add up to the root
abbrev pub OtherUnitIsRefused : Type 0
OtherUnitIsRefused = (size object : ℕ) (old new : Image) (s : SavedState) →
    object < s.plan.geometry.nodes + s.plan.geometry.pages → IsTrue (begins_unit s.plan object) →
    IsChanged size s (IsInBlockOf s object) old new → (seal_at new s object ≡ seal_at old s object → ⊥) →
    IsBadBy new size BadFrame

-- the eight sectors of a page's words
abbrev pub words_at : Image → SavedState → ℕ → List ℕ
words_at image s object = sectors_from image (frame_sector s.plan s.header.generation s.directory object + 1) 8

-- a sector of these words
abbrev pub IsInWords : SavedState → ℕ → ℕ → Type 0
IsInWords s object i = (j : ℕ) × (j < 8) × (i ≡ frame_sector s.plan s.header.generation s.directory object + 1 + j)

-- if a page holds words with other sums, the image is refused
abbrev pub OtherWordsAreRefused : Type 0
OtherWordsAreRefused = (size object : ℕ) (old new : Image) (s : SavedState) → s.plan.geometry.nodes ≤ object →
    object < s.plan.geometry.nodes + s.plan.geometry.pages → IsChanged size s (IsInWords s object) old new →
    (sums_of (words_at new s object) ≡ sums_of (words_at old s object) → ⊥) → IsBadBy new size BadFrame

-- sector j of the directory
abbrev pub entry_sector : SavedState → ℕ → ℕ
entry_sector s j = directory_sector s.plan s.header.generation + j

-- if one sector of the directory holds bytes with another seal, the image is refused
abbrev pub OtherEntriesAreRefused : Type 0
OtherEntriesAreRefused = (size j : ℕ) (old new : Image) (s : SavedState) →
    j < directory_length s.plan.version s.header.entries → IsChanged size s (λ i. i ≡ entry_sector s j) old new →
    (seal_in (new (entry_sector s j)) ≡ seal_in (old (entry_sector s j)) → ⊥) → IsBadBy new size BadDirectory
