-- A good image of version 3, and how a damaged one differs from it.
use Rattle.std.specs.Prelude.{◌≡◌, ◌⊎◌, ℕ, ◌+◌, ◌*◌, ◌%◌, ◌<◌, ◌≤◌, true}
use Rattle.device.specs.Disk.{Image, IsWhole}
use Rattle.layout.specs.Denoted.{Encodes, IsBadBy, SavedState}
use Rattle.layout.specs.Homes.{place_length}
use Rattle.layout.specs.Image.{directory_sector, frame_sector}
use Rattle.layout.specs.Version.{directory_length, row}
use Rattle.layout.specs.declared.bad_image.BadImage.{BadImage}
use Rattle.layout.specs.declared.bad_image.BadImage.TheVariants as bad
use Rattle.layout.specs.sealed.Opening.{gate_sector, header_sector}
use Rattle.seal.specs.Damage.{row_bit}
use Rattle.damage_laws.specs.Gates.{HasWholeGate}

-- a device with these sectors encodes the saved state s in version 3
pub record IsGood (image : Image) (size : ℕ) (s : SavedState) : Type 0 where
  pub device : IsWhole size image
  pub encodes : Encodes image size s
  pub sealed : (row s.plan.version).sealed ≡ true

-- Only a burst differs: some of the 64 bits from this one on, counted from the first bit of sector 0. If it changes a
-- gate, that gate was whole.
pub record IsDamaged (bit : ℕ) (old new : Image) : Type 0 where
  pub before : (i j : ℕ) → j < 4096 → 4096 * i + j < bit → row_bit (new i) j ≡ row_bit (old i) j
  pub after : (i j : ℕ) → j < 4096 → bit + 64 ≤ 4096 * i + j → row_bit (new i) j ≡ row_bit (old i) j
  pub gates : (k : ℕ) → k < 3 → (new (gate_sector k) ≡ old (gate_sector k) → ⊥) → HasWholeGate old k

-- ---- the sectors that s is read from

-- the sectors of its header and of the one before it
abbrev pub IsCounted : SavedState → ℕ → Type 0
IsCounted s i = (i ≡ header_sector (s.header.sequence % 3)) ⊎ (i ≡ header_sector ((s.header.sequence + 2) % 3))

-- a sector of its directory
abbrev pub IsInDirectory : SavedState → ℕ → Type 0
IsInDirectory s i = (j : ℕ) × (j < directory_length s.plan.version s.header.entries)
    × (i ≡ directory_sector s.plan s.header.generation + j)

-- a sector of the cluster or page frame that has an object, in the log or at home
abbrev pub IsInBlockOf : SavedState → ℕ → ℕ → Type 0
IsInBlockOf s object i = (j : ℕ) × (j < place_length s.plan object)
    × (i ≡ frame_sector s.plan s.header.generation s.directory object + j)

abbrev pub IsInBlock : SavedState → ℕ → Type 0
IsInBlock s i = (object : ℕ) × (object < s.plan.geometry.nodes + s.plan.geometry.pages) × IsInBlockOf s object i

-- the superblock and all these
abbrev pub IsRead : SavedState → ℕ → Type 0
IsRead s i = (i ≡ 0) ⊎ IsCounted s i ⊎ IsInDirectory s i ⊎ IsInBlock s i

-- the reasons to refuse an image, by a sector that has changed
abbrev pub IsReason : SavedState → ℕ → BadImage → Type 0
IsReason s i bad.Small = i ≡ 0
IsReason s i bad.NotASuperblock = i ≡ 0
IsReason s i bad.NoHeader = IsCounted s i
IsReason s i bad.BadHeader = i ≡ header_sector (s.header.sequence % 3)
IsReason s i bad.BadDirectory = IsInDirectory s i
IsReason s i bad.BadFrame = IsInBlock s i
IsReason s i _ = ⊥

-- an image is bad, by a reason that one of the changed sectors tells
pub record DamageShows (size : ℕ) (s : SavedState) (old new : Image) : Type 0 where
  pub sector : ℕ
  pub changed : new sector ≡ old sector → ⊥
  pub why : BadImage
  pub reason : IsReason s sector why
  pub bad : IsBadBy new size why
