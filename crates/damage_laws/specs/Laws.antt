-- What a damaged image encodes.
use Rattle.std.specs.Prelude.{◌≡◌, ◌⊎◌, ℕ, ◌+◌, ◌%◌, ◌<◌}
use Rattle.device.specs.Disk.{Image, IsWhole}
use Rattle.layout.specs.Denoted.{Encodes, SavedState}
use Rattle.layout.specs.sealed.Opening.{gate_sector, header_sector}
use Rattle.damage_laws.specs.Damage.{IsDamaged, IsGood, IsRead, DamageShows}

-- what a damaged image encodes is what the good image encodes, also the header's root and sums
abbrev pub DamageChangesNothing : Type 0
DamageChangesNothing = (bit size : ℕ) (old new : Image) (s t : SavedState) (good : IsGood old size s) →
    IsWhole size new → IsDamaged bit old new → (after : Encodes new size t) → (t ≡ s) × (after.commit ≡ good.encodes.commit)

-- an image in which damage has changed a sector that s is read from is refused
abbrev pub DamageIsRefused : Type 0
DamageIsRefused = (bit size sector : ℕ) (old new : Image) (s : SavedState) → IsGood old size s → IsWhole size new →
    IsDamaged bit old new → IsRead s sector → (new sector ≡ old sector → ⊥) → DamageShows size s old new

-- an image in which damage has changed none of these sectors encodes s
abbrev pub DamageElsewhereIsHarmless : Type 0
DamageElsewhereIsHarmless = (bit size : ℕ) (old new : Image) (s : SavedState) → IsGood old size s → IsWhole size new →
    IsDamaged bit old new → ((i : ℕ) → IsRead s i → new i ≡ old i) → Encodes new size s

-- so a damaged image encodes s, or it is refused
abbrev pub DamageIsHarmlessOrRefused : Type 0
DamageIsHarmlessOrRefused = (bit size : ℕ) (old new : Image) (s : SavedState) → IsGood old size s → IsWhole size new →
    IsDamaged bit old new → Encodes new size s ⊎ DamageShows size s old new

-- an image that is refused encodes no state
abbrev pub RefusedEncodesNone : Type 0
RefusedEncodesNone = (size : ℕ) (old new : Image) (s t : SavedState) → DamageShows size s old new →
    Encodes new size t → ⊥

-- no gate is read in this sense, and of the three headers only two are
abbrev pub GatesAreNotRead : Type 0
GatesAreNotRead = (size k : ℕ) (image : Image) (s : SavedState) → IsGood image size s → k < 3 →
    (IsRead s (gate_sector k) → ⊥) × (IsRead s (header_sector ((s.header.sequence + 1) % 3)) → ⊥)
