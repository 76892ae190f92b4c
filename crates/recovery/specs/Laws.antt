-- An image denotes at most one saved state, and its world is sound. An image denotes one exactly if none of the ten
-- reasons holds.
use Rattle.recovery.specs.Names.{ℕ, List, Contains, Geometry, Saved, IsSound, Image, BadImage}
use Rattle.std.specs.Prelude.{◌≡◌}
use Rattle.recovery.specs.Denotes.{Denotes, DenotesOne}
use Rattle.recovery.specs.Recovered.{IsBad}

-- an image denotes at most one saved state, with one geometry
abbrev pub DenoteOneSaved : Type 0
DenoteOneSaved = (g h : Geometry) (size : ℕ) (c : Image) (s t : Saved) → Denotes g size c s → Denotes h size c t →
    (g ≡ h) × (s ≡ t)

-- if an image denotes one of these states, it denotes no other state
abbrev pub DenotedIsOneOf : Type 0
DenotedIsOneOf = (g h : Geometry) (size : ℕ) (c : Image) (ss : List Saved) (t : Saved) → DenotesOne g size ss c →
    Denotes h size c t → (g ≡ h) × Contains ss t

-- if an image denotes a saved state, the state's world is sound
abbrev pub DenotedIsSound : Type 0
DenotedIsSound = (g : Geometry) (size : ℕ) (c : Image) (s : Saved) → Denotes g size c s → IsSound g s.world

-- if an image denotes a saved state, none of the ten reasons holds
abbrev pub DenotedIsNotBad : Type 0
DenotedIsNotBad = (g : Geometry) (size : ℕ) (c : Image) (s : Saved) (reason : BadImage) → Denotes g size c s →
    IsBad size c reason → ⊥

-- If none of the ten reasons holds for an image, it denotes a saved state (it can't be that it denotes none).
abbrev pub NotBadIsDenoted : Type 0
NotBadIsDenoted = (size : ℕ) (c : Image) → ((reason : BadImage) → IsBad size c reason → ⊥) →
    ((g : Geometry) (s : Saved) → Denotes g size c s → ⊥) → ⊥

-- at most one reason is the least that holds
abbrev pub AreBadForOneReason : Type 0
AreBadForOneReason = (size : ℕ) (c : Image) (a b : BadImage) → IsBad size c a → IsBad size c b → a ≡ b
