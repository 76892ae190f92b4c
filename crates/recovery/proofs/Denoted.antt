-- An image denotes at most one saved state, and an image that denotes one isn't bad.
use Rattle.recovery.proofs.Names.{nat_tests, ℕ, zero, suc, List, [], refl, sym, ap, subst, ⊎_elim, inl, arith, Contains, Geometry, Saved, IsSound, Image, Disk}
use Rattle.recovery.proofs.Names.{BadImage, one_state, SavedFrames, Holds, kept_of, frames_not_bad, saved_of, IsSoundSaved, Denotes, DenotesOne, Leaves}
use Rattle.recovery.proofs.Names.{DenoteOneSaved, DenotedIsNotBad, DenotedIsOneOf, DenotedIsSound, IsBad}
use Rattle.std.proofs.Common.{◌≡◌, ◌∷◌, ◌∙◌}
use Rattle.recovery.proofs.Unsound.{inconsistent_is_unsound}

-- an image that holds frames of a sound world denotes their saved state
pub denoted_by : (g : Geometry) (size : ℕ) (c : Image) (fs : SavedFrames) → IsSoundSaved g fs → Holds size c fs →
    Denotes g size c (saved_of fs)
denoted_by g size c fs sound holds = record { frames = fs; holds = holds; sound = sound; stands = refl }

-- if each crash leaves saved frames of a sound world, it leaves an image that denotes their saved state
pub leaves_saved : (g : Geometry) (disk : Disk) (fs : SavedFrames) → IsSoundSaved g fs →
    ((c : Image) → disk.may_leave c → Holds disk.sectors c fs) → Leaves g disk (saved_of fs ∷ [])
leaves_saved g disk fs sound holds c left = inl (denoted_by g disk.sectors c fs sound (holds c left))

-- an image holds at most one list of saved frames
pub holds_one : (size : ℕ) (c : Image) (a b : SavedFrames) → Holds size c a → Holds size c b → a ≡ b
holds_one size c a b ha hb = sym ha.2 ∙ ap kept_of (one_state c size ha.0 hb.0 ha.1 hb.1) ∙ hb.2

-- the saved state that an image denotes is that of the frames that it holds
pub denotes_held : (g : Geometry) (size : ℕ) (c : Image) (s : Saved) (fs : SavedFrames) → Denotes g size c s → Holds size c fs →
    (saved_of fs ≡ s) × IsSoundSaved g fs
denotes_held g size c s fs denoted held =
    let same : denoted.frames ≡ fs = holds_one size c denoted.frames fs denoted.holds held in
    grind (arith, nat_tests)

pub denotes_one : DenoteOneSaved
denotes_one g h size c s t ds dt =
    let held = denotes_held g size c s dt.frames ds dt.holds in
    grind (arith, nat_tests)

pub denoted_sound : DenotedIsSound
denoted_sound g size c s denoted = subst (λ (x : Saved). IsSound g x.world) denoted.stands denoted.sound.sound.sound

contains_here : (s : Saved) (ss : List Saved) → Contains (s ∷ ss) s
contains_here s ss = (zero, omega arith, refl)

contains_more : (s t : Saved) (ss : List Saved) → Contains ss t → Contains (s ∷ ss) t
contains_more s t ss there = (suc there.0, omega (arith, there.1), there.2)

-- if an image denotes one of several states, this is the state of the frames that it holds
pub one_denoted : (g : Geometry) (size : ℕ) (c : Image) (ss : List Saved) (fs : SavedFrames) → DenotesOne g size ss c → Holds size c fs →
    Contains ss (saved_of fs) × IsSoundSaved g fs
one_denoted g size c [] fs denoted held = absurd denoted
one_denoted g size c (s ∷ ss) fs denoted held = ⊎_elim (λ here. let is = denotes_held g size c s fs here held in
    (subst (λ (x : Saved). Contains (x ∷ ss) (saved_of fs)) is.0 (contains_here (saved_of fs) ss), is.1))
    (λ there. let is = one_denoted g size c ss fs there held in (contains_more s (saved_of fs) ss is.0, is.1))
    denoted

pub denoted_one_of : DenotedIsOneOf
denoted_one_of g h size c ss t one denoted = grind (arith, nat_tests, one_denoted)

-- no reason holds for an image that denotes a saved state
pub denoted_not_bad : DenotedIsNotBad
denoted_not_bad g size c s reason denoted why = ⊎_elim (λ first. frames_not_bad c size denoted.holds.0 denoted.holds.1 reason first)
    (λ last.
    inconsistent_is_unsound g last.0.age last.0.frames reason last.2 (denotes_held g size c s last.0 denoted last.1).1.sound)
    why

pub one_not_bad : (g : Geometry) (size : ℕ) (c : Image) (ss : List Saved) (reason : BadImage) → DenotesOne g size ss c →
    IsBad size c reason → ⊥
one_not_bad g size c [] reason denoted why = absurd denoted
one_not_bad g size c (s ∷ ss) reason denoted why = ⊎_elim (λ here. denoted_not_bad g size c s reason here why)
    (λ there. one_not_bad g size c ss reason there why) denoted
