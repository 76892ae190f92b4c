-- What is wrong with an image. A fault has a reason, and names the place in the sectors or frames where the reason
-- applies.
use Rattle.std.specs.Prelude.{◌≡◌, ◌≢◌, ◌<◌, ℕ, length, List}
use Rattle.std.specs.List.{All}
use Rattle.device.specs.Disk.{Image}
use Rattle.model.specs.declared.frame.Frame.{Frame}
use Rattle.model.specs.declared.object.Role.TheVariants as role
use Rattle.model.specs.Frame.{current_count, frame_at, headers}
use Rattle.model.specs.Keepable.{caps_in}
use Rattle.layout.specs.declared.bad_image.BadImage.{BadImage}
use Rattle.layout.specs.declared.bad_image.BadImage.TheVariants as bad
use Rattle.layout.specs.Frame.{cap_at}
use Rattle.checkpoint.specs.Saved.{Holds, SavedFrames}
use Rattle.capability.specs.Consistency.{AreNamed, AreWholeProcesses, IsAnnexFor, IsNamed, IsRootOf}
use Rattle.recovery.specs.Consistency.{IsUnbanked}
use Rattle.capability.specs.Consistency.{role_at}
use Rattle.image_explainer.specs.SectorBreaking.{BreaksSectors, sector_reason}
use Rattle.image_explainer.specs.declared.fault.ImageFault.{ImageFault}
use Rattle.image_explainer.specs.declared.fault.ImageFault.TheVariants as fault
use Rattle.image_explainer.specs.declared.fault.Misnamed.{Misnamed}
use Rattle.image_explainer.specs.declared.fault.Unmatched.{Unmatched}
use Rattle.image_explainer.specs.declared.fault.Unmatched.TheVariants as unmatched

-- the reason to refuse an image that has this fault
abbrev pub reason_of : ImageFault → BadImage
reason_of (fault.Sectors f) = sector_reason f
reason_of (fault.Capability m) = bad.BadCapability
reason_of (fault.Process u) = bad.BadProcess
reason_of (fault.Bank u) = bad.BadBank

-- reason 8: the object holds this capability at this index, and the capability breaks `IsNamed`
pub record IsMisnamed (fs : List Frame) (m : Misnamed) : Type 0 where
  pub within : m.index < length (caps_in (frame_at fs m.holder).content)
  pub held : cap_at (caps_in (frame_at fs m.holder).content) m.index ≡ m.held
  pub kind : m.role ≡ role_at fs m.holder
  pub current : m.current ≡ current_count (headers fs) m.held.what
  pub broken : IsNamed fs m.held → ⊥

-- by holder and index, this is the first capability that breaks `IsNamed`
pub record IsFirstMisnamed (fs : List Frame) (m : Misnamed) : Type 0 where
  pub misnamed : IsMisnamed fs m
  pub here : (k : ℕ) → k < m.index → IsNamed fs (cap_at (caps_in (frame_at fs m.holder).content) k)
  pub before : (n : ℕ) → n < m.holder → All (IsNamed fs) (caps_in (frame_at fs n).content)

-- if number p is a root, the number that it names is an annex for p, and no later root names the same annex
abbrev pub IsMatched : List Frame → ℕ → Type 0
IsMatched fs p = (a : ℕ) → IsRootOf fs p a → IsAnnexFor fs p a × ((q : ℕ) → p < q → IsRootOf fs q a → ⊥)

-- if number a is an annex, some root names it
abbrev pub HasRoot : List Frame → ℕ → Type 0
HasRoot fs a = role_at fs a ≡ role.Annex → (p : ℕ) × IsRootOf fs p a

-- reason 9: a root and an annex that don't match
abbrev pub IsUnmatched : List Frame → Unmatched → Type 0
IsUnmatched fs (unmatched.Annex root annex) = IsRootOf fs root annex × (IsAnnexFor fs root annex → ⊥)
IsUnmatched fs (unmatched.Shared first second annex) = IsRootOf fs first annex × IsRootOf fs second annex ×
    (first ≢ second)
IsUnmatched fs (unmatched.Rootless annex) = (role_at fs annex ≡ role.Annex) × ((p : ℕ) → IsRootOf fs p annex → ⊥)

-- these are the first that don't match: roots by number, then annexes
abbrev pub IsFirstUnmatched : List Frame → Unmatched → Type 0
IsFirstUnmatched fs (unmatched.Annex root annex) = (p : ℕ) → p < root → IsMatched fs p
IsFirstUnmatched fs (unmatched.Shared first second annex) =
    ((p : ℕ) → p < first → IsMatched fs p) × IsAnnexFor fs first annex × (first < second) ×
    ((q : ℕ) → first < q → q < second → IsRootOf fs q annex → ⊥)
IsFirstUnmatched fs (unmatched.Rootless annex) = ((p : ℕ) → IsMatched fs p) × ((a : ℕ) → a < annex → HasRoot fs a)

-- among these frames a fault's place is the first where its reason applies, and no lesser reason applies
abbrev pub BreaksFrames : List Frame → ImageFault → Type 0
BreaksFrames fs (fault.Sectors f) = ⊥
BreaksFrames fs (fault.Capability m) = IsFirstMisnamed fs m
BreaksFrames fs (fault.Process u) = AreNamed fs × IsUnmatched fs u × IsFirstUnmatched fs u
BreaksFrames fs (fault.Bank u) = AreNamed fs × AreWholeProcesses fs × IsUnbanked fs u

-- the fault is in the `size` sectors of the image, or in the frames that they hold
abbrev pub Breaks : ℕ → Image → ImageFault → Type 0
Breaks size c (fault.Sectors f) = BreaksSectors size c f
Breaks size c f = (saved : SavedFrames) × Holds size c saved × BreaksFrames saved.frames f
