-- What the searches for a fault in frames return.
use Rattle.std.specs.Prelude.{◌≡◌, ℕ, ◌<◌, List, Option, None, Some}
use Rattle.model.specs.declared.frame.Frame.{Frame}
use Rattle.model.specs.Frame.{frame_at}
use Rattle.model.specs.Keepable.{caps_in}
use Rattle.layout.specs.Frame.{cap_at}
use Rattle.recovery.specs.declared.consistency.processes.Noted.{Noted}
use Rattle.capability.specs.Consistency.{AreBanked, AreNamed, AreWholeProcesses, IsNamed}
use Rattle.recovery.specs.Noted.{note_at}
use Rattle.image_explainer.specs.declared.fault.ImageFault.{ImageFault}
use Rattle.image_explainer.specs.declared.fault.Misnamed.{Misnamed}
use Rattle.image_explainer.specs.declared.fault.Unmatched.{Unmatched}
use Rattle.image_explainer.specs.Breaking.{BreaksFrames, IsFirstMisnamed, IsFirstUnmatched, IsUnmatched}

-- the first capability that breaks `IsNamed`; `None` if there is none
abbrev pub NamesOr : List Frame → Option Misnamed → Type 0
NamesOr fs None = AreNamed fs
NamesOr fs (Some m) = IsFirstMisnamed fs m

-- the first capability of this holder that breaks `IsNamed`
pub record IsFirstOf (fs : List Frame) (holder : ℕ) (m : Misnamed) : Type 0 where
  pub own : m.holder ≡ holder
  pub here : (k : ℕ) → k < m.index → IsNamed fs (cap_at (caps_in (frame_at fs m.holder).content) k)

-- the first root or annex that doesn't match; `None` if all match
abbrev pub MatchesOr : List Frame → Option Unmatched → Type 0
MatchesOr fs None = AreWholeProcesses fs
MatchesOr fs (Some u) = IsUnmatched fs u × IsFirstUnmatched fs u

-- a fault of the frames; `None` if they are consistent
abbrev pub IsConsistentOr : List Frame → Option ImageFault → Type 0
IsConsistentOr fs None = AreNamed fs × AreWholeProcesses fs × AreBanked fs
IsConsistentOr fs (Some f) = BreaksFrames fs f

-- the annex in a root's note; `None` for any other object
abbrev pub annex_in_note : Option Noted → Option ℕ
annex_in_note None = None
annex_in_note (Some note) = Some note.annex

-- the annex in the note of number n
abbrev pub annex_noted : List (Option Noted) → ℕ → Option ℕ
annex_noted notes n = annex_in_note (note_at notes n)
