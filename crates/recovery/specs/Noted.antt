-- Notes of the roots of processes, so that roots needn't be fetched again.
use Rattle.recovery.specs.Names.{ℕ, Bool, true, false, List, Option, None, Some, length, slice_index_or, slice_set}
use Rattle.recovery.specs.Names.{Frame, Content, frame_at, is_waiting, IsAnnexFor, IsRootOf}
use Rattle.std.specs.Prelude.{◌≡◌, ◌<◌}
use Rattle.model.specs.declared.object.Content.TheVariants as content
use Rattle.recovery.specs.declared.consistency.processes.Noted.{Noted}

-- the note of a content: for a root, whether the process waits, and its annex
abbrev pub noted_in : {C : Type 0} → Content C → Option Noted
noted_in (content.Root root) = Some (record { is_waiting = is_waiting root.state; annex = root.annex })
noted_in _ = None

-- the note of a number
abbrev pub note_at : List (Option Noted) → ℕ → Option Noted
note_at notes n = slice_index_or notes n None

-- there is a note for each number
pub record AreNoted (fs : List Frame) (notes : List (Option Noted)) : Type 0 where
  pub count : length notes ≡ length fs
  pub each : (n : ℕ) → note_at notes n ≡ noted_in (frame_at fs n).content

-- whether a root has taken number `a` as its annex
abbrev pub is_taken : List Bool → ℕ → Bool
is_taken taken a = slice_index_or taken a false

-- each root below `count` has taken an annex of its own, and no other annex is taken
pub record AreTaken (fs : List Frame) (count : ℕ) (taken : List Bool) : Type 0 where
  pub annexes : (p a : ℕ) → p < count → IsRootOf fs p a → IsAnnexFor fs p a
  pub one_root : (p q a : ℕ) → p < count → q < count → IsRootOf fs p a → IsRootOf fs q a → p ≡ q
  pub marked : (p a : ℕ) → p < count → IsRootOf fs p a → is_taken taken a ≡ true
  pub found : (a : ℕ) → is_taken taken a ≡ true → (p : ℕ) × (p < count) × IsRootOf fs p a

-- whether a note is of a waiting process; whether the note of number p is
abbrev pub is_waiting_note : Option Noted → Bool
is_waiting_note (Some note) = note.is_waiting
is_waiting_note None = false

abbrev pub waits_at : List (Option Noted) → ℕ → Bool
waits_at notes p = is_waiting_note (note_at notes p)

-- root p takes annex `a`, which no other root has taken
pub record IsTaking (fs : List Frame) (p a : ℕ) (old new : List Bool) : Type 0 where
  pub annex : IsAnnexFor fs p a
  pub vacant : is_taken old a ≡ false
  pub taken : new ≡ slice_set old a true
