-- The frames that a committed checkpoint saves.
use Rattle.checkpoint.specs.Names.{ℕ, Option, Some, None, List, slice_set, Frame, Geometry, frame_at, Image, Disk}
use Rattle.checkpoint.specs.Names.{LeavesOnly, SavedState, Encodes}
use Rattle.std.specs.Prelude.{◌≡◌, ◌⊎◌, ◌+◌, ◌-◌, ◌^◌}
use Rattle.model.specs.declared.object.Content.TheVariants as content

-- the saved frames of all objects, and the checkpoint's numbers; `entries` counts the objects whose saved frames are
-- in the log
pub record SavedFrames : Type 0 where
  pub geometry : Geometry
  pub frames : List Frame
  pub generation : ℕ
  pub entries : ℕ
  pub age : ℕ

-- the frames and numbers of an image's saved state, without the places of the frames
abbrev pub kept_of : SavedState → SavedFrames
kept_of s = record {
  geometry = s.plan.geometry;
  frames = s.frames;
  generation = s.header.generation;
  entries = s.header.entries;
  age = s.header.age;
}

-- an image of `size` sectors encodes these saved frames
abbrev pub Holds : ℕ → Image → SavedFrames → Type 0
Holds size c saved = (s : SavedState) × Encodes c size s × (kept_of s ≡ saved)

-- a crash at any moment since `old` leaves the saved frames
abbrev pub LeavesSaved : Disk → Disk → SavedFrames → Type 0
LeavesSaved old new saved = LeavesOnly old new (λ c. Holds old.sectors c saved)

-- a crash at any moment since `old` leaves the saved frames, or the next saved frames
abbrev pub LeavesEither : Disk → Disk → SavedFrames → SavedFrames → Type 0
LeavesEither old new saved next = LeavesOnly old new (λ c. Holds old.sectors c saved ⊎ Holds old.sectors c next)

-- a crash at any moment since `old` leaves the saved frames or, if there are any, the next saved frames
abbrev pub LeavesOneOf : Disk → Disk → SavedFrames → Option SavedFrames → Type 0
LeavesOneOf old new saved None = LeavesSaved old new saved
LeavesOneOf old new saved (Some next) = LeavesEither old new saved next

-- the saved frames, all home
abbrev pub home_saved : SavedFrames → SavedFrames
home_saved s = record { geometry = s.geometry; frames = s.frames; generation = s.generation; entries = 0; age = s.age }

-- the saved frames, with a new frame for object n; the generation rises by 2, so it uses the same half of the log
abbrev pub replaced_saved : ℕ → ℕ → Frame → SavedFrames → SavedFrames
replaced_saved age n f s =
    record {
      geometry = s.geometry;
      frames = slice_set s.frames n f;
      generation = s.generation + 2;
      entries = 1;
      age = age;
    }

-- the frame of a page with these words
abbrev pub with_words : List ℕ → Frame → Frame
with_words words f = record { header = f.header; content = content.Page words }

-- the saved frames, with new words for page n
abbrev pub journaled_saved : ℕ → ℕ → List ℕ → SavedFrames → SavedFrames
journaled_saved age n words s = replaced_saved age n (with_words words (frame_at s.frames n)) s

-- the greatest age of a frame that can be written
abbrev pub most : ℕ
most = 2 ^ 64 - 1
