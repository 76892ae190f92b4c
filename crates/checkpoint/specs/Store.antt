-- What an object store over a device is, and what its calls answer.
use Rattle.checkpoint.specs.Names.{ℕ, Option, Some, None, option_map, List, Result, Ok, Err, Frame, AreKeepable}
use Rattle.checkpoint.specs.Names.{untouched, Disk, Only, Refusal, Parts, frames_of}
use Rattle.std.specs.Prelude.{◌≡◌, ◌≢◌, ◌==◌, if◌then◌else◌, ◌+◌, ◌-◌, ◌<◌, ◌≤◌, ◌^◌}
use Rattle.model.specs.declared.answer.Refusal.TheVariants as refusal
use Rattle.checkpoint.specs.Saved.{Holds, LeavesSaved}
use Rattle.checkpoint.specs.Snapshots.{FrozenView, Snapshots, freezing}
use Rattle.checkpoint.specs.Opened.{OnlyReads}

-- a frozen checkpoint: all frames when it began, how many objects it writes, and how many of these are still to write
pub record FrozenFrames : Type 0 where
  pub frames : List Frame
  pub size : ℕ
  pub left : ℕ

-- how to read a frozen checkpoint: it saves its frames of all objects
abbrev pub whole : FrozenView FrozenFrames
whole = record {
  frames = λ (f : FrozenFrames) (fs : List Frame). f.frames;
  size = λ (f : FrozenFrames). f.size;
  left = λ (f : FrozenFrames). f.left;
}

-- a checkpoint that has just begun with these frames: no object is written yet
abbrev pub all_frozen : List Frame → ℕ → FrozenFrames
all_frozen fs size = record { frames = fs; size = size; left = size }

-- the parts after a checkpoint began: no number is touched
abbrev pub all_untouched : Parts → Parts
all_untouched p = record p { touched = untouched p.geometry }

-- a store: the device beneath, the frozen and the saved state, and whether it can be used
pub record View (D : Type 0) : Type 1 where
  pub beneath : D
  pub snapshots : Snapshots FrozenFrames
  pub usable : Type 0

-- The store went on without a commit or a new checkpoint. Unless the device failed, the frozen and the saved state are
-- the same, and the store can still be used.
pub record Continues {D : Type 0} (disk : D → Disk) (old new : View D) : Type 0 where
  pub snapshots : (disk new.beneath).failures ≡ (disk old.beneath).failures → new.snapshots ≡ old.snapshots
  pub usable : (disk new.beneath).failures ≡ (disk old.beneath).failures → old.usable → new.usable
  pub size : (disk new.beneath).sectors ≡ (disk old.beneath).sectors
  pub later : (disk old.beneath).failures ≤ (disk new.beneath).failures
  pub any_moment : old.usable → LeavesSaved (disk old.beneath) (disk new.beneath) old.snapshots.saved

-- A device was opened as a store, and nothing was written. The present objects are the saved ones, and a crash leaves
-- what a read gives.
pub record OpensStore {D : Type 0} (disk : D → Disk) (device : D) (parts : Parts) (store : View D) : Type 0 where
  pub usable : store.usable
  pub holds : Holds (disk device).sectors (disk device).seen store.snapshots.saved
  pub frames : frames_of parts ≡ store.snapshots.saved.frames
  pub touched : parts.touched ≡ untouched store.snapshots.saved.geometry
  pub frozen : store.snapshots.frozen ≡ None
  pub to_move : store.snapshots.to_move ≡ store.snapshots.saved.entries
  pub durable : Only (disk store.beneath).seen (disk store.beneath)
  pub only_reads : OnlyReads (disk device) (disk store.beneath)
  pub failures : (disk store.beneath).failures ≡ (disk device).failures

-- the answer to `stabilize`: refused if no checkpoint is frozen
abbrev pub IsStabilizeAnswer : Disk → Disk → Option ℕ → ℕ → Result ℕ Refusal → Type 0
IsStabilizeAnswer old new left count (Ok n) = (new.failures ≡ old.failures) ×
    (option_map (λ (k : ℕ). k - count) left ≡ Some n)
IsStabilizeAnswer old new left count (Err refusal.NoCheckpoint) = (new.failures ≡ old.failures) × (left ≡ None)
IsStabilizeAnswer old new left count (Err refusal.Fault) = (old.failures < new.failures) × (left ≢ None)
IsStabilizeAnswer old new left count (Err _) = ⊥

-- the snapshots after `n` more of the frozen objects were written to the log
abbrev pub stabilized : ℕ → FrozenFrames → Snapshots FrozenFrames → Snapshots FrozenFrames
stabilized n f s =
    let rest : FrozenFrames = record { frames = f.frames; size = f.size; left = f.left - n } in
    freezing rest s
