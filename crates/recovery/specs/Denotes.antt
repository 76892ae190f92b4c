-- Which saved state an image denotes: one, if none of the ten reasons to refuse it holds.
use Rattle.recovery.specs.Names.{ℕ, List, [], Geometry, IsSoundFrames, world_at, Saved, Image, Disk, LeavesOnly}
use Rattle.recovery.specs.Names.{SavedFrames, Holds}
use Rattle.std.specs.Prelude.{◌≡◌, ◌⊎◌, ◌∷◌}

-- the saved state of these frames: their world, with generation and entries
abbrev pub saved_of : SavedFrames → Saved
saved_of fs = record { world = world_at fs.age fs.frames; generation = fs.generation; entries = fs.entries }

-- saved frames of this geometry whose world is sound
pub record IsSoundSaved (g : Geometry) (fs : SavedFrames) : Type 0 where
  pub geometry : fs.geometry ≡ g
  pub sound : IsSoundFrames g fs.age fs.frames

-- an image of `size` sectors denotes a saved state: it holds frames of that state, whose world is sound
pub record Denotes (g : Geometry) (size : ℕ) (c : Image) (saved : Saved) : Type 0 where
  pub frames : SavedFrames
  pub holds : Holds size c frames
  pub sound : IsSoundSaved g frames
  pub stands : saved_of frames ≡ saved

-- an image denotes one of these saved states
abbrev pub DenotesOne : Geometry → ℕ → List Saved → Image → Type 0
DenotesOne g size [] c = ⊥
DenotesOne g size (s ∷ ss) c = Denotes g size c s ⊎ DenotesOne g size ss c

-- each crash now leaves an image that denotes one of these saved states
abbrev pub Leaves : Geometry → Disk → List Saved → Type 0
Leaves g disk saved = (c : Image) → disk.may_leave c → DenotesOne g disk.sectors saved c

-- a crash at any moment since `old` leaves an image that denotes one of these; the number of sectors stays
pub record LeavesOne (g : Geometry) (old new : Disk) (saved : List Saved) : Type 0 where
  pub size : new.sectors ≡ old.sectors
  pub any_moment : LeavesOnly old new (DenotesOne g old.sectors saved)
