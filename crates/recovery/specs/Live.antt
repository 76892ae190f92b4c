-- The machine of an open store.
use Rattle.recovery.specs.Names.{ℕ, Bool, not, Option, None, Some, List, [], length, map, range_with_len, Frame}
use Rattle.recovery.specs.Names.{Geometry, frame_at, Snapshots, IsSoundFrames, world_at, Frozen, Running, Disk, Parts}
use Rattle.recovery.specs.Names.{frames_of, objects_in, FrozenFrames, View, AreCounted, BanksState}
use Rattle.std.specs.Prelude.{◌≡◌, ◌<◌, ◌≤◌, ◌==◌, ◌∷◌}
use Rattle.recovery.specs.declared.live.Live.{Live}
use Rattle.recovery.specs.Denotes.{saved_of, IsSoundSaved, Leaves}

-- the frozen checkpoint of the machine, from the frozen frames and their age
abbrev pub frozen_of : ℕ → Option FrozenFrames → Option Frozen
frozen_of age None = None
frozen_of age (Some f) = Some (record { world = world_at age f.frames; size = f.size; left = f.left })

-- the frames at the last checkpoint or restart
abbrev pub base_of : Snapshots FrozenFrames → List Frame
base_of a = elim a.frozen [ None ↦ a.saved.frames | Some f ↦ f.frames ]

-- which numbers have a different allocation count than in `base`
unfoldable pub renewed_since : List Frame → List Frame → List Bool
renewed_since base fs = map (λ n. not ((frame_at fs n).header.allocations == (frame_at base n).header.allocations))
    (range_with_len 0 (length base))

-- the machine of these present frames, and of this frozen and saved state
abbrev pub running_of : Parts → Snapshots FrozenFrames → ℕ → ℕ → Running
running_of p snapshots age frozen_age = record {
  now = world_at age (frames_of p);
  touched = p.touched;
  renewed = renewed_since (base_of snapshots) (frames_of p);
  frozen = frozen_of frozen_age snapshots.frozen;
  saved = saved_of snapshots.saved;
  to_move = snapshots.to_move;
}

-- frozen frames are sound at their age, which is above the saved age and at most the present age
pub record IsSoundFrozen (g : Geometry) (saved_age frozen_age age : ℕ) (f : FrozenFrames) : Type 0 where
  pub after : saved_age < frozen_age
  pub before : frozen_age ≤ age
  pub sound : IsSoundFrames g frozen_age f.frames

-- the invariant of a kernel's frames: all are sound, the banks' state agrees with them, and no allocation count has
-- fallen
pub record AreSoundTogether (g : Geometry) (p : Parts) (snapshots : Snapshots FrozenFrames) (banks : BanksState)
    (age frozen_age : ℕ) : Type 0 where
  pub geometry : p.geometry ≡ g
  pub now : IsSoundFrames g age (frames_of p)
  pub counted : AreCounted g (objects_in p) banks
  pub frozen : (f : FrozenFrames) → snapshots.frozen ≡ Some f → IsSoundFrozen g snapshots.saved.age frozen_age age f
  pub saved : IsSoundSaved g snapshots.saved
  pub order : snapshots.saved.age ≤ age
  pub risen : (n : ℕ) → (frame_at (base_of snapshots) n).header.allocations ≤
      (frame_at (frames_of p) n).header.allocations

-- The parameters are the ghost members of a device and of an object store.
module _ {D S : Type 0} (disk : D → Disk) (view : S → View D) (parts : S → Parts) where
  -- the machine of an open store
  abbrev pub running : Live S → Running
  running l = running_of (parts l.store) (view l.store).snapshots l.age l.frozen_age

  abbrev pub disk_at : Live S → Disk
  disk_at l = disk (view l.store).beneath

  -- an open store can be used, all its frames are sound, and each crash leaves what is saved
  pub record IsUp (g : Geometry) (l : Live S) : Type 0 where
    pub store : (view l.store).usable
    pub sound : AreSoundTogether g (parts l.store) (view l.store).snapshots l.banks l.age l.frozen_age
    pub leaves : Leaves g (disk_at l) (saved_of (view l.store).snapshots.saved ∷ [])

  abbrev pub IsSomeUp : Live S → Type 0
  IsSomeUp l = (g : Geometry) × IsUp g l
