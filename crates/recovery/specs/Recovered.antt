-- The results of opening a device.
use Rattle.recovery.specs.Names.{ℕ, opened, Only, Image, Disk, BadImage, IsBadBy, OpenFault, OnlyReads, SavedFrames}
use Rattle.recovery.specs.Names.{Holds, Parts, frames_of, View}
use Rattle.std.specs.Prelude.{◌≡◌, ◌⊎◌, ◌<◌}
use Rattle.recovery.specs.Consistency.{IsInconsistent}
use Rattle.layout.specs.declared.open_fault.OpenFault.TheVariants as fault
use Rattle.recovery.specs.declared.live.Live.{Live}
use Rattle.recovery.specs.Denotes.{saved_of}
use Rattle.recovery.specs.Live.{IsUp, disk_at, running}

-- this is the least of the ten reasons that holds for an image
abbrev pub IsBad : ℕ → Image → BadImage → Type 0
IsBad size c reason =
    IsBadBy c size reason
    ⊎ ((saved : SavedFrames) × Holds size c saved × IsInconsistent saved.frames reason)

-- why a device wasn't opened: it failed, memory ran out, or its image is bad
abbrev pub IsWhy : Disk → Disk → OpenFault → Type 0
IsWhy old new fault.Failed = old.failures < new.failures
IsWhy old new fault.NoMemory = new.failures ≡ old.failures
IsWhy old new (fault.Bad reason) = (new.failures ≡ old.failures) × IsBad old.sectors old.seen reason

-- a device wasn't opened, and nothing was written
pub record RefusesToOpen {D : Type 0} (disk : D → Disk) (device back : D) (why : OpenFault) : Type 0 where
  pub is_why : IsWhy (disk device) (disk back) why
  pub only_reads : OnlyReads (disk device) (disk back)

-- The parameters are the ghost members of a device and of an object store.
module _ {D S : Type 0} (disk : D → Disk) (view : S → View D) (parts : S → Parts) where
  -- A device was opened, and nothing was written: the store is up at the saved state, and each crash leaves what a
  -- read gives.
  pub record Recovers (device : D) (l : Live S) : Type 0 where
    pub holds : Holds (disk device).sectors (disk device).seen (view l.store).snapshots.saved
    pub up : IsUp disk view parts (view l.store).snapshots.saved.geometry l
    pub frames : frames_of (parts l.store) ≡ (view l.store).snapshots.saved.frames
    pub at_saved : running disk view parts l ≡ opened (view l.store).snapshots.saved.geometry
        (saved_of (view l.store).snapshots.saved)
    pub durable : Only (disk_at disk view parts l).seen (disk_at disk view parts l)
    pub only_reads : OnlyReads (disk device) (disk_at disk view parts l)
    pub failures : (disk_at disk view parts l).failures ≡ (disk device).failures
