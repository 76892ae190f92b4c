-- The results of opening a device.
use Rattle.migrator.specs.Names.{ℕ, None, List, length, take, replicate, ⊤, Frame, Entry, CheckpointHeader}
use Rattle.migrator.specs.Names.{SealedHeader, BadImage, BadFrame, IsFrameOf, AreSpelt, Plan, OpenFault, Image, Disk}
use Rattle.migrator.specs.Names.{Only, IsBadBy, HasHeader, HasDirectory, HasUnits, frame_in, Holds, OnlyReads, row}
use Rattle.migrator.specs.Names.{true}
use Rattle.std.specs.Prelude.{◌≡◌}
use Rattle.layout.specs.declared.bad_image.BadImage.TheVariants as bad
use Rattle.layout.specs.declared.open_fault.OpenFault.TheVariants as refusal
use Rattle.migrator.specs.Put.{Absent}
use Rattle.migrator.specs.Durable.{DurableState, stored_of, is_sound}

-- why an image has no superblock: the least of reasons 1 to 3 that holds
abbrev pub HasNoPlan : Image → ℕ → BadImage → Type 0
HasNoPlan image size bad.Small = IsBadBy image size bad.Small
HasNoPlan image size bad.NotASuperblock = IsBadBy image size bad.NotASuperblock
HasNoPlan image size bad.BadGeometry = IsBadBy image size bad.BadGeometry
HasNoPlan image size _ = ⊥

-- why no superblock was read: the image has none, or the device failed
abbrev pub IsUnplanned : Image → ℕ → OpenFault → Type 0
IsUnplanned image size refusal.Failed = ⊤
IsUnplanned image size refusal.NoMemory = ⊥
IsUnplanned image size (refusal.Bad reason) = HasNoPlan image size reason

-- why the saved frame of object n wasn't read: its bytes encode none, the device failed, or memory ran out
abbrev pub IsBadAt : Image → Plan → CheckpointHeader → List Entry → ℕ → OpenFault → Type 0
IsBadAt image p h es n refusal.Failed = ⊤
IsBadAt image p h es n refusal.NoMemory = ⊤
IsBadAt image p h es n (refusal.Bad reason) = (reason ≡ BadFrame) ×
    ((f : Frame) → IsFrameOf p.geometry h.age n (frame_in image p h.generation es n) f → ⊥)

-- an image was read: its header, its directory at the front of the entries, and all frames, which are valid; if the
-- version has seals, the units are right
pub record IsRead (image : Image) (p : Plan) (h : SealedHeader) (es : List Entry) : Type 0 where
  pub header : HasHeader image p h
  pub directory : HasDirectory image p h (take h.header.entries es)
  pub spelt : AreSpelt image p h.header.age h.header.generation (take h.header.entries es)
  pub units : (row p.version).sealed ≡ true →
      HasUnits image p h.root h.header.generation (take h.header.entries es)

-- a device was opened, and nothing was written; the store has its saved frames and no others, and a crash leaves what
-- a read gives
pub record OpensDurable {D : Type 0} (disk : D → Disk) (device : D) (s : DurableState D) : Type 0 where
  pub sound : is_sound disk s
  pub holds : Holds (disk device).sectors (disk device).seen (stored_of disk s).saved
  pub working : (stored_of disk s).working ≡ replicate (length (stored_of disk s).saved.frames) Absent
  pub frozen : (stored_of disk s).frozen ≡ None
  pub to_move : (stored_of disk s).to_move ≡ (stored_of disk s).saved.entries
  pub durable : Only (disk s.beneath).seen (disk s.beneath)
  pub only_reads : OnlyReads (disk device) (disk s.beneath)
  pub failures : (disk s.beneath).failures ≡ (disk device).failures
