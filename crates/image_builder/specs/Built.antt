-- What `build` does to a device.
use Rattle.image_builder.specs.Names.{List, Members, Frame, IsSoundFrames, Disk, Image, Elsewhere, Encodes, Holds}
use Rattle.image_builder.specs.Names.{SavedFrames, first_saved, first_state, Description, IsDescription, IsDescribed}
use Rattle.image_builder.specs.Names.{EndInZeros, IsAccepted, [], plan_for}
use Rattle.std.specs.Prelude.{◌≡◌, ◌⊎◌, if◌then◌else◌}

-- an image of the description was built. It has the described frames, which stand for a sound world, and zeros after
-- the frames of each cluster. It has the described age, generation 0 and an empty log. A crash leaves the same
pub record Builds (d : Description) (old new : Disk) : Type 0 where
  pub accepted : IsAccepted d old.sectors
  pub frames : List Frame
  pub described : IsDescribed d frames
  pub sound : IsSoundFrames d.geometry d.age frames
  pub denotes : Encodes new.seen new.sectors (first_state (plan_for d) d.age frames)
  pub crash : (c : Image) → new.may_leave c → Holds new.sectors c (first_saved d.geometry d.age frames)
  pub zeros : (c : Image) → new.may_leave c → EndInZeros (plan_for d) 0 [] c
  pub elsewhere : Elsewhere 0 (plan_for d).total old.seen new.seen

-- `saved` is what `build` saves: the described frames, which stand for a sound world
abbrev pub IsSavedOf : Description → SavedFrames → Type 0
IsSavedOf d saved = (frames : List Frame) × IsDescribed d frames × IsSoundFrames d.geometry d.age frames ×
    (saved ≡ first_saved d.geometry d.age frames)

-- an image was built of the description that the table encodes
abbrev pub BuildsFrom : Members → Disk → Disk → Type 0
BuildsFrom ms old new = (d : Description) × IsDescription ms d × Builds d old new

-- What a crash may leave while an image of a table is built. If the image holds saved frames, a crash could have left
-- these before, or they are the described ones.
abbrev pub IsLeftOf : Members → Disk → Image → Type 0
IsLeftOf ms old c = (saved : SavedFrames) → Holds old.sectors c saved →
    ((before : Image) × old.may_leave before × Holds old.sectors before saved) ⊎
    ((d : Description) × IsDescription ms d × IsSavedOf d saved)
