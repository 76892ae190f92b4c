-- What is known of a description before its image is written.
use Rattle.image_builder.specs.Names.{ℕ, List, Frame, IsSoundFrames, Disk, Image, Holds, SavedFrames, Description}
use Rattle.image_builder.specs.Names.{HasFields, HasNumbers, IsDescribed, BuildFault, Failed, IsRefused}
use Rattle.std.specs.Prelude.{◌≢◌, ◌⊎◌}
use Rattle.image_builder.specs.Built.{IsSavedOf}

-- the description is refused with this fault on every device
pub record IsRefusedEarly (d : Description) (fault : BuildFault) : Type 0 where
  pub early : fault ≢ Failed
  pub refused : (sectors : ℕ) → IsRefused d sectors fault

-- the described frames stand for a sound world
pub record IsSoundDescription (d : Description) : Type 0 where
  pub numbers : HasNumbers d
  pub fields : HasFields d
  pub frames : List Frame
  pub described : IsDescribed d frames
  pub sound : IsSoundFrames d.geometry d.age frames

-- What a crash may leave while an image of a description is built. If the image holds saved frames, a crash could
-- have left these before, or they are the described ones.
abbrev pub IsLeftBuilding : Description → Disk → Image → Type 0
IsLeftBuilding d old c = (saved : SavedFrames) → Holds old.sectors c saved →
    ((before : Image) × old.may_leave before × Holds old.sectors before saved) ⊎ IsSavedOf d saved
