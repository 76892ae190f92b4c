-- A built image can be run.
use Rattle.jobs.specs.Names.{ℕ, List, Frame, IsSoundFrames, world_at, Image, Holds, first_saved, Denotes, Description}
use Rattle.std.specs.Prelude.{◌≡◌, ◌≤◌}

-- If the sectors hold the frames of a built image, the image denotes the world of these frames, at generation 0
-- and with an empty log. So none of the ten reasons to refuse it applies.
abbrev pub BuiltIsDenoted : Type 0
BuiltIsDenoted = (d : Description) (frames : List Frame) (size : ℕ) (c : Image) →
    IsSoundFrames d.geometry d.age frames → Holds size c (first_saved d.geometry d.age frames) →
    Denotes d.geometry size c (record { world = world_at d.age frames; generation = 0; entries = 0 })
