-- What `build` makes of the text that describes an image.
use Rattle.queries.specs.Names.{ℕ, List, Some, Members, parse_document, Frame, Geometry, IsSoundFrames, world_at, Saved}
use Rattle.queries.specs.Names.{World, Image, Version, Plan, version_number, Holds, SavedFrames, MayBeLaid, Denotes}
use Rattle.queries.specs.Names.{Description, IsDescription, IsAccepted, plan_for, IsSavedOf, Describes, IsGrown}
use Rattle.std.specs.Prelude.{◌≡◌, ◌≤◌}
use Rattle.queries.specs.Images.{IsTextIn, IsTextOf}

-- the saved state of frames in a new image: generation 0, with an empty log
abbrev pub anew : ℕ → List Frame → Saved
anew age frames = record { world = world_at age frames; generation = 0; entries = 0 }

-- Take a text that describes an image. If the sectors hold what `build` makes of it, the image denotes the described
-- world, at generation 0 and with an empty log.
abbrev pub DescribedIsDenoted : Type 0
DescribedIsDenoted = (p : Plan) (age : ℕ) (frames : List Frame) (text : List ℕ) (table : Members) (d : Description)
    (saved : SavedFrames) (size : ℕ) (c : Image) → IsSoundFrames p.geometry age frames →
    IsTextOf p age frames text → parse_document text ≡ Some table → IsDescription table d → IsSavedOf d saved →
    Holds size c saved → Denotes p.geometry size c (anew age frames)

-- Take a description of a world, with a version of the layout and home ranges that an image may have. It is
-- accepted on each device with enough sectors.
abbrev pub DescribedIsAccepted : Type 0
DescribedIsAccepted = (g : Geometry) (age : ℕ) (fs : List Frame) (d : Description) (v : Version) (sectors : ℕ) →
    IsSoundFrames g age fs → Describes g (world_at age fs) d →
    d.layout ≡ version_number v → MayBeLaid d.geometry d.ranges.items → (plan_for d).total ≤ sectors →
    IsAccepted d sectors

-- Take a text that describes an image for other sizes. If the sectors hold what `build` makes of it, the image
-- denotes the described objects at their new numbers. The generation is 0, and the log is empty.
abbrev pub GrownIsDenoted : Type 0
GrownIsDenoted = (p : Plan) (g : Geometry) (age : ℕ) (frames : List Frame) (text : List ℕ) (table : Members)
    (d : Description) (saved : SavedFrames) (size : ℕ) (c : Image) →
    IsTextIn p g age frames text → parse_document text ≡ Some table → IsDescription table d → IsSavedOf d saved →
    Holds size c saved →
    (w : World) × IsGrown p.geometry g (world_at age frames) w × Denotes g size c
    (record { world = w; generation = 0; entries = 0 })

-- If the sizes are the image's own, the text is that of its description.
abbrev pub UnsizedIsWhole : Type 0
UnsizedIsWhole = (p : Plan) (age : ℕ) (frames : List Frame) (text : List ℕ) → IsSoundFrames p.geometry age frames →
    IsTextIn p p.geometry age frames text → IsTextOf p age frames text
