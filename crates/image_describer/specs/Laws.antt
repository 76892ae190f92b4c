-- Laws of descriptions of worlds: their frames, their texts, and renumbering.
use Rattle.image_describer.specs.Names.{ℕ, List, map, Some, Frame, Geometry, IsSoundFrames, world_at, IsSound, World}
use Rattle.image_describer.specs.Names.{Members, parse_document, IsPlan, Plan, version_number, numbers_of}
use Rattle.image_describer.specs.Names.{IsDescription, Description, HasFields, IsDescribed, IsWorldFault, BuildFault}
use Rattle.image_describer.specs.Names.{NoMemory, Describes}
use Rattle.std.specs.Prelude.{◌≡◌}
use Rattle.image_describer.specs.Grown.{IsGrown, IsRenumbered, NamesNodes, NamesPages}
use Rattle.image_describer.specs.Spelled.{CanBeSpelled}
use Rattle.image_describer.specs.Text.{description_text}

-- if frames are those of a world's description, they are sound, and stand for that world at its age
abbrev pub DescribedIsSame : Type 0
DescribedIsSame = (g : Geometry) (age : ℕ) (fs gs : List Frame) (d : Description) → IsSoundFrames g age fs →
    Describes g (world_at age fs) d → IsDescribed d gs →
    IsSoundFrames d.geometry d.age gs × (world_at d.age gs ≡ world_at age fs)

-- if the world of a world's description can't be laid out, memory ran out
abbrev pub DescribedIsLaid : Type 0
DescribedIsLaid = (g : Geometry) (age : ℕ) (fs : List Frame) (d : Description) (fault : BuildFault) →
    IsSoundFrames g age fs → Describes g (world_at age fs) d → IsWorldFault d fault → fault ≡ NoMemory

-- The description of a world has a text, if its home ranges and version are those of a plan.
abbrev pub DescribedHasText : Type 0
DescribedHasText = (p : Plan) (age : ℕ) (fs : List Frame) (d : Description) → IsPlan p →
    IsSoundFrames p.geometry age fs → Describes p.geometry (world_at age fs) d →
    d.ranges.items ≡ map numbers_of p.ranges → d.layout ≡ version_number p.version → CanBeSpelled d

-- If the text of a description is read, the result is that description.
abbrev pub TextIsRead : Type 0
TextIsRead = (d : Description) → HasFields d → CanBeSpelled d →
    (table : Members) × (parse_document (description_text d) ≡ Some table) × IsDescription table d

-- A sound world's description, renumbered for an image of other sizes, describes the world's objects in that image.
abbrev pub GrownIsDescribed : Type 0
GrownIsDescribed = (w : World) (d e : Description) → IsSound d.geometry w → Describes d.geometry w d →
    IsRenumbered d e → NamesNodes e.geometry.nodes d → NamesPages d.geometry e.geometry d →
    (v : World) × IsGrown d.geometry e.geometry w v × Describes e.geometry v e

-- In an image of the same sizes a sound world stays the same.
abbrev pub GrownToItself : Type 0
GrownToItself = (g : Geometry) (w v : World) → IsSound g w → IsGrown g g w v → v ≡ w
