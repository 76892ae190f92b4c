-- Descriptions of worlds.
use Rattle.description.specs.Names.{List, map, fresh_cap, map_content, World, Frame, Geometry, Object}
use Rattle.std.specs.Prelude.{◌≡◌}
use Rattle.description.specs.Described.{HasFields, HasNumbers, IsDescribed, first_frame}
use Rattle.description.specs.declared.entry.Description.{Description}

-- the frame of an object with all counts 0
abbrev pub plain_frame : Object → Frame
plain_frame o = first_frame o.owner (map_content fresh_cap o.content)

-- the frames of all objects, with all counts 0
unfoldable pub plain_frames : List Object → List Frame
plain_frames os = map plain_frame os

-- the description has every object of a world with its content, the world's age, and nothing else
pub record Describes (g : Geometry) (w : World) (d : Description) : Type 0 where
  pub geometry : d.geometry ≡ g
  pub age : d.age ≡ w.age
  pub numbers : HasNumbers d
  pub fields : HasFields d
  pub frames : IsDescribed d (plain_frames w.objects)
