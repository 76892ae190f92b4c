-- Where the frames of objects lie at home, and how.
use Rattle.layout.specs.Names.{ℕ, nat_lt, nat_le, Option, Some, None, List, [], Geometry}
use Rattle.std.specs.Prelude.{◌+◌, ◌-◌, ◌*◌, ◌/◌, ◌%◌, ◌&&◌, if◌then◌else◌, ◌∷◌}
use Rattle.layout.specs.declared.extent.HomeRange.{HomeRange}
use Rattle.layout.specs.declared.shape.Shape.{Shape}
use Rattle.layout.specs.declared.version.Version.{Version}
use Rattle.layout.specs.Shape.{node_shape, page_shape, shape_length}
use Rattle.layout.specs.Superblock.{Plan}
use Rattle.layout.specs.Version.{row}

-- the home range that contains this number, if one does
abbrev pub range_with : List HomeRange → ℕ → Option HomeRange
range_with [] object = None
range_with (r ∷ rs) object = if nat_le r.first object && nat_lt object (r.first + r.count) then Some r else range_with
    rs object

-- how many sectors after the start of a range the cluster of its i-th node begins
abbrev pub node_offset : Version → ℕ → ℕ
node_offset v i = (row v).cluster_sectors * (i / (row v).cluster_nodes)

-- the first sector of a number's home, in the range that contains it
abbrev pub place_in : Version → Geometry → HomeRange → ℕ → ℕ
place_in v g r object = r.sector +
    (if nat_lt object g.nodes then node_offset v (object - r.first) else 9 * (object - r.first))

abbrev pub place_by : Version → Geometry → Option HomeRange → ℕ → ℕ
place_by v g None object = 0
place_by v g (Some r) object = place_in v g r object

-- the first sector of an object's home
abbrev pub home_place : Plan → ℕ → ℕ
home_place p object = place_by p.version p.geometry (range_with p.ranges object) object

-- the rank of a number: its index in its cluster
abbrev pub rank_in : Version → Option HomeRange → ℕ → ℕ
rank_in v None object = 0
rank_in v (Some r) object = (object - r.first) % (row v).cluster_nodes

-- where an object's frame lies in its block; the same at home and in the log
abbrev pub shape_of : Plan → ℕ → Shape
shape_of p object = if nat_lt object p.geometry.nodes then node_shape p.version
    (rank_in p.version (range_with p.ranges object) object) else page_shape p.version

-- how many sectors the block of an object's frame takes
abbrev pub place_length : Plan → ℕ → ℕ
place_length p object = shape_length (shape_of p object)
