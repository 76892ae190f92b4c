-- The units of a sealed image: clusters of nodes, and header sectors of pages. Each has a seal; the root sums up all.
use Rattle.layout.specs.Names.{ℕ, List, [], nat_lt, Bool, IsTrue, Option, Some, None, flat_map, range_with_len, Image, Sums}
use Rattle.std.specs.Prelude.{◌≡◌, ◌+◌, ◌-◌, ◌<◌, ◌≤◌, ◌==◌, if◌then◌else◌, ◌∷◌, min, true}
use Rattle.layout.specs.declared.directory.Entry.{Entry}
use Rattle.layout.specs.declared.extent.HomeRange.{HomeRange}
use Rattle.layout.specs.declared.version.Version.{Version}
use Rattle.layout.specs.Homes.{place_length, rank_in, range_with}
use Rattle.layout.specs.Image.{frame_sector, sectors_from}
use Rattle.layout.specs.Superblock.{Plan}
use Rattle.layout.specs.Version.{row}
use Rattle.layout.specs.sealed.Cluster.{IsCluster}
use Rattle.layout.specs.sealed.Root.{Unit, root_of}
use Rattle.layout.specs.sealed.Sector.{seal_in}
use Rattle.layout.specs.sealed.Summed.{IsSummed}

-- an object has the least number of its unit
abbrev pub begins_unit : Plan → ℕ → Bool
begins_unit p object =
    if nat_lt object p.geometry.nodes then rank_in p.version (range_with p.ranges object) object == 0 else true

-- the sectors of the block that an object's frame is read from, as bytes
abbrev pub block_in : Image → Plan → ℕ → List Entry → ℕ → List ℕ
block_in image p generation es object =
    sectors_from image (frame_sector p generation es object) (place_length p object)

-- the bytes of the unit that an object begins: its whole block, or the first sector of a page's
abbrev pub unit_bytes : Image → Plan → ℕ → List Entry → ℕ → List ℕ
unit_bytes image p generation es object =
    if nat_lt object p.geometry.nodes
    then block_in image p generation es object
    else image (frame_sector p generation es object)

abbrev pub unit_in : Image → Plan → ℕ → List Entry → ℕ → Unit
unit_in image p generation es object =
    record { number = object; seal = seal_in (unit_bytes image p generation es object) }

-- all units, by their numbers
abbrev pub units_in : Image → Plan → ℕ → List Entry → List Unit
units_in image p generation es =
    flat_map (λ object. if begins_unit p object then unit_in image p generation es object ∷ [] else [])
    (range_with_len 0 (p.geometry.nodes + p.geometry.pages))

-- how many nodes of a range lie in the cluster that a node begins
abbrev pub cluster_count : Version → Option HomeRange → ℕ → ℕ
cluster_count v None object = 0
cluster_count v (Some r) object = min (row v).cluster_nodes (r.first + r.count - object)

-- the units that saved frames are read from: clusters and pages are sealed, and the seals of all add up to the root
pub record HasUnits (image : Image) (p : Plan) (root : Sums) (generation : ℕ) (es : List Entry) : Type 0 where
  pub clusters : (object : ℕ) → object < p.geometry.nodes → IsTrue (begins_unit p object) →
      IsCluster (cluster_count p.version (range_with p.ranges object) object)
      (block_in image p generation es object)
  pub pages : (object : ℕ) → p.geometry.nodes ≤ object → object < p.geometry.nodes + p.geometry.pages →
      IsSummed (block_in image p generation es object)
  pub root_is : root_of (units_in image p generation es) ≡ root
