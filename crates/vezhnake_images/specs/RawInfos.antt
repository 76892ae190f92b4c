-- The sizes and counts of an image, as numbers.
use Rattle.std.specs.Prelude.{ℕ, ◌-◌, ◌++◌, List, length, map, replicate}
use Rattle.checkpoint.specs.declared.committed.Checkpoint.{Checkpoint}
use Rattle.layout.specs.Superblock.{Plan, version_number}
use Rattle.layout.specs.declared.extent.HomeRange.{HomeRange}
use Rattle.model.specs.Machine.{Saved}
use Rattle.model.specs.declared.object.Role.{Role}
use Rattle.model.specs.declared.object.Role.TheVariants as role
use Rattle.queries.specs.Info.{objects_with}
use Rattle.vezhnake_images.specs.declared.raw_info.RawInfo.{RawInfo}
use Rattle.vezhnake_images.specs.declared.raw_info.RawRange.{RawRange}

-- a home range as numbers
abbrev pub raw_range : HomeRange → RawRange
raw_range r = record { first = r.first; count = r.count }

-- an unused row
abbrev pub no_range : RawRange
no_range = record { first = 0; count = 0 }

-- the home ranges as numbers, then unused rows
abbrev pub raw_ranges : List HomeRange → List RawRange
raw_ranges ranges = map raw_range ranges ++ replicate (8 - length ranges) no_range

-- the numbers of an image with this plan and checkpoint; `count` gives the number of objects of each role
abbrev pub info_with : Plan → Checkpoint → (Role → ℕ) → RawInfo
info_with p saved count = record {
  layout = version_number p.version;
  nodes = p.geometry.nodes;
  pages = p.geometry.pages;
  log = p.geometry.log;
  sectors = p.total;
  generation = saved.generation;
  age = saved.age;
  entries = saved.entries;
  free = count role.Free;
  page_objects = count role.Page;
  node_objects = count role.Node;
  processes = count role.Root;
  banks = count role.Bank;
  ranges_count = length p.ranges;
  ranges = raw_ranges p.ranges;
}

-- the numbers of an image with this plan and saved state; a process counts once, by its root
abbrev pub info_of : Plan → Saved → RawInfo
info_of p saved = info_with p
    (record { generation = saved.generation; age = saved.world.age; entries = saved.entries })
    (λ r. objects_with r saved.world)
