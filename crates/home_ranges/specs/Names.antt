-- The names of other crates that the definitions here cite.
pub use Rattle.device.specs.Calls.{Elsewhere}
pub use Rattle.device.specs.Disk.{Image}
pub use Rattle.layout.specs.Frames.{IsObject}
pub use Rattle.layout.specs.Homes.{home_place, place_length, shape_of}
pub use Rattle.layout.specs.Image.{bytes_at, frame_in, frame_slot_in, half_sector}
pub use Rattle.layout.specs.Shape.{IsBlankFrom, shape_bytes, shape_end}
pub use Rattle.layout.specs.Superblock.{Cover, IsApart, IsGeometry, IsPlan, IsWithin, Plan, half_extent, plan_of}
pub use Rattle.layout.specs.Superblock.{range_extent}
unfoldable pub use Rattle.layout.specs.Superblock.{half_length}
pub use Rattle.layout.specs.Version.{aligned, row}
pub use Rattle.layout.specs.declared.directory.Entry.{Entry}
pub use Rattle.layout.specs.declared.extent.Extent.{Extent}
pub use Rattle.layout.specs.declared.extent.HomeRange.{HomeRange}
pub use Rattle.layout.specs.declared.version.Version.{Version}
pub use Rattle.layout.specs.declared.version.Version.TheVariants.{One, Two}
pub use Rattle.model.specs.declared.geometry.Geometry.{Geometry}
pub use Rattle.std.specs.Prelude.{List, None, [], length, map, nat_lt, ℕ}
