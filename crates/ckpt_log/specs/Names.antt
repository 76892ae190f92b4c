-- The names of other crates that the definitions here cite.
pub use Rattle.device.specs.Calls.{Elsewhere}
pub use Rattle.device.specs.Disk.{Disk, Image}
pub use Rattle.layout.specs.Directory.{IsDirectory}
unfoldable pub use Rattle.layout.specs.Directory.{directory_bytes}
pub use Rattle.layout.specs.Frame.{IsFrameOf, frame_bytes}
pub use Rattle.layout.specs.Frames.{IsObject, IsRefused}
pub use Rattle.layout.specs.Gate.{gate_bytes, is_open}
pub use Rattle.layout.specs.Header.{IsHeader}
unfoldable pub use Rattle.layout.specs.Header.{header_bytes}
pub use Rattle.layout.specs.Homes.{home_place, place_length}
pub use Rattle.layout.specs.Denoted.{Encodes, HasDirectory, HasPlan, SavedState}
pub use Rattle.layout.specs.Image.{bytes_at, directory_in}
pub use Rattle.layout.specs.Committed.{Commits, committed_bytes, committed_slot, sequence_in}
pub use Rattle.layout.specs.Image.{directory_sector, frame_in, frame_sector, half_sector, slot_sector}
pub use Rattle.layout.specs.Superblock.{IsApart, IsInside, IsPlan, IsWithin, Plan, half_extent}
unfoldable pub use Rattle.layout.specs.Version.{directory_length}
pub use Rattle.layout.specs.Version.{row}
pub use Rattle.layout.specs.declared.bad_image.BadImage.{BadImage}
pub use Rattle.layout.specs.declared.bad_image.BadImage.TheVariants.{BadDirectory}
pub use Rattle.layout.specs.declared.directory.Entry.{Entry}
pub use Rattle.layout.specs.declared.extent.Extent.{Extent}
pub use Rattle.layout.specs.declared.gate.Gate.TheVariants.{Closed}
pub use Rattle.layout.specs.declared.header.CheckpointHeader.{CheckpointHeader}
pub use Rattle.layout.specs.declared.open_fault.OpenFault.{OpenFault}
pub use Rattle.layout.specs.declared.open_fault.OpenFault.TheVariants.{Bad, Failed, NoMemory}
pub use Rattle.layout.specs.declared.sealed.header.SealedHeader.{SealedHeader}
pub use Rattle.layout.specs.declared.version.Version.{Version}
pub use Rattle.layout.specs.sealed.Units.{HasUnits}
pub use Rattle.seal.specs.declared.sums.Sums.{Sums}
pub use Rattle.model.specs.Frame.{frame_at}
pub use Rattle.model.specs.declared.frame.Frame.{Frame}
pub use Rattle.model.specs.declared.geometry.Geometry.{Geometry}
pub use Rattle.std.specs.Prelude.{List, None, Option, Some, false, length, take, true, ℕ, ⊤}
