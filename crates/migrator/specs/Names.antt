-- The names of other crates that the definitions here cite.
pub use Rattle.capability.specs.Parts.{Parts}
pub use Rattle.checkpoint.specs.Opened.{OnlyReads}
pub use Rattle.checkpoint.specs.Saved.{Holds, LeavesEither, LeavesOneOf, LeavesSaved, SavedFrames, kept_of, most}
pub use Rattle.checkpoint.specs.Snapshots.{FrozenView, Snapshots, committed, freezing, moved, moved_saved, next_saved}
pub use Rattle.checkpoint.specs.Store.{View}
pub use Rattle.ckpt_log.specs.Places.{directory_extent, place_extent}
pub use Rattle.device.specs.Calls.{Agrees, Counts, Elsewhere, IsTorn, Narrows, Only, Tears, image_of}
pub use Rattle.device.specs.Disk.{Disk, Image}
pub use Rattle.device.specs.Moments.{LeavesOnly, Peeks}
pub use Rattle.home_ranges.specs.Laws.{home_extent}
pub use Rattle.layout.specs.Committed.{no_sums}
pub use Rattle.layout.specs.Denoted.{Encodes, HasDirectory, HasHeader, IsBadBy, SavedState, sums_if}
pub use Rattle.layout.specs.Directory.{IsDirectory, entry_at}
pub use Rattle.layout.specs.Frame.{IsFrameOf}
unfoldable pub use Rattle.layout.specs.FrameReader.{frame_from}
pub use Rattle.layout.specs.Frames.{IsObject}
pub use Rattle.layout.specs.Header.{IsHeader}
pub use Rattle.layout.specs.Homes.{home_place, place_length, range_with, shape_of}
pub use Rattle.layout.specs.Image.{bytes_at, directory_sector, frame_in, frame_sector, half_sector, sector_or, slot_in}
pub use Rattle.layout.specs.Image.{slot_sector}
unfoldable pub use Rattle.layout.specs.Image.{sectors_from}
pub use Rattle.layout.specs.Shape.{IsShapeFor, shape_bytes}
pub use Rattle.layout.specs.Spelt.{AreSpelt, count_of, state_in}
unfoldable pub use Rattle.layout.specs.Spelt.{frames_read}
pub use Rattle.layout.specs.Superblock.{IsApart, IsPlan, Plan}
pub use Rattle.layout.specs.Version.{row}
unfoldable pub use Rattle.layout.specs.Version.{directory_length}
pub use Rattle.layout.specs.declared.bad_image.BadImage.{BadImage}
pub use Rattle.layout.specs.declared.bad_image.BadImage.TheVariants.{BadFrame}
pub use Rattle.layout.specs.declared.directory.Entry.{Entry}
pub use Rattle.layout.specs.declared.extent.Extent.{Extent}
pub use Rattle.layout.specs.declared.header.CheckpointHeader.{CheckpointHeader}
pub use Rattle.layout.specs.declared.open_fault.OpenFault.{OpenFault}
pub use Rattle.layout.specs.declared.sealed.header.SealedHeader.{SealedHeader}
pub use Rattle.layout.specs.declared.shape.Shape.{Shape}
pub use Rattle.layout.specs.declared.version.Version.{Version}
pub use Rattle.layout.specs.sealed.Cluster.{IsCluster}
pub use Rattle.layout.specs.sealed.Root.{Unit}
unfoldable pub use Rattle.layout.specs.sealed.Root.{root_of}
pub use Rattle.layout.specs.sealed.Summed.{IfSummed, IsSummed}
pub use Rattle.layout.specs.sealed.Units.{HasUnits, begins_unit, block_in, cluster_count, unit_in, units_in}
pub use Rattle.model.specs.Frame.{frame_at}
pub use Rattle.model.specs.Keepable.{AreKeepable, IsKeepable}
pub use Rattle.model.specs.declared.frame.Frame.{Frame}
pub use Rattle.model.specs.declared.geometry.Geometry.{Geometry}
pub use Rattle.seal.specs.declared.sums.Sums.{Sums}
pub use Rattle.std.specs.List.{flat_map, range_with_len}
pub use Rattle.std.specs.Prelude.{Bool, IsTrue, List, None, OnErr, OnOk, Option, Result, Some, [], false, length, map}
pub use Rattle.std.specs.Prelude.{nat_le, nat_lt, option_map, replicate, slice_index_or, slice_set, take, true}
pub use Rattle.std.specs.Prelude.{vec_capacity, ℕ, ⊤}
