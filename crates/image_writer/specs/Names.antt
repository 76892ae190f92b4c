-- The names of other crates that the definitions here cite.
pub use Rattle.checkpoint.specs.Saved.{Holds, SavedFrames}
pub use Rattle.ckpt_log.specs.AnyVersion.{gate_place}
pub use Rattle.device.specs.Disk.{Disk, Image}
pub use Rattle.home_ranges.specs.Home.{EndsInZeros, IsFirstOf}
pub use Rattle.layout.specs.Committed.{HasNoSums, committed_bytes, committed_slot}
pub use Rattle.layout.specs.Denoted.{AreEntriesOf, SavedState, sums_if}
pub use Rattle.layout.specs.Directory.{entry_at}
pub use Rattle.layout.specs.Frame.{frame_bytes}
pub use Rattle.layout.specs.Frames.{IsObject}
pub use Rattle.layout.specs.Gate.{is_open}
unfoldable pub use Rattle.layout.specs.Header.{header_bytes}
pub use Rattle.layout.specs.Homes.{home_place, place_length, range_with, shape_of}
pub use Rattle.layout.specs.Image.{bytes_at, frame_in, slot_sector}
unfoldable pub use Rattle.layout.specs.Image.{sectors_from}
pub use Rattle.layout.specs.Shape.{shape_bytes}
pub use Rattle.layout.specs.Superblock.{IsPlan, Plan}
unfoldable pub use Rattle.layout.specs.Superblock.{superblock_bytes}
pub use Rattle.layout.specs.Version.{row}
pub use Rattle.layout.specs.declared.directory.Entry.{Entry}
pub use Rattle.layout.specs.declared.header.CheckpointHeader.{CheckpointHeader}
pub use Rattle.layout.specs.declared.sealed.header.SealedHeader.{SealedHeader}
pub use Rattle.layout.specs.declared.version.Version.{Version}
pub use Rattle.layout.specs.sealed.Cluster.{IsCluster}
unfoldable pub use Rattle.layout.specs.sealed.Gate.{numbered_gate_bytes}
pub use Rattle.layout.specs.sealed.Header.{header_numbers}
unfoldable pub use Rattle.layout.specs.sealed.Header.{sealed_header_bytes}
pub use Rattle.layout.specs.sealed.Opening.{Commits}
pub use Rattle.layout.specs.sealed.Root.{Unit}
pub use Rattle.layout.specs.sealed.Sector.{AreWords, seal_in}
pub use Rattle.layout.specs.sealed.Summed.{IsSummed}
pub use Rattle.layout.specs.sealed.Units.{HasUnits, begins_unit, cluster_count}
pub use Rattle.model.specs.Frame.{frame_at}
pub use Rattle.model.specs.Sound.{object_count}
pub use Rattle.model.specs.declared.frame.Frame.{Frame}
pub use Rattle.model.specs.declared.geometry.Geometry.{Geometry}
pub use Rattle.std.specs.List.{flat_map, range_with_len}
pub use Rattle.std.specs.Prelude.{Bool, List, None, [], false, length, nat_lt, take, true, ℕ}
