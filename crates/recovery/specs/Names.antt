-- The names of other crates that the definitions here cite.
pub use Rattle.capability.specs.Consistency.{AreBanked, AreNamed, AreOwned, AreWholeProcesses, IsAnnexFor, IsRootOf}
pub use Rattle.capability.specs.Consistency.{owner_of, role_at}
pub use Rattle.capability.specs.Parts.{Parts, frames_of, objects_in}
pub use Rattle.checkpoint.specs.Opened.{OnlyReads}
pub use Rattle.checkpoint.specs.Saved.{Holds, SavedFrames}
pub use Rattle.checkpoint.specs.Snapshots.{Snapshots}
pub use Rattle.checkpoint.specs.Store.{FrozenFrames, View}
pub use Rattle.device.specs.Calls.{Only}
pub use Rattle.device.specs.Disk.{Disk, Image}
pub use Rattle.device.specs.Moments.{LeavesOnly}
pub use Rattle.layout.specs.Denoted.{IsBadBy}
pub use Rattle.layout.specs.declared.bad_image.BadImage.{BadImage}
pub use Rattle.layout.specs.declared.bad_image.BadImage.TheVariants.{BadBank, BadCapability, BadProcess}
pub use Rattle.layout.specs.declared.open_fault.OpenFault.{OpenFault}
unfoldable pub use Rattle.model.specs.Bank.{chain, usage}
pub use Rattle.model.specs.Frame.{frame_at}
unfoldable pub use Rattle.model.specs.Frame.{objects_of}
pub use Rattle.model.specs.Keepable.{AreKeepable, IsSoundFrames, world_at}
pub use Rattle.model.specs.Machine.{Frozen, Running, Saved, opened}
pub use Rattle.model.specs.Object.{is_waiting, limit_in}
pub use Rattle.model.specs.Sound.{IsSound}
pub use Rattle.model.specs.declared.capability.Capability.{Capability}
pub use Rattle.model.specs.declared.capability.Capability.TheVariants.{Bank, Node, Page, Process, Resume, Space, Start}
pub use Rattle.model.specs.declared.frame.Frame.{Frame}
pub use Rattle.model.specs.declared.geometry.Geometry.{Geometry}
pub use Rattle.model.specs.declared.object.Content.{Content}
pub use Rattle.model.specs.declared.object.Role.{Role}
pub use Rattle.space_bank.specs.Banks.{AreCounted, BanksState}
pub use Rattle.std.specs.List.{Contains, range_with_len}
pub use Rattle.std.specs.Prelude.{Bool, List, None, Option, Some, [], false, length, map, not, slice_index}
pub use Rattle.std.specs.Prelude.{slice_index_or, slice_set, true, ℕ}
