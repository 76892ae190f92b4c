-- The names of other crates that the definitions here cite.
pub use Rattle.capability.specs.Parts.{Parts, frames_of}
pub use Rattle.checkpoint.specs.Opened.{OnlyReads}
pub use Rattle.checkpoint.specs.Saved.{Holds, SavedFrames, kept_of}
pub use Rattle.description.specs.Described.{HasFields, HasNumbers, IsDescribed}
pub use Rattle.description.specs.Reading.{IsDescription}
pub use Rattle.description.specs.Rules.{IsAccepted, IsRefused, plan_for}
pub use Rattle.description.specs.declared.entry.Description.{Description}
pub use Rattle.description.specs.declared.fault.BuildFault.{BuildFault}
pub use Rattle.description.specs.declared.fault.BuildFault.TheVariants.{Failed}
pub use Rattle.device.specs.Calls.{Elsewhere}
pub use Rattle.device.specs.Disk.{Disk, Image}
pub use Rattle.device.specs.Moments.{LeavesOnly}
pub use Rattle.home_ranges.specs.Laid.{laid_again}
pub use Rattle.image_writer.specs.Written.{EndInZeros, IsLeftWriting, first_saved, first_state}
pub use Rattle.layout.specs.Denoted.{Encodes, SavedState}
pub use Rattle.layout.specs.Superblock.{Plan}
pub use Rattle.layout.specs.Version.{row}
pub use Rattle.layout.specs.declared.directory.Entry.{Entry}
pub use Rattle.layout.specs.declared.open_fault.OpenFault.{OpenFault}
pub use Rattle.layout.specs.declared.version.Version.{Version}
pub use Rattle.layout.specs.declared.version.Version.TheVariants.{Two}
pub use Rattle.migrator.specs.Durable.{DurableState, saved_by}
pub use Rattle.model.specs.Keepable.{IsSoundFrames}
pub use Rattle.model.specs.declared.frame.Frame.{Frame}
pub use Rattle.recovery.specs.Denotes.{IsSoundSaved}
pub use Rattle.recovery.specs.Recovered.{RefusesToOpen}
pub use Rattle.std.specs.Prelude.{IfErr, IfOk, IsErrOf, List, OnOk, Result, [], ℕ}
pub use Rattle.toml.specs.Data.{Members}
