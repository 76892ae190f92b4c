-- The names that the proofs here cite: of other crates, and of the definitions of this one.
pub use Rattle.capability.specs.Consistency.{AreBanked, AreNamed, AreWholeProcesses}
pub use Rattle.checkpoint.specs.Opened.{OnlyReads}
pub use Rattle.checkpoint.specs.Saved.{Holds, SavedFrames, kept_of}
pub use Rattle.description.proofs.BrokenLimits.{limit_refuted}
pub use Rattle.description.proofs.DescribedOnce.{described_once}
pub use Rattle.description.proofs.Rules.{all_kept, field_broken, number_broken, owner_broken, small_broken, target_broken}
pub use Rattle.description.proofs.ShapeFaults.{shape_refuted}
pub use Rattle.description.proofs.Worlds.{world_laid}
pub use Rattle.description.specs.Described.{HasFields, HasNumbers, IsDescribed, IsWorldFault}
pub use Rattle.description.specs.Faults.{fault_number}
pub use Rattle.description.specs.Laid.{AreLaid}
pub use Rattle.description.specs.Outcomes.{Misses, misread_fault}
pub use Rattle.description.specs.Reading.{IsDescription}
pub use Rattle.description.specs.Rules.{IsAccepted, IsRefused, IsWithinLimits, Refuses, Rule, TellsNoSize, plan_for}
pub use Rattle.description.specs.Shapes.{BreaksShape}
pub use Rattle.description.specs.declared.entry.Description.{Description}
pub use Rattle.description.specs.declared.fault.BuildFault.{BuildFault}
pub use Rattle.description.specs.declared.fault.BuildFault.TheVariants.{Failed, Field, Limits, NoMemory, Number, Owner, Shape, Small, Target}
pub use Rattle.description.specs.declared.place.Misread.{Misread}
pub use Rattle.device.proofs.Images.{agrees_is}
pub use Rattle.device.proofs.Moments.{OnlyNow, leaves_weaker, started}
pub use Rattle.device.specs.Calls.{Agrees, Elsewhere}
pub use Rattle.device.specs.Disk.{Disk, Image}
pub use Rattle.device.specs.Moments.{LeavesOnly}
pub use Rattle.image_writer.proofs.OldImages.{kept_holds_the_same, none_is_held}
pub use Rattle.image_writer.specs.Written.{IsLeftWriting, first_saved, first_state, state_of}
pub use Rattle.layout.specs.Denoted.{Encodes}
pub use Rattle.layout.specs.Directory.{IsDirectory, entry_at}
pub use Rattle.layout.specs.Superblock.{Plan}
pub use Rattle.layout.specs.Version.{row}
pub use Rattle.layout.specs.declared.bad_image.BadImage.{BadImage}
pub use Rattle.layout.specs.declared.bad_image.BadImage.TheVariants.{BadBank, BadCapability, BadProcess}
pub use Rattle.layout.specs.declared.directory.Entry.{Entry}
pub use Rattle.layout.specs.declared.header.CheckpointHeader.{CheckpointHeader}
pub use Rattle.layout.specs.declared.open_fault.OpenFault.{OpenFault}
pub use Rattle.layout.specs.declared.version.Row.{Row}
pub use Rattle.migrator.specs.Durable.{DurableState, saved_by}
unfoldable pub use Rattle.model.specs.Frame.{frames_in}
pub use Rattle.model.specs.Keepable.{IsSoundFrames}
pub use Rattle.model.specs.declared.capability.Cap.{Cap}
pub use Rattle.model.specs.declared.frame.Frame.{Frame}
pub use Rattle.model.specs.declared.frame.ObjectHeader.{ObjectHeader}
pub use Rattle.model.specs.declared.geometry.Geometry.{Geometry}
pub use Rattle.model.specs.declared.object.Content.{Content}
pub use Rattle.recovery.proofs.Denoted.{holds_one}
pub use Rattle.recovery.proofs.Unsound.{sound_banked, sound_named}
pub use Rattle.recovery.specs.Consistency.{IsInconsistent}
pub use Rattle.recovery.specs.Denotes.{IsSoundSaved}
pub use Rattle.std.proofs.Common.{List, ap, append_assoc, arith, drop, get_or, inl, inr, length, refl, rules, subst, suc, sym, zero, ℕ, ⊎_elim}
pub use Rattle.std.proofs.lemmas.List.{append-nil, drop_all, drop_more}
pub use Rattle.std.proofs.lemmas.Result.{err_from_is_err_and}
pub use Rattle.std.specs.Prelude.{Err, IfErr, IfOk, IsErrOf, Ok, OnOk, Result, slice_index_or}
pub use Rattle.toml.specs.Data.{Members}
pub use Rattle.toml.specs.View.{table_view}
pub use Rattle.image_builder.specs.Built.{Builds, BuildsFrom, IsLeftOf}
pub use Rattle.image_builder.specs.Checked.{IsLeftBuilding, IsRefusedEarly, IsSoundDescription}
pub use Rattle.image_builder.specs.Names.{EndInZeros, SavedState, []}
pub use Rattle.image_builder.specs.Upgraded.{IsLeftUpgrading, IsNotUpgraded, IsOnlyRead, IsOpenedFrom, IsWhole, Upgrades, WritesUpgraded, new_plan, upgraded}
pub use Rattle.image_builder.specs.Upgraded.{version_in}
unfoldable pub use Rattle.image_builder.specs.Upgraded.{numbered}
pub use Rattle.image_builder.specs.declared.new_layout.NewLayout.{NewLayout}
pub use Rattle.image_builder.specs.declared.upgrade_fault.UpgradeFault.{UpgradeFault}
