-- The names that the proofs here import: from other crates, and from the definitions of this one.
pub use Rattle.capability.proofs.FrameLists.{headers_in}
pub use Rattle.capability.proofs.Keeping.{keepable_roles}
pub use Rattle.capability.specs.Parts.{HaveTheirRoles}
pub use Rattle.checkpoint.specs.Saved.{SavedFrames, kept_of}
pub use Rattle.checkpoint.specs.declared.committed.Checkpoint.{Checkpoint}
pub use Rattle.description.proofs.Once.{description_once}
pub use Rattle.description.proofs.Rules.{limits_broken}
pub use Rattle.description.specs.Faults.{fault_number}
pub use Rattle.description.specs.Laws.{IsSame}
pub use Rattle.description.specs.Reading.{IsDescription}
pub use Rattle.description.specs.Rules.{Refuses, TellsNoSize, plan_for, version_of}
pub use Rattle.description.specs.declared.entry.Description.{Description}
pub use Rattle.description.specs.declared.fault.BuildFault.{BuildFault}
pub use Rattle.device.specs.Calls.{Agrees, AreSectors, image_of, sectors_of}
pub use Rattle.home_ranges.specs.Laid.{plan_from}
pub use Rattle.image_builder.specs.Built.{BuildsFrom}
pub use Rattle.image_describer.proofs.Short.{described_has_text}
pub use Rattle.image_describer.specs.Spelled.{CanBeSpelled}
pub use Rattle.image_explainer.specs.Explained.{Explains}
pub use Rattle.image_explainer.specs.declared.fault.ImageFault.{ImageFault}
pub use Rattle.layout.specs.Denoted.{SavedState}
pub use Rattle.layout.specs.Superblock.{Plan}
pub use Rattle.layout.specs.declared.extent.HomeRange.{HomeRange}
pub use Rattle.layout.specs.declared.open_fault.OpenFault.{OpenFault}
pub use Rattle.migrator.specs.Durable.{saved_by}
pub use Rattle.model.specs.Frame.{headers}
pub use Rattle.model.specs.Keepable.{world_at}
pub use Rattle.model.specs.declared.frame.ObjectHeader.{ObjectHeader}
pub use Rattle.model.specs.declared.object.Role.{Role}
pub use Rattle.queries.proofs.InfoImages.{role_counted}
pub use Rattle.queries.specs.Diagnosed.{explanation_text}
pub use Rattle.queries.specs.Images.{IsDescriptionOf, IsReadFrom}
pub use Rattle.queries.specs.Info.{headers_with, objects_with}
pub use Rattle.recovery.specs.Denotes.{saved_of}
pub use Rattle.recovery.specs.Recovered.{RefusesToOpen}
pub use Rattle.std.proofs.Common.{Bool, Err, List, Ok, Option, Some, [], ap, arith, drop, false, length, map, refl, replicate, slice_index_or, subst, sym, take}
pub use Rattle.std.proofs.Common.{true, ℕ}
pub use Rattle.std.proofs.Math.Seq.{drop-append_seam, take-append_seam}
pub use Rattle.std.proofs.lemmas.List.{drop-drop, drop-replicate, drop-set-lt, length-set, map-append, take-append-drop, take_all, take_more, take_more_set}
pub use Rattle.std.specs.Prelude.{slice_set}
pub use Rattle.toml.specs.Data.{Members}
unfoldable pub use Rattle.toml.specs.Parse.{parse_document}
pub use Rattle.toml.specs.View.{table_view}
pub use Rattle.vezhnake.specs.Sessions.{CopiesOut}
pub use Rattle.vezhnake_images.specs.BuiltBytes.{BuildsBytes, IsBuiltOn, IsImageOf, IsRead, PutsImage, RefusesTable, RefusesText}
pub use Rattle.vezhnake_images.specs.ImageBytes.{ImageDevice, IsOver, RefusesBytes, image_disk}
pub use Rattle.vezhnake_images.specs.ImageStatuses.{Answered, built_by, status_by}
pub use Rattle.vezhnake_images.specs.RawInfos.{info_of, info_with, no_range, raw_range, raw_ranges}
pub use Rattle.vezhnake_images.specs.ReadBytes.{ChecksBytes, DescribesBytes, ExplainsBytes, IsFound, IsTextFor}
pub use Rattle.vezhnake_images.specs.declared.image_status.ImageStatus.{ImageStatus}
pub use Rattle.vezhnake_images.specs.declared.raw_info.RawInfo.{RawInfo}
pub use Rattle.vezhnake_images.specs.declared.raw_info.RawRange.{RawRange}
