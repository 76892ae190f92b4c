-- The names of other crates that the definitions here import.
pub use Rattle.checkpoint.specs.Opened.{OnlyReads}
pub use Rattle.checkpoint.specs.Saved.{Holds, SavedFrames, kept_of}
pub use Rattle.checkpoint.specs.declared.committed.Checkpoint.{Checkpoint}
pub use Rattle.collections.specs.Marks.{is_marked}
pub use Rattle.description.specs.Describes.{Describes}
pub use Rattle.description.specs.Reading.{IsDescription}
pub use Rattle.description.specs.Rules.{IsAccepted, plan_for}
pub use Rattle.description.specs.Sizes.{grown_geometry}
pub use Rattle.description.specs.declared.entry.Description.{Description}
pub use Rattle.description.specs.declared.sizes.Sizes.{Sizes}
pub use Rattle.description_explainer.specs.Places.{Explains}
pub use Rattle.description_explainer.specs.Text.{IsExplanation}
pub use Rattle.description_explainer.specs.declared.place.Place.{Place}
pub use Rattle.device.specs.Disk.{Disk, Image}
pub use Rattle.home_ranges.specs.Laid.{MayBeLaid, numbers_of}
pub use Rattle.image_builder.specs.Built.{IsSavedOf}
pub use Rattle.image_describer.specs.Brief.{IsBrief}
pub use Rattle.image_describer.specs.Grown.{IsGrown, IsNotRenumbered, IsRenumbered, IsUnsuited, NamesNodes, NamesPages}
pub use Rattle.image_describer.specs.Grown.{grown_ranges}
unfoldable pub use Rattle.image_describer.specs.Text.{description_text}
pub use Rattle.image_drawer.specs.Graph.{boxes}
unfoldable pub use Rattle.image_drawer.specs.Graph.{graph_text}
pub use Rattle.image_drawer.specs.Part.{IsPart, holders, is_listed}
unfoldable pub use Rattle.image_explainer.specs.Text.{fault_text}
pub use Rattle.image_explainer.specs.declared.fault.ImageFault.{ImageFault}
pub use Rattle.jobs.specs.declared.fault.Fault.{Fault}
pub use Rattle.json_lines.specs.Objects.{number_line, number_object}
pub use Rattle.json_lines.specs.declared.format.Format.{Format}
pub use Rattle.layout.specs.Denoted.{Encodes, SavedState}
pub use Rattle.layout.specs.Superblock.{IsGeometry, Plan, version_number}
pub use Rattle.layout.specs.declared.extent.HomeRange.{HomeRange}
pub use Rattle.layout.specs.declared.open_fault.OpenFault.{OpenFault}
pub use Rattle.layout.specs.declared.version.Version.{Version}
unfoldable pub use Rattle.model.specs.Frame.{objects_of}
pub use Rattle.model.specs.Keepable.{IsSoundFrames, world_at}
pub use Rattle.model.specs.Machine.{Saved}
pub use Rattle.model.specs.Object.{is_free, role_number, role_of}
pub use Rattle.model.specs.Revoke.{is_member}
pub use Rattle.model.specs.Text.{line_of, spaced}
pub use Rattle.model.specs.World.{World, content_at, is_process}
pub use Rattle.model.specs.declared.frame.Frame.{Frame}
pub use Rattle.model.specs.declared.frame.ObjectHeader.{ObjectHeader}
pub use Rattle.model.specs.declared.geometry.Geometry.{Geometry}
pub use Rattle.model.specs.declared.object.Object.{Object}
pub use Rattle.model.specs.declared.object.Role.{Role}
pub use Rattle.reach.specs.Chain.{IsShortestIfAny}
unfoldable pub use Rattle.reach.specs.ChainLines.{chain_text}
pub use Rattle.reach.specs.Lines.{changers_text}
unfoldable pub use Rattle.reach.specs.Lines.{reach_text}
pub use Rattle.reach.specs.Links.{links}
pub use Rattle.reach.specs.Reached.{AreChangers, BoundsRuns, IsReach}
pub use Rattle.reach.specs.declared.authority.Purpose.{Purpose}
pub use Rattle.reach.specs.declared.step.Step.{Step}
pub use Rattle.recovery.specs.Denotes.{Denotes, saved_of}
pub use Rattle.recovery.specs.Recovered.{RefusesToOpen}
pub use Rattle.script.specs.Lines.{IsOneLine}
pub use Rattle.script.specs.Writing.{Written, Wrote, WroteFront}
pub use Rattle.std.specs.List.{All, Contains, count_by, find, flat_map}
pub use Rattle.std.specs.Prelude.{Bool, Err, IsTrue, List, None, Ok, Option, Result, Some, Vec, [], codes, decimal}
pub use Rattle.std.specs.Prelude.{false, is_some, length, map, nat_lt, not, take, true, ℕ}
pub use Rattle.std.specs.declared.alloc.Global.{Global}
pub use Rattle.toml.specs.Data.{Members}
unfoldable pub use Rattle.toml.specs.Parse.{parse_document}
