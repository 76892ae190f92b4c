-- The names that the proofs here import: from other crates, and from the definitions of this one.
pub use Rattle.capability.proofs.FrameLists.{headers_in}
pub use Rattle.capability.proofs.Keeping.{keepable_roles}
pub use Rattle.capability.specs.Parts.{HaveTheirRoles, Parts, frames_of}
pub use Rattle.checkpoint.specs.Opened.{OnlyReads}
pub use Rattle.checkpoint.specs.Saved.{Holds, SavedFrames, kept_of}
pub use Rattle.checkpoint.specs.Store.{View}
pub use Rattle.checkpoint.specs.declared.committed.Checkpoint.{Checkpoint}
pub use Rattle.description.proofs.DescribedOnce.{described_once}
pub use Rattle.description.proofs.Once.{description_once}
pub use Rattle.description.specs.Described.{HasFields}
pub use Rattle.description.specs.Describes.{Describes}
unfoldable pub use Rattle.description.specs.Describes.{plain_frames}
pub use Rattle.description.specs.Laws.{IsSame}
pub use Rattle.description.specs.Reading.{IsDescription}
pub use Rattle.description.specs.Sizes.{grown_geometry}
pub use Rattle.description.specs.declared.entry.Description.{Description}
pub use Rattle.description.specs.declared.sizes.Sizes.{Sizes}
pub use Rattle.description_explainer.specs.Places.{Explains}
pub use Rattle.device.proofs.Images.{agrees_is}
pub use Rattle.device.specs.Disk.{Disk, Image}
pub use Rattle.home_ranges.proofs.LaidAgain.{may_be_laid}
pub use Rattle.home_ranges.specs.Laid.{MayBeLaid, numbers_of}
pub use Rattle.home_ranges.specs.declared.number_range.NumberRange.{NumberRange}
pub use Rattle.image_describer.proofs.GrownDescription.{brief_grown, fields_grown}
pub use Rattle.image_describer.proofs.GrownFits.{not_suited}
pub use Rattle.image_describer.proofs.GrownLaws.{grown_is_described, grown_to_itself}
pub use Rattle.image_describer.proofs.GrownText.{grown_spelled}
pub use Rattle.image_describer.proofs.Plain.{described_is_same, objects_plain, sound_plain}
pub use Rattle.image_describer.proofs.SameTables.{same_described}
pub use Rattle.image_describer.proofs.Short.{described_has_text}
pub use Rattle.image_describer.specs.Grown.{IsGrown, IsNotRenumbered, grown_ranges}
pub use Rattle.image_describer.specs.Spelled.{CanBeSpelled}
pub use Rattle.image_drawer.proofs.Texts.{place_fails}
unfoldable pub use Rattle.image_drawer.specs.Graph.{graph_text}
pub use Rattle.image_writer.specs.Written.{first_saved}
pub use Rattle.jobs.proofs.WrittenTexts.{text_written}
pub use Rattle.jobs.specs.declared.fault.Fault.{Fault}
pub use Rattle.json_lines.specs.declared.format.Format.{Format}
pub use Rattle.layout.specs.Denoted.{Encodes, SavedState}
pub use Rattle.layout.specs.Superblock.{Plan, version_number}
pub use Rattle.layout.specs.declared.version.Version.{Version}
pub use Rattle.migrator.specs.Durable.{DurableState, saved_by}
pub use Rattle.migrator.specs.WholeStore.{IsOver}
pub use Rattle.model.specs.Frame.{conveyed, headers, object_of}
unfoldable pub use Rattle.model.specs.Frame.{objects_of}
pub use Rattle.model.specs.Keepable.{IsSoundFrames, world_at}
pub use Rattle.model.specs.Machine.{Saved}
pub use Rattle.model.specs.Object.{map_content, role_number, role_of}
pub use Rattle.model.specs.Sound.{IsSound, object_count}
pub use Rattle.model.specs.Text.{line_of}
pub use Rattle.model.specs.World.{World, is_process}
pub use Rattle.model.specs.declared.capability.Cap.{Cap}
pub use Rattle.model.specs.declared.frame.Frame.{Frame}
pub use Rattle.model.specs.declared.frame.ObjectHeader.{ObjectHeader}
pub use Rattle.model.specs.declared.geometry.Geometry.{Geometry}
pub use Rattle.model.specs.declared.object.Content.{Content}
pub use Rattle.model.specs.declared.object.Object.{Object}
pub use Rattle.model.specs.declared.object.Role.{Role}
pub use Rattle.reach.proofs.Members.{processes_known}
unfoldable pub use Rattle.reach.specs.ChainLines.{chain_text}
pub use Rattle.reach.specs.Lines.{changers_text}
unfoldable pub use Rattle.reach.specs.Lines.{reach_text}
pub use Rattle.reach.specs.Reached.{AreSoundObjects}
pub use Rattle.recovery.proofs.Unsound.{sound_banked, sound_named}
pub use Rattle.recovery.specs.Denotes.{saved_of}
pub use Rattle.recovery.specs.Recovered.{Recovers, RefusesToOpen}
pub use Rattle.recovery.specs.declared.live.Live.{Live}
pub use Rattle.script.specs.Writing.{Written, Wrote, WroteFront}
pub use Rattle.std.proofs.Common.{Err, Global, IfOk, List, None, Ok, Option, Result, Some, String, [], ap, arith, codes, cond, drop, inr, length, map, refl}
pub use Rattle.std.proofs.Common.{string_bytes, subst, suc, sym, take, ℕ}
pub use Rattle.std.proofs.lemmas.Bool.Decides.{nat_tests}
pub use Rattle.std.proofs.lemmas.List.{get_or_default}
pub use Rattle.std.proofs.lemmas.Option.{none-some, same_Some}
pub use Rattle.std.proofs.lemmas.Result.{IfOk-weaker, err_from_is_err_and}
pub use Rattle.std.specs.List.{Contains, find, fold}
pub use Rattle.std.specs.Prelude.{IfSome, IsTrue, Vec, false, not, slice_index_or}
pub use Rattle.toml.specs.Data.{Members}
pub use Rattle.toml.specs.Errors.{span_start}
pub use Rattle.toml.specs.View.{table_view}
pub use Rattle.queries.specs.Drawing.{DrawsImage, DrawsPart, IsFocus, IsHeldTo, KeepsPart, KeepsReached}
pub use Rattle.queries.specs.Explained.{IsSyntaxLineAt, position_from, position_text}
pub use Rattle.queries.specs.Growing.{IsGrownFrom, TellsDescription, TellsGrown, TellsText}
pub use Rattle.queries.specs.Images.{DescribesImage, IsDescribedIn, IsDescriptionOf, ReadsSaved, TellsWhole}
pub use Rattle.queries.specs.Info.{InspectsImage, headers_with, info_line, info_lines, info_text, lines_with, objects_with, range_line}
pub use Rattle.queries.specs.Laws.{DescribedIsAccepted, DescribedIsDenoted, GrownIsDenoted, UnsizedIsWhole}
pub use Rattle.queries.specs.Reaching.{AreProcesses, AreStarts, IsChainText, IsChangersText, IsFirstMissing, IsSetText, ReachesImage, TellsOf, TellsReach}
pub use Rattle.queries.specs.declared.drawing.Focus.{Focus}
pub use Rattle.queries.specs.declared.info.InfoLine.{InfoLine}
pub use Rattle.queries.specs.declared.reaching.ReachQuestion.{ReachQuestion}
pub use Rattle.queries.specs.declared.reaching.ReachQuestion.TheVariants.{Chain, Changers, Set}
