-- The names that the proofs here cite: of other crates, and of the definitions of this one.
pub use Rattle.capability.proofs.FrameLists.{length_in}
pub use Rattle.checkpoint.specs.Saved.{Holds, SavedFrames, kept_of}
pub use Rattle.ckpt_log.proofs.AnyVersions.{commits_from, commits_to, first_home_inside, plain_first, plain_keeps, plain_sequence, sealed_is}
pub use Rattle.ckpt_log.proofs.Places.{first_some, half_behind, opening_stays, sequences_reported}
pub use Rattle.ckpt_log.proofs.SavedStates.{encoded, frames_behind, same_directory, same_frames, same_units}
pub use Rattle.ckpt_log.proofs.SealedCommits.{words_of}
pub use Rattle.ckpt_log.proofs.SealedSectors.{written_is}
pub use Rattle.ckpt_log.proofs.SealedWritten.{front_body}
pub use Rattle.ckpt_log.specs.AnyVersion.{KeepsOrHasNone, WasKeptOrHasNone, gate_place, header_place}
pub use Rattle.ckpt_log.specs.CommitLaws.{IsReady}
pub use Rattle.ckpt_log.specs.SavedSectors.{SameBlocks, SameFrom}
pub use Rattle.ckpt_log.specs.sealed.Units.{IsRootAfter}
pub use Rattle.device.proofs.Images.{agrees_is, elsewhere_on, elsewhere_same}
pub use Rattle.device.proofs.Moments.{OnlyNow, goes_on, leaves_on, leaves_weaker, narrowed, started}
pub use Rattle.device.specs.Calls.{Agrees, Elsewhere, IsTorn, Narrows, Only, Tears}
pub use Rattle.device.specs.Disk.{Disk, Image, IsWhole}
pub use Rattle.device.specs.Moments.{Elapses, LeavesOnly, Peeks}
pub use Rattle.header_slots.proofs.Counting.{below_greatest, is_number}
pub use Rattle.header_slots.proofs.Finding.{IsGreatestBelow}
pub use Rattle.header_slots.specs.Committed.{IsPair}
pub use Rattle.header_slots.specs.Slots.{Counts, IsCommitted, Slots}
pub use Rattle.home_ranges.proofs.Filling.{AreEnded, AreIn, all_blank, all_ended, all_in, ended_more, none_ended, one_frame_more}
pub use Rattle.home_ranges.proofs.FrameSlots.{frame_slot_entry}
pub use Rattle.home_ranges.proofs.Places.{Has, alone, block_shared, first_is, found, frames_rise, one_length, one_range, places_apart, places_begin}
pub use Rattle.home_ranges.proofs.Places.{places_spare_log, places_within, shape_is}
pub use Rattle.home_ranges.proofs.Units.{offset_begins}
pub use Rattle.home_ranges.specs.Home.{EndsInZeros, IsFirstOf, frames_in_block}
pub use Rattle.layout.proofs.Blanked.{blanked_words, unblanked}
pub use Rattle.layout.proofs.Blocks.{front_blank, front_shape, length-piece, page_whole}
pub use Rattle.layout.proofs.Extents.{range_at}
pub use Rattle.layout.proofs.Halves.{half_within}
pub use Rattle.layout.proofs.NumberedGates.{closed_has_none, written_has}
pub use Rattle.layout.proofs.SealedSlots.{are_slots, one_commits, opens_in, slots_in}
pub use Rattle.layout.proofs.Sectors.{same_sectors}
pub use Rattle.layout.proofs.Shapes.{few_sectors}
pub use Rattle.layout.proofs.Summed.{frame_front, summed_header}
pub use Rattle.layout.proofs.Superblocks.{marked, one_plan}
pub use Rattle.layout.proofs.Versions.{fewer_entries, half_has}
unfoldable pub use Rattle.layout.specs.Bytes.{number, zeros}
pub use Rattle.layout.specs.Committed.{CommitsIf, CommitsUnsealed, HasNoSums, committed_of, does_count, option_at, sequence_in}
pub use Rattle.layout.specs.Denoted.{AreEntriesIf, AreEntriesOf, Encodes, SavedState, sums_if}
pub use Rattle.layout.specs.Directory.{IsDirectory, entry_at}
pub use Rattle.layout.specs.Frame.{IsFrameOf, frame_bytes}
unfoldable pub use Rattle.layout.specs.Frame.{front_bytes, node_frame_bytes, page_frame_bytes, words_bytes}
pub use Rattle.layout.specs.Frames.{IsObject}
pub use Rattle.layout.specs.Gate.{is_open}
pub use Rattle.layout.specs.Header.{IsHeader}
unfoldable pub use Rattle.layout.specs.Header.{header_bytes}
pub use Rattle.layout.specs.Homes.{home_place, place_in, place_length, range_with, rank_in, shape_of}
pub use Rattle.layout.specs.Image.{bytes_at, directory_sector, frame_in, frame_sector, frame_slot_in, half_sector, slot_sector}
unfoldable pub use Rattle.layout.specs.Image.{sectors_from}
pub use Rattle.layout.specs.Shape.{IsShapeFor, node_shape, page_shape, shape_bytes, shape_end, shape_length}
unfoldable pub use Rattle.layout.specs.Shape.{blanked}
pub use Rattle.layout.specs.Superblock.{HasMark, IsPlan, IsPlanRefused, Plan, half_extent}
unfoldable pub use Rattle.layout.specs.Superblock.{superblock_bytes}
pub use Rattle.layout.specs.Version.{row}
unfoldable pub use Rattle.layout.specs.Version.{directory_length}
pub use Rattle.layout.specs.declared.bad_image.BadImage.{BadImage}
pub use Rattle.layout.specs.declared.directory.Entry.{Entry}
pub use Rattle.layout.specs.declared.extent.HomeRange.{HomeRange}
pub use Rattle.layout.specs.declared.header.CheckpointHeader.{CheckpointHeader}
pub use Rattle.layout.specs.declared.sealed.header.SealedHeader.{SealedHeader}
pub use Rattle.layout.specs.declared.shape.Shape.{Shape}
pub use Rattle.layout.specs.declared.version.Row.{Row}
pub use Rattle.layout.specs.declared.version.Version.{Version}
pub use Rattle.layout.specs.declared.version.Version.TheVariants.{One, Three, Two}
pub use Rattle.layout.specs.sealed.Cluster.{IsCluster}
pub use Rattle.layout.specs.sealed.Gate.{HasNumber}
unfoldable pub use Rattle.layout.specs.sealed.Gate.{numbered_gate_bytes}
pub use Rattle.layout.specs.sealed.Header.{header_numbers}
unfoldable pub use Rattle.layout.specs.sealed.Header.{sealed_header_bytes}
pub use Rattle.layout.specs.sealed.Opening.{Commits, gate_sector}
unfoldable pub use Rattle.layout.specs.sealed.Page.{page_header_bytes}
pub use Rattle.layout.specs.sealed.Root.{Unit}
unfoldable pub use Rattle.layout.specs.sealed.Root.{root_of}
pub use Rattle.layout.specs.sealed.Sector.{AreWords, seal_in}
pub use Rattle.layout.specs.sealed.Summed.{IsSummed}
pub use Rattle.layout.specs.sealed.Units.{HasUnits, begins_unit, block_in, cluster_count, unit_in}
pub use Rattle.model.specs.Frame.{frame_at, header_at}
unfoldable pub use Rattle.model.specs.Frame.{frames_in}
pub use Rattle.model.specs.Keepable.{AreKeepable}
pub use Rattle.model.specs.Sound.{object_count}
pub use Rattle.model.specs.declared.capability.Cap.{Cap}
pub use Rattle.model.specs.declared.frame.Frame.{Frame}
pub use Rattle.model.specs.declared.frame.ObjectHeader.{ObjectHeader}
pub use Rattle.model.specs.declared.geometry.Geometry.{Geometry}
pub use Rattle.model.specs.declared.object.Content.{Content}
pub use Rattle.model.specs.declared.object.Content.TheVariants.{Free}
pub use Rattle.seal.proofs.Damaged.{bodies_decide}
pub use Rattle.seal.specs.Seal.{body_of}
unfoldable pub use Rattle.seal.specs.Sums.{sums_of}
pub use Rattle.seal.specs.declared.sums.Sums.{Sums}
pub use Rattle.std.proofs.Common.{Bool, List, None, Option, Result, Some, [], ap, arith, drop, false, inl, inr, length, refl, rules, slice_index_or, subst, suc}
pub use Rattle.std.proofs.Common.{sym, take, true, zero, ℕ, ⊎_elim}
pub use Rattle.std.proofs.lemmas.Bool.{cases_Bool, cases_eq, cases_lt, eq-eqb, false≢true, le-ltb, lt-ltb}
pub use Rattle.std.proofs.lemmas.Bool.Decides.{nat_tests}
pub use Rattle.std.proofs.lemmas.List.{append-nil, drop-take, get_or_default, get_or_read, length-take-le, map-id, take-append-drop, take-take, take_all}
pub use Rattle.std.proofs.lemmas.List.{take_at}
pub use Rattle.std.proofs.lemmas.List.Concat.{flat_map-append}
pub use Rattle.std.proofs.lemmas.List.FromFn.{map-range_with_len_more}
pub use Rattle.std.proofs.lemmas.Option.{same_Some}
pub use Rattle.std.proofs.lemmas.Result.{on_ok_weaker}
pub use Rattle.std.specs.List.{between, flat_map, range_with_len}
pub use Rattle.std.specs.Prelude.{Err, Ok, OnOk, min, nat_lt}
pub use Rattle.image_writer.specs.Homes.{AreFramesOf, Ends, EndsBy, IsUnitBy, LieAt, unit_of, unit_part}
pub use Rattle.image_writer.specs.Laws.{KeptHoldsTheSame, NoneIsHeld}
pub use Rattle.image_writer.specs.Parts.{AreHomes, AreInSlots, AreOpenBy, AreZeros, GatesAreClosed, HasFrames, HaveHeaders, IsClosedBy, IsHeaderOf, IsNamed}
pub use Rattle.image_writer.specs.Parts.{IsShut, IsWritten, LeavesShut, SparesAll, SparesBy, header_before, home_unit, home_units}
pub use Rattle.image_writer.specs.Written.{EndInZeros, HasNoHeader, HasNoneBy, IsBeforeOrNone, IsLeftWriting, KeepsAs, KeepsImage, SameHeaderBy, SparesGates}
pub use Rattle.image_writer.specs.Written.{first_header, first_state, state_of}
