-- The names that the proofs here cite: of other crates, and of the definitions of this one.
pub use Rattle.checkpoint.proofs.Lists.{maps_same}
pub use Rattle.checkpoint.specs.Opened.{IsBadFor, OnlyReads}
pub use Rattle.checkpoint.specs.Saved.{Holds, LeavesEither, LeavesOneOf, LeavesSaved, SavedFrames, kept_of, most, with_words}
pub use Rattle.checkpoint.specs.Snapshots.{MayCommit, Snapshots, all_moved, committed, journaled, next_saved, replaced}
pub use Rattle.ckpt_log.proofs.AnyVersions.{first_home_inside, plain_to}
pub use Rattle.ckpt_log.proofs.Places.{directories_inside, first_some, frames_in_slots, half_behind, halves_apart, halves_within, opening_stays, slots_apart}
pub use Rattle.ckpt_log.proofs.Places.{slots_inside, spares_opening}
pub use Rattle.ckpt_log.proofs.SavedStates.{frames_behind, new_denoted, old_denoted, same_header, same_saved, same_units}
pub use Rattle.ckpt_log.specs.AnyVersion.{CommitsOne, HasNew, IsOld, IsOldOrNew, Precedes, SparesRest}
pub use Rattle.ckpt_log.specs.CommitLaws.{HomesAreBehind, IsReady}
pub use Rattle.ckpt_log.specs.Places.{directory_extent, place_extent, slot_extent}
pub use Rattle.ckpt_log.specs.SavedSectors.{SameFrom, SameWhereRead}
pub use Rattle.ckpt_log.specs.sealed.Directory.{TouchesAt}
pub use Rattle.ckpt_log.specs.sealed.Units.{IsBadBlock, IsBadCluster, IsRootAfter, IsRootWith, page_seal}
pub use Rattle.collections.specs.Marks.{HasNoneMarked, IsNextMarked, is_marked}
pub use Rattle.device.proofs.Images.{agrees_is, elsewhere_on, elsewhere_same}
pub use Rattle.device.proofs.Moments.{OnlyNow, counted_ok, counts_on, leaves_on, leaves_weaker}
pub use Rattle.device.specs.Calls.{Agrees, Counts, Elsewhere, IsTorn, Only, image_of, sectors_of}
pub use Rattle.device.specs.Disk.{Disk, Image}
pub use Rattle.device.specs.Moments.{Elapses, LeavesOnly}
pub use Rattle.device.specs.declared.device.Failed.{Failed}
pub use Rattle.home_ranges.proofs.Filling.{AreEnded, AreIn, all_blank, all_ended, all_in, ended_more, none_ended, one_frame_more}
pub use Rattle.home_ranges.proofs.FrameSlots.{alone_frame_slot, beside_behind, beside_frame_slot, beside_here, found_beside, frame_slot_entry, own_frame_slot}
pub use Rattle.home_ranges.proofs.FrameSlots.{sealed_frame_slot}
pub use Rattle.home_ranges.proofs.Places.{Has, IsWhole, alone, first_is, found, home_between, one_length, one_range, places_apart, places_begin}
pub use Rattle.home_ranges.proofs.Places.{places_spare_log, places_within}
pub use Rattle.home_ranges.specs.Home.{EndsInZeros, HaveHome, HoldsHome, IsFirstOf, frames_in_block}
pub use Rattle.home_ranges.specs.Laws.{home_extent}
pub use Rattle.layout.proofs.Halves.{apart_inside, apart_turned, half_within, itself}
pub use Rattle.layout.proofs.Headers.{one_more}
pub use Rattle.layout.proofs.Images.{one_frame}
pub use Rattle.layout.proofs.Numbers.{length-zeros}
pub use Rattle.layout.proofs.OneHeader.{one_committed}
pub use Rattle.layout.proofs.Sectors.{one_from, same_sectors, whole_sectors}
pub use Rattle.layout.proofs.Shapes.{same_shaped}
pub use Rattle.layout.proofs.SlotsOf.{found_slot, no_slot, own_slot, rising_to, slot_behind, slot_here, two_objects}
pub use Rattle.layout.proofs.Spelling.{bytes_spelt, denotes, length_read, read_at, read_same, spelt_at, spelt_read, spelt_same}
pub use Rattle.layout.proofs.Summed.{none_summed}
pub use Rattle.layout.proofs.SummedPages.{sums_equal}
pub use Rattle.layout.proofs.Totals.{total_reported}
pub use Rattle.layout.proofs.Versions.{half_has, no_sectors}
unfoldable pub use Rattle.layout.specs.Bytes.{zeros}
pub use Rattle.layout.specs.Calls.{ReadsOnly, WritesAt}
pub use Rattle.layout.specs.Committed.{no_sums}
pub use Rattle.layout.specs.Denoted.{AreEntriesOf, Encodes, HasDirectory, HasHeader, HasPlan, IsTooSmall, SavedState, sums_if}
pub use Rattle.layout.specs.Directory.{AreRising, IsDirectory, IsEntry, entry_at}
pub use Rattle.layout.specs.Fault.{CountsOpen}
pub use Rattle.layout.specs.Frame.{IsFrameOf, frame_bytes, frame_of}
unfoldable pub use Rattle.layout.specs.Frame.{page_frame_bytes}
unfoldable pub use Rattle.layout.specs.FrameReader.{frame_from}
pub use Rattle.layout.specs.Frames.{IsHeaderAt, IsObject, IsRefused}
pub use Rattle.layout.specs.Header.{IsHeader}
pub use Rattle.layout.specs.Homes.{home_place, place_in, place_length, range_with, rank_in, shape_of}
pub use Rattle.layout.specs.Image.{bytes_at, directory_sector, frame_in, frame_sector, frame_slot_in, half_sector, or_beside, sector_or, shaped_at, slot_beside}
pub use Rattle.layout.specs.Image.{slot_in, slot_sector, total_in}
unfoldable pub use Rattle.layout.specs.Image.{sectors_from}
pub use Rattle.layout.specs.Shape.{AreBeside, IsShapeFor, node_shape, page_shape, shape_bytes, shape_end}
unfoldable pub use Rattle.layout.specs.Shape.{blanked}
pub use Rattle.layout.specs.Spelt.{AreSpelt, IsSpelt, count_of, frame_read, state_in}
unfoldable pub use Rattle.layout.specs.Spelt.{frames_read}
pub use Rattle.layout.specs.Superblock.{IsApart, IsInside, IsPlan, IsPlanRefused, Plan, half_extent, half_start}
unfoldable pub use Rattle.layout.specs.Superblock.{superblock_bytes}
pub use Rattle.layout.specs.Version.{IsOpened, row}
unfoldable pub use Rattle.layout.specs.Version.{directory_length}
pub use Rattle.layout.specs.declared.bad_image.BadImage.{BadImage}
pub use Rattle.layout.specs.declared.directory.Entry.{Entry}
pub use Rattle.layout.specs.declared.extent.Extent.{Extent}
pub use Rattle.layout.specs.declared.extent.HomeRange.{HomeRange}
pub use Rattle.layout.specs.declared.half.Half.TheVariants.{First, Second}
pub use Rattle.layout.specs.declared.header.CheckpointHeader.{CheckpointHeader}
pub use Rattle.layout.specs.declared.open_fault.OpenFault.{OpenFault}
pub use Rattle.layout.specs.declared.sealed.header.SealedHeader.{SealedHeader}
pub use Rattle.layout.specs.declared.shape.Shape.{Shape}
pub use Rattle.layout.specs.declared.version.Row.{Row}
pub use Rattle.layout.specs.declared.version.Version.{Version}
pub use Rattle.layout.specs.sealed.Cluster.{IsCluster}
pub use Rattle.layout.specs.sealed.Root.{Unit}
unfoldable pub use Rattle.layout.specs.sealed.Root.{root_of}
pub use Rattle.layout.specs.sealed.RootLaws.{unit_of}
pub use Rattle.layout.specs.sealed.Sector.{seal_in}
pub use Rattle.layout.specs.sealed.Summed.{IfSummed, IsSummed, IsSummedIf}
pub use Rattle.layout.specs.sealed.Units.{HasUnits, begins_unit, block_in, cluster_count, unit_in, units_in}
pub use Rattle.model.specs.Frame.{content_behind, frame_at}
pub use Rattle.model.specs.Keepable.{AreKeepable, AreKeptWords, IsKeepable}
pub use Rattle.model.specs.declared.frame.Frame.{Frame}
pub use Rattle.model.specs.declared.frame.ObjectHeader.{ObjectHeader}
pub use Rattle.model.specs.declared.geometry.Geometry.{Geometry}
pub use Rattle.seal.specs.declared.sums.Sums.{Sums}
pub use Rattle.std.proofs.Common.{Bool, Err, List, None, Ok, Option, Result, Some, [], ap, append-nil, arith, drop, false, get_or, inl, inr, length}
pub use Rattle.std.proofs.Common.{length-append, map, nat_eq, nat_le, nat_lt, not, refl, rules, set, subst, suc, sym, take, true, zero, ℕ, ⊎_elim}
pub use Rattle.std.proofs.Math.ListN.{get_or-map}
pub use Rattle.std.proofs.lemmas.Bool.{cases_eq, cases_lt, eq-eqb, false≢true, le-ltb, lt-ltb, ltb-false}
pub use Rattle.std.proofs.lemmas.Bool.Decides.{nat_tests}
pub use Rattle.std.proofs.lemmas.List.{drop-drop, drop_all, drop_at, get_or-replicate, get_or-set_other, get_or-set_same, get_or-take, get_or_default}
pub use Rattle.std.proofs.lemmas.List.{get_or_past, length-map, length-replicate, length-set, length-take-le, map-id, map-set, nil_from_length, same_lists}
pub use Rattle.std.proofs.lemmas.List.{take-append-le, take-take, take_all, take_at}
pub use Rattle.std.proofs.lemmas.List.Concat.{flat_map-append}
pub use Rattle.std.proofs.lemmas.List.FromFn.{get_or-map-range_with_len, length-map-range_with_len, map-range_with_len_more}
pub use Rattle.std.proofs.lemmas.Option.{none-some, same_Some}
pub use Rattle.std.proofs.lemmas.Result.{IfOk-from_err, IfOk-weaker, err_from_is_err_and, on_err_weaker, on_ok_weaker}
pub use Rattle.std.proofs.lemmas.Slice.{between_is}
pub use Rattle.std.specs.List.{flat_map, range_with_len}
pub use Rattle.std.specs.Prelude.{IfErr, IfOk, IfSome, IsErr, IsTrue, OnErr, OnOk, is_err, min, option_map, replicate, slice_set}
pub use Rattle.std.specs.Vec.{vec_capacity, with_items}
pub use Rattle.migrator.specs.Completed.{AreComplete, IsClusterOf, IsComplete, IsFilled, Keeps, KeepsOne, new_bytes}
pub use Rattle.migrator.specs.Durable.{Commits, DurableState, EncodesBy, FrozenPuts, GoesOnDisk, HasUnwritten, IsDurable, IsHome, IsIntact, IsLesser}
pub use Rattle.migrator.specs.Durable.{IsReadable, IsRunning, IsSoundOn, LeavesState, MayHaveUnwritten, MayJournal, MayPut, Migrates, MovedBy, Publishes}
pub use Rattle.migrator.specs.Durable.{PutsFrame, ReadsStore, Stays, Stored, Stores, below_at, committed_header, first_bytes, first_frame, freezing_puts}
pub use Rattle.migrator.specs.Durable.{frozen_generation, frozen_of, frozen_put, generation_after, home_header, is_sound, left_of, newest, next_header}
pub use Rattle.migrator.specs.Durable.{on_snapshots, puts, replaced_header, saved_state, seen_by, stored_in, stored_of, stored_on, with_frozen, with_sums}
pub use Rattle.migrator.specs.Durable.{with_working, working_generation}
pub use Rattle.migrator.specs.Gathered.{IsCopied, IsFirst, IsGathered}
pub use Rattle.migrator.specs.Mended.{IfUnwritten, IsSpeltIn, Unwritten, mended, unwritten_of}
pub use Rattle.migrator.specs.Opened.{HasNoPlan, IsBadAt, IsRead, IsUnplanned, OpensDurable}
pub use Rattle.migrator.specs.Put.{Absent, ArePut, Broken, HasFreeSlot, IsSlotSummed, Kept, Put, held_slot, kept_count, kept_frame, put_at, put_of, put_or}
pub use Rattle.migrator.specs.Put.{slot_bytes, slot_frame}
unfoldable pub use Rattle.migrator.specs.Put.{overlaid, puts_in, sum_of}
pub use Rattle.migrator.specs.Reserve.{IsReadInto, first_books}
pub use Rattle.migrator.specs.Saving.{IsIdle, MayAdopt, MayCommitAt, MayFinish, MayReplace, SavesOnly, SparesKept, SparesPuts, adopted}
pub use Rattle.migrator.specs.Spared.{Spares, SparesFrames, Touches, frame_extent}
pub use Rattle.migrator.specs.Table.{IsTable, entries_from, entry_before, has_frame, has_slot, is_held, place_at, slot_for, slot_of, slot_or, taken_count}
pub use Rattle.migrator.specs.Table.{whole_count}
unfoldable pub use Rattle.migrator.specs.Table.{entries_of, tally}
pub use Rattle.migrator.specs.Units.{AreUnits, HasBadUnit, HasOtherUnits, IsBadUnit, IsNextRoot, IsUnitAt, IsUnitBy, unit_at, unit_length, units_until}
pub use Rattle.migrator.specs.declared.books.Books.{Books}
pub use Rattle.migrator.specs.declared.table.Place.{Place}
pub use Rattle.migrator.specs.declared.table.Place.TheVariants.{Nowhere, Torn, Whole}
