-- The names that the proofs here cite: of other crates, and of the definitions of this one.
pub use Rattle.byteorder.specs.Endian.{little_number}
pub use Rattle.capability.proofs.Keeping.{keepable_later}
pub use Rattle.capability.proofs.References.{not_annex, not_node, not_root}
pub use Rattle.capability.specs.Consistency.{AreNamed, AreWholeProcesses, IsNamed}
pub use Rattle.capability.specs.Parts.{Parts, frames_of}
pub use Rattle.checkpoint.specs.Opened.{OnlyReads, Refuses}
pub use Rattle.checkpoint.specs.Saved.{Holds, SavedFrames}
pub use Rattle.checkpoint.specs.Store.{OpensStore, View}
pub use Rattle.ckpt_log.proofs.CommittedHeaders.{plain, plain_header, plain_words, sealed_header}
pub use Rattle.ckpt_log.proofs.Places.{sealed_length}
pub use Rattle.ckpt_log.proofs.SealedDirectories.{have_more, reads_more}
pub use Rattle.ckpt_log.proofs.SealedReading.{chosen_commits, greatest_too, header_by, no_pair_too, read_numbers}
pub use Rattle.ckpt_log.specs.AnyVersion.{HasNoCommitted, HasNone}
pub use Rattle.ckpt_log.specs.HeaderSlot.{slot_number}
pub use Rattle.ckpt_log.specs.declared.header_slot.HeaderSlot.{HeaderSlot}
pub use Rattle.ckpt_log.specs.sealed.Reading.{AreRead, IsChosen, numbered}
pub use Rattle.device.proofs.Images.{agrees_is}
pub use Rattle.device.proofs.Moments.{CountsNow}
pub use Rattle.device.specs.Disk.{Disk, Image}
pub use Rattle.header_slots.specs.Committed.{IsRefused}
pub use Rattle.header_slots.specs.declared.deciding.NotCommitted.TheVariants.{NoPair}
pub use Rattle.layout.proofs.Denoted.{frames_not_bad}
pub use Rattle.layout.proofs.Directories.{entry_read, none_read}
pub use Rattle.layout.proofs.Images.{same_directory, same_header, same_plan}
pub use Rattle.layout.proofs.Numbers.{number_read}
pub use Rattle.layout.proofs.OneHeader.{none_committed}
pub use Rattle.layout.proofs.SealedSlots.{are_slots, slots_in}
pub use Rattle.layout.proofs.SummedPages.{sums_equal}
pub use Rattle.layout.proofs.Superblocks.{marked}
pub use Rattle.layout.proofs.Totals.{total_reported}
pub use Rattle.layout.proofs.Versions.{fewer_entries}
unfoldable pub use Rattle.layout.specs.Bytes.{zeros}
pub use Rattle.layout.specs.Calls.{ReadsOnly}
unfoldable pub use Rattle.layout.specs.Capability.{capability_bytes}
pub use Rattle.layout.specs.Committed.{CommitsNoneIf, committed_slot, option_at}
pub use Rattle.layout.specs.Denoted.{AreEntriesIf, HasBadDirectory, HasBadFrame, HasBadHeader, HasBadObject, HasDirectory, HasHeader, HasNoHeader, HasPlan}
pub use Rattle.layout.specs.Denoted.{IsBadBy, IsTooSmall, sums_if}
pub use Rattle.layout.specs.Directory.{AllFitting, IsDirectory, entry_at}
unfoldable pub use Rattle.layout.specs.Directory.{directory_bytes}
pub use Rattle.layout.specs.Fault.{CountsOpen}
pub use Rattle.layout.specs.Frame.{cap_at, frame_of}
pub use Rattle.layout.specs.Header.{IsHeader}
unfoldable pub use Rattle.layout.specs.Header.{header_bytes}
pub use Rattle.layout.specs.Homes.{place_length, shape_of}
pub use Rattle.layout.specs.Image.{directory_sector, frame_in, frame_sector, shaped_at}
unfoldable pub use Rattle.layout.specs.Image.{sectors_from}
pub use Rattle.layout.specs.Reason.{reason_number}
pub use Rattle.layout.specs.Shape.{shape_bytes}
pub use Rattle.layout.specs.Superblock.{HasEnd, HasMark, Plan}
pub use Rattle.layout.specs.Version.{row}
unfoldable pub use Rattle.layout.specs.Version.{directory_length}
pub use Rattle.layout.specs.declared.bad_image.BadImage.{BadImage}
pub use Rattle.layout.specs.declared.directory.Entry.{Entry}
pub use Rattle.layout.specs.declared.header.CheckpointHeader.{CheckpointHeader}
pub use Rattle.layout.specs.declared.open_fault.OpenFault.{OpenFault}
pub use Rattle.layout.specs.declared.sealed.header.SealedHeader.{SealedHeader}
pub use Rattle.layout.specs.declared.shape.Shape.{Shape}
pub use Rattle.layout.specs.declared.version.Row.{Row}
pub use Rattle.layout.specs.declared.version.Version.{Version}
pub use Rattle.layout.specs.sealed.Directory.{AreEntries, HaveEntries, piece}
unfoldable pub use Rattle.layout.specs.sealed.Directory.{entries_bytes}
pub use Rattle.layout.specs.sealed.Opening.{header_sector}
pub use Rattle.layout.specs.sealed.Units.{HasUnits, begins_unit, block_in, unit_bytes}
pub use Rattle.migrator.proofs.SealedUnits.{cluster_length}
pub use Rattle.migrator.specs.Durable.{DurableState}
pub use Rattle.migrator.specs.Opened.{IsUnplanned}
pub use Rattle.migrator.specs.Units.{IsUnitAt}
pub use Rattle.model.specs.Frame.{content_behind, current_count, frame_at, header_at, void_held}
pub use Rattle.model.specs.Keepable.{AreKeepable, IsKeptCap, caps_in}
pub use Rattle.model.specs.declared.capability.Cap.{Cap}
pub use Rattle.model.specs.declared.frame.Frame.{Frame}
pub use Rattle.model.specs.declared.frame.ObjectHeader.{ObjectHeader}
pub use Rattle.model.specs.declared.geometry.Geometry.{Geometry}
pub use Rattle.model.specs.declared.object.Content.{Content}
pub use Rattle.model.specs.declared.object.ContentRef.{ContentRef}
pub use Rattle.recovery.proofs.BankFaults.{refuted, unbanked_refuted}
pub use Rattle.recovery.proofs.Denoted.{holds_one}
pub use Rattle.recovery.proofs.Looking.{HasLooked}
pub use Rattle.recovery.proofs.Named.{holds_none, named_more, named_next, named_whole}
pub use Rattle.recovery.proofs.Notes.{none_noted}
pub use Rattle.recovery.proofs.Sound.{consistent_is_sound}
pub use Rattle.recovery.proofs.Tables.{annex_known, content_read, header_read, table_read}
pub use Rattle.recovery.specs.Consistency.{IsInconsistent}
pub use Rattle.recovery.specs.Denotes.{saved_of}
pub use Rattle.recovery.specs.Laws.{AreBadForOneReason}
pub use Rattle.recovery.specs.Noted.{AreNoted}
pub use Rattle.recovery.specs.declared.consistency.processes.Noted.{Noted}
pub use Rattle.std.proofs.Common.{Bool, Err, List, None, Ok, Option, Result, Some, [], ap, append-nil, append_assoc, arith, drop, false, inl, inr, length}
pub use Rattle.std.proofs.Common.{nat_le, refl, rules, slice_index_or, subst, sym, take, true, ℕ, ⊎_elim}
pub use Rattle.std.proofs.lemmas.Bool.{cases_lt, false≢true, le-ltb, lt-ltb}
pub use Rattle.std.proofs.lemmas.Bool.Decides.{nat_tests}
pub use Rattle.std.proofs.lemmas.List.{get_or_default, get_or_past, length-drop, length-take-le, take_all, take_rest}
pub use Rattle.std.proofs.lemmas.Result.{IfOk-weaker}
pub use Rattle.std.specs.List.{All}
pub use Rattle.std.specs.Option.{is_some, option_map}
pub use Rattle.std.specs.Prelude.{IfErr, IfNone, IfSome, IsTrue, codes, decimal, nat_lt}
pub use Rattle.image_explainer.specs.Breaking.{BreaksFrames, HasRoot, IsFirstUnmatched, IsMatched, IsMisnamed, IsUnmatched, reason_of}
pub use Rattle.image_explainer.specs.Explained.{Explains, IsExplainedBy}
pub use Rattle.image_explainer.specs.Finding.{IsConsistentOr, MatchesOr, annex_noted}
pub use Rattle.image_explainer.specs.SectorBreaking.{AreBlank, AreRightBefore, BreaksDirectory, BreaksDirectoryAt, BreaksFrame, BreaksHeaderIf, BreaksMark}
pub use Rattle.image_explainer.specs.SectorBreaking.{BreaksUnit, HasSaved, HasVersion, HoldsCap, HoldsEntries, IsAmong, IsFault, IsFirstEntry, IsWholeFrame}
pub use Rattle.image_explainer.specs.SectorFinding.{IsBehindFront, IsFrameFault, IsLostIn, IsNoReason, IsPieceFault, IsSealPart, IsSlotsFault, IsUnitFault}
pub use Rattle.image_explainer.specs.Text.{directory_part_text, frame_part_text, header_part_text, not_counted_text, not_paired_text, place_text}
unfoldable pub use Rattle.image_explainer.specs.Text.{fault_text}
pub use Rattle.image_explainer.specs.declared.fault.ImageFault.{ImageFault}
pub use Rattle.image_explainer.specs.declared.fault.Misnamed.{Misnamed}
pub use Rattle.image_explainer.specs.declared.fault.Unmatched.{Unmatched}
pub use Rattle.image_explainer.specs.declared.sectors.fault.DirectoryPart.{DirectoryPart}
pub use Rattle.image_explainer.specs.declared.sectors.fault.FramePart.{FramePart}
pub use Rattle.image_explainer.specs.declared.sectors.fault.HeaderPart.{HeaderPart}
pub use Rattle.image_explainer.specs.declared.sectors.fault.NotCounted.{NotCounted}
pub use Rattle.image_explainer.specs.declared.sectors.fault.NotPaired.{NotPaired}
pub use Rattle.image_explainer.specs.declared.sectors.fault.SectorFault.{SectorFault}
