-- The names that the proofs here cite: of other crates, and of the definitions of this one.
pub use Rattle.byteorder.specs.Endian.{little_number}
pub use Rattle.ckpt_log.proofs.Places.{directories_inside, frames_in_slots, half_behind, sealed_length, slots_apart, slots_inside, slots_spare_directories}
pub use Rattle.ckpt_log.proofs.SavedStates.{encoded, frames_behind, same_directory, same_frames, same_header, same_units}
pub use Rattle.ckpt_log.proofs.SealedReading.{SameNumbers, committed_too}
pub use Rattle.ckpt_log.specs.AnyVersion.{gate_place, header_place}
pub use Rattle.ckpt_log.specs.CommitLaws.{IsReady}
pub use Rattle.ckpt_log.specs.Places.{directory_extent, place_extent, slot_extent}
pub use Rattle.ckpt_log.specs.SavedSectors.{SameBlocks, SameFrom, SameOpening}
pub use Rattle.device.specs.Disk.{Image, IsWhole}
pub use Rattle.header_slots.proofs.Broken.{broken_seen}
pub use Rattle.header_slots.proofs.Counting.{counts_before, is_number, one_each}
pub use Rattle.header_slots.proofs.Publishing.{header_commits_nothing}
pub use Rattle.header_slots.specs.Committed.{IsPair, IsRefused}
pub use Rattle.header_slots.specs.Publish.{OthersStay}
pub use Rattle.header_slots.specs.Slots.{Counts, IsCommitted, Opens, Slots}
pub use Rattle.header_slots.specs.declared.deciding.NotCommitted.TheVariants.{NoPair}
pub use Rattle.home_ranges.proofs.FrameSlots.{frame_slot_entry}
pub use Rattle.home_ranges.proofs.Places.{one_range, places_apart, places_begin, places_spare_log, places_within}
pub use Rattle.home_ranges.specs.Laws.{home_extent}
pub use Rattle.layout.proofs.Blanked.{blanked_page}
pub use Rattle.layout.proofs.Blocks.{page_whole}
pub use Rattle.layout.proofs.Denoted.{frames_not_bad}
pub use Rattle.layout.proofs.Extents.{range_at}
pub use Rattle.layout.proofs.Halves.{apart_inside, apart_turned, itself}
pub use Rattle.layout.proofs.Images.{one_state}
pub use Rattle.layout.proofs.NumberedGates.{bursts_keep, closed_has_none, one_number, written_has}
pub use Rattle.layout.proofs.Numbers.{length-zeros, stream}
pub use Rattle.layout.proofs.Roots.{one_old_sector, one_old_unit}
pub use Rattle.layout.proofs.SealedDeciding.{sound_or_not}
pub use Rattle.layout.proofs.SealedSectors.{length_sealed, length_sector, length_words, one_sector}
pub use Rattle.layout.proofs.SealedSlots.{are_slots, one_commits, one_slots, opens_in, same_gate, same_option, same_slot, slots_in}
pub use Rattle.layout.proofs.SealedSpelling.{clusters_show, sectors_show, superblocks_show}
pub use Rattle.layout.proofs.SealedZeros.{zeros_free}
pub use Rattle.layout.proofs.Sectors.{one_from, same_sectors}
pub use Rattle.layout.proofs.Superblocks.{eight_ranges, end_of, few_versions, front_long, magic, numbers_of, one_plan, plan_stream, second_of}
pub use Rattle.layout.proofs.Superblocks.{superblock_sealed}
unfoldable pub use Rattle.layout.specs.Bytes.{half_number, number, short_number, zeros}
unfoldable pub use Rattle.layout.specs.Capability.{capability_bytes, head_bytes}
pub use Rattle.layout.specs.Committed.{CommitsIf, CommitsNoneIf, HasNoCounting, no_sums}
pub use Rattle.layout.specs.Denoted.{AreEntriesIf, Encodes, HasBadDirectory, HasBadHeader, HasDirectory, HasHeader, HasPlan, IsBadBy, IsTooSmall, SavedState}
pub use Rattle.layout.specs.Denoted.{sums_if}
pub use Rattle.layout.specs.Directory.{IsDirectory, IsEntry, entry_at}
pub use Rattle.layout.specs.Frame.{IsFrameOf, frame_bytes}
unfoldable pub use Rattle.layout.specs.Frame.{front_bytes, node_frame_bytes, page_frame_bytes, slots_bytes, words_bytes}
pub use Rattle.layout.specs.Homes.{home_place, place_by, place_in, place_length, range_with, rank_in}
pub use Rattle.layout.specs.Image.{directory_sector, frame_in, frame_sector, frame_slot_in, half_sector, sector_or, slot_beside, slot_by, slot_sector, total_in}
unfoldable pub use Rattle.layout.specs.Image.{sectors_from}
pub use Rattle.layout.specs.Shape.{node_shape, page_shape, shape_bytes, shape_length}
unfoldable pub use Rattle.layout.specs.Shape.{blanked}
pub use Rattle.layout.specs.Spelt.{count_of}
pub use Rattle.layout.specs.Superblock.{AreApart, Cover, HasEnd, HasMark, IsApart, IsInside, IsPlan, IsWithin, MayBegin, Plan, extents, half_extent}
pub use Rattle.layout.specs.Superblock.{range_bytes, sector_with, version_number}
unfoldable pub use Rattle.layout.specs.Superblock.{half_length, ranges_bytes, superblock_bytes, superblock_front}
pub use Rattle.layout.specs.Version.{row}
unfoldable pub use Rattle.layout.specs.Version.{directory_length}
pub use Rattle.layout.specs.declared.bad_image.BadImage.{BadImage}
pub use Rattle.layout.specs.declared.bad_image.BadImage.TheVariants.{BadDirectory, BadFrame}
pub use Rattle.layout.specs.declared.directory.Entry.{Entry}
pub use Rattle.layout.specs.declared.extent.Extent.{Extent}
pub use Rattle.layout.specs.declared.extent.HomeRange.{HomeRange}
pub use Rattle.layout.specs.declared.header.CheckpointHeader.{CheckpointHeader}
pub use Rattle.layout.specs.declared.sealed.header.SealedHeader.{SealedHeader}
pub use Rattle.layout.specs.declared.sealed.page.PageHeader.{PageHeader}
pub use Rattle.layout.specs.declared.shape.Shape.{Shape}
pub use Rattle.layout.specs.declared.version.Version.{Version}
pub use Rattle.layout.specs.declared.version.Version.TheVariants.{One, Three, Two}
pub use Rattle.layout.specs.sealed.Cluster.{IsCluster}
pub use Rattle.layout.specs.sealed.Directory.{AreEntries, entry_numbers, piece, seals_of, sums_of_entries}
unfoldable pub use Rattle.layout.specs.sealed.Directory.{entries_bytes}
pub use Rattle.layout.specs.sealed.Gate.{HasNumber, copies}
unfoldable pub use Rattle.layout.specs.sealed.Gate.{gate_numbers, numbered_gate_bytes}
pub use Rattle.layout.specs.sealed.Header.{header_numbers}
unfoldable pub use Rattle.layout.specs.sealed.Header.{sealed_header_bytes}
pub use Rattle.layout.specs.sealed.Opening.{Commits, IsSound, gate_sector, header_sector}
pub use Rattle.layout.specs.sealed.Page.{page_header_from, page_header_numbers}
unfoldable pub use Rattle.layout.specs.sealed.Page.{page_header_bytes}
pub use Rattle.layout.specs.sealed.Root.{Unit, units_total}
unfoldable pub use Rattle.layout.specs.sealed.Root.{directory_sums, root_of}
pub use Rattle.layout.specs.sealed.RootLaws.{unit_of}
pub use Rattle.layout.specs.sealed.Sector.{AreWords, seal_in}
unfoldable pub use Rattle.layout.specs.sealed.Sector.{sector_bytes, with_seal}
pub use Rattle.layout.specs.sealed.Summed.{IsSummed}
pub use Rattle.layout.specs.sealed.Units.{HasUnits, begins_unit, block_in, cluster_count, unit_bytes, unit_in}
pub use Rattle.model.specs.Frame.{blank_frame, blank_header, frame_at}
pub use Rattle.model.specs.Keepable.{IsKeepable}
unfoldable pub use Rattle.model.specs.Object.{zero_words}
pub use Rattle.model.specs.declared.geometry.Geometry.{Geometry}
pub use Rattle.seal.proofs.Bursts.{are_bytes, bursts_change, same_byte}
pub use Rattle.seal.proofs.Damaged.{body_row, bursts_break, length_body, row_words, sums_small, zeros_sealed}
pub use Rattle.seal.proofs.Numbers.{number_there}
pub use Rattle.seal.proofs.Spelled.{one_spelling, zero_bytes}
pub use Rattle.seal.proofs.Weights.{same_sums}
pub use Rattle.seal.specs.Damage.{DifferInBurst, IsRow, row_bit}
pub use Rattle.seal.specs.Seal.{body_of, seal_of}
pub use Rattle.seal.specs.Sums.{Fit, weighted}
unfoldable pub use Rattle.seal.specs.Sums.{numbers, sums_bytes, sums_of}
pub use Rattle.seal.specs.declared.sums.Sums.{Sums}
pub use Rattle.std.proofs.Common.{Bool, List, None, Option, Some, [], ap, arith, drop, false, get_or, inl, inr, length, refl, replicate, subst, suc, sym, take}
pub use Rattle.std.proofs.Common.{true, zero, ℕ}
pub use Rattle.std.proofs.Math.Nat.{mul-zero}
pub use Rattle.std.proofs.lemmas.Bool.{cases_Bool, cases_eq, cases_lt, eq-eqb, le-ltb, lt-ltb}
pub use Rattle.std.proofs.lemmas.Bool.Decides.{nat_tests}
pub use Rattle.std.proofs.lemmas.List.{append_assoc, drop-drop, drop-replicate, drop_at, get_or-append_right, get_or-drop, get_or-replicate, get_or-take}
pub use Rattle.std.proofs.lemmas.List.{get_or_append_left, get_or_default, get_or_past, length-append, length-drop, length-replicate}
pub use Rattle.std.proofs.lemmas.List.{replicate-append-replicate, same_lists, take-replicate, take_at}
pub use Rattle.std.proofs.lemmas.List.Elements.{All-append, All-cons, All-from_get_or, All-get_or, All-nil, All-replicate, All-take}
pub use Rattle.std.proofs.lemmas.Option.{same_Some}
pub use Rattle.std.proofs.lemmas.Slice.{between_is}
pub use Rattle.std.specs.Int.{bit_at}
pub use Rattle.std.specs.List.{All, between, flat_map, range_with_len}
pub use Rattle.std.specs.Prelude.{IsTrue, nat_lt}
pub use Rattle.damage_laws.specs.Changed.{IsChanged, IsInWords, OtherEntriesAreRefused, OtherUnitIsRefused, OtherWordsAreRefused, entry_sector, seal_at}
pub use Rattle.damage_laws.specs.Changed.{words_at}
pub use Rattle.damage_laws.specs.Damage.{DamageShows, IsCounted, IsDamaged, IsGood, IsInBlock, IsInBlockOf, IsInDirectory, IsRead, IsReason}
pub use Rattle.damage_laws.specs.Example.{ExampleIsGood, example, example_header, example_plan, example_state}
pub use Rattle.damage_laws.specs.Gates.{HasWholeGate}
pub use Rattle.damage_laws.specs.Laws.{DamageChangesNothing, DamageElsewhereIsHarmless, DamageIsHarmlessOrRefused, DamageIsRefused, GatesAreNotRead}
pub use Rattle.damage_laws.specs.Laws.{RefusedEncodesNone}
