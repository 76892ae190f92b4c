-- The names that the proofs here cite: of other crates, and of the definitions of this one.
pub use Rattle.device.proofs.Images.{agrees_is, elsewhere_on, elsewhere_same}
pub use Rattle.device.proofs.Moments.{CountsNow, OnlyNow, ends, leaves_on, leaves_weaker}
pub use Rattle.device.specs.Calls.{Agrees, AreSectors, Elsewhere, Narrows, sectors_of}
pub use Rattle.device.specs.Disk.{Disk, Image}
pub use Rattle.device.specs.Moments.{Elapses, LeavesOnly, Peeks}
pub use Rattle.layout.proofs.Directories.{directory_fits, one_directory}
pub use Rattle.layout.proofs.Halves.{half_apart, half_lies, half_within}
pub use Rattle.layout.proofs.Headers.{one_more, six}
pub use Rattle.layout.proofs.Images.{one_frame}
pub use Rattle.layout.proofs.Sectors.{one_from, same_sectors}
pub use Rattle.layout.proofs.Shapes.{few_sectors, same_shaped}
pub use Rattle.layout.proofs.Versions.{fewer_entries, half_has, no_sectors}
unfoldable pub use Rattle.layout.specs.Bytes.{number, number_from, zeros}
pub use Rattle.layout.specs.Directory.{IsDirectory}
unfoldable pub use Rattle.layout.specs.Directory.{directory_bytes}
pub use Rattle.layout.specs.Frame.{IsFrameOf, frame_bytes}
pub use Rattle.layout.specs.Frames.{IsRefused}
pub use Rattle.layout.specs.Gate.{gate_bytes, is_open}
pub use Rattle.layout.specs.Header.{IsHeader}
unfoldable pub use Rattle.layout.specs.Header.{header_bytes}
pub use Rattle.layout.specs.Homes.{place_length, shape_of}
pub use Rattle.layout.specs.Image.{directory_in, directory_sector}
pub use Rattle.layout.specs.Committed.{Commits, CommitsIf, CommitsUnsealed, committed_bytes, committed_of, committed_slot}
pub use Rattle.layout.specs.Denoted.{AreEntriesIf, Encodes, HasDirectory, SavedState}
pub use Rattle.layout.specs.Image.{frame_sector, frame_slot_in, half_sector, sector_or, slot_sector}
pub use Rattle.layout.specs.Committed.{does_count, option_at, sequence_in}
unfoldable pub use Rattle.layout.specs.Image.{sectors_from}
pub use Rattle.layout.specs.Superblock.{IsPlan, Plan}
unfoldable pub use Rattle.layout.specs.Version.{directory_length}
pub use Rattle.layout.specs.declared.directory.Entry.{Entry}
pub use Rattle.layout.specs.declared.gate.Gate.TheVariants.{Closed, Open}
pub use Rattle.layout.specs.declared.header.CheckpointHeader.{CheckpointHeader}
pub use Rattle.layout.specs.declared.open_fault.OpenFault.{OpenFault}
pub use Rattle.layout.specs.declared.open_fault.OpenFault.TheVariants.{Bad, Failed, NoMemory}
pub use Rattle.layout.specs.declared.version.Version.{Version}
pub use Rattle.layout.specs.declared.sealed.header.SealedHeader.{SealedHeader}
pub use Rattle.layout.specs.Version.{row}
pub use Rattle.layout.specs.sealed.Units.{HasUnits}
pub use Rattle.seal.specs.declared.sums.Sums.{Sums}
pub use Rattle.model.specs.Frame.{frame_at}
pub use Rattle.model.specs.declared.frame.Frame.{Frame}
pub use Rattle.model.specs.declared.geometry.Geometry.{Geometry}
pub use Rattle.std.proofs.Common.{Bool, List, Option, Some, [], ap, arith, drop, false, inl, length, length-take-le, refl, replicate, rules, subst, suc, sym}
pub use Rattle.std.proofs.Common.{None, get_or, nat_lt, take, true, zero, ℕ}
pub use Rattle.std.specs.List.{flat_map, range_with_len}
pub use Rattle.std.proofs.Math.Seq.{take-append_seam}
pub use Rattle.std.proofs.lemmas.Bool.{and_from, and_parts, eq-eqb, eqb-true}
pub use Rattle.std.proofs.lemmas.Bool.Decides.{nat_tests}
pub use Rattle.std.proofs.lemmas.List.{drop-replicate, take-replicate, take_all}
pub use Rattle.std.proofs.lemmas.Nat.{from_le_bytes-to_le_bytes_8}
pub use Rattle.std.proofs.lemmas.Result.{err_from_is_err_and, on_ok_weaker}
pub use Rattle.std.specs.Int.{from_le_bytes, w64}
pub use Rattle.std.specs.Prelude.{codes, cond}
pub use Rattle.ckpt_log.specs.Closing.{AreClosed, IsLesser, KeepsOrHasNone, WasKeptOrHasNone}
pub use Rattle.ckpt_log.specs.Commit.{CommitsOne, HasNew, IsInOrder, IsInOrderAfter, IsOld, IsOldOrNew, KeepsHeader, Precedes, closed_gate, gate_sector}
pub use Rattle.ckpt_log.specs.Commit.{header_sector}
pub use Rattle.ckpt_log.specs.CommitLaws.{FramesAreBehind, HomesAreBehind, IsReady, NewIsDenoted, OldIsDenoted}
pub use Rattle.ckpt_log.specs.HeaderLaws.{HeadersSpareDirectories, HeadersSpareFrames, HeadersSpareSectors, HeadersSpareSlots, NextFollows}
pub use Rattle.ckpt_log.specs.HeaderLaws.{SequencesAreReported}
pub use Rattle.ckpt_log.specs.HeaderSlot.{gate_at, header_at, other_slot, slot_number}
pub use Rattle.ckpt_log.specs.AnyVersion.{SparesRest, header_place}
pub use Rattle.ckpt_log.specs.Places.{DirectoriesAreInside, FramesAreInSlots, HalvesAreApart, HalvesAreWithin, SlotsAreApart, SlotsAreInside}
pub use Rattle.ckpt_log.specs.Places.{SlotsSpareDirectories}
pub use Rattle.ckpt_log.specs.SavedSectors.{SameBlocks, SameDirectory, SameFrames, SameFrom, SameHeader, SameOpening, SameSaved, SameUnits, SameWhereRead}
pub use Rattle.ckpt_log.specs.Slot.{DirectoriesAreReadBack, IsBadDirectory, SlotsAreReadBack}
pub use Rattle.ckpt_log.specs.declared.header_slot.HeaderSlot.{HeaderSlot}
