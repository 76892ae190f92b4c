-- The names that the proofs here cite: of other crates, and of the definitions of this one.
pub use Rattle.capability.proofs.FrameLists.{frame_in, headers_in, length_in}
pub use Rattle.capability.proofs.Keeping.{keepable_roles}
pub use Rattle.capability.proofs.Mapped.{kind_map, mapped}
pub use Rattle.capability.proofs.References.{not_annex, not_node, not_root}
pub use Rattle.capability.proofs.SnapshotLaws.{only_reads_twice}
pub use Rattle.capability.proofs.Untouched.{untouched_count}
pub use Rattle.capability.specs.Consistency.{AreBanked, AreLimited, AreNamed, AreOwned, AreWholeProcesses, IsNamed, IsRootOf, NamesItsRole, annex_in}
pub use Rattle.capability.specs.Consistency.{is_waiting_root, owner_of, role_at}
pub use Rattle.capability.specs.Parts.{HaveTheirRoles, OnlyFetches, Parts, frames_of, objects_in}
pub use Rattle.checkpoint.specs.Opened.{OnlyReads}
pub use Rattle.checkpoint.specs.Saved.{Holds, SavedFrames, kept_of}
pub use Rattle.checkpoint.specs.Snapshots.{Snapshots}
pub use Rattle.checkpoint.specs.Store.{Continues, FrozenFrames, OpensStore, View}
pub use Rattle.device.proofs.Moments.{CountsNow, ends}
pub use Rattle.device.specs.Calls.{Only}
pub use Rattle.device.specs.Disk.{Disk, Image}
pub use Rattle.device.specs.Moments.{Peeks}
pub use Rattle.layout.proofs.Denoted.{frames_not_bad}
pub use Rattle.layout.proofs.Images.{one_state}
pub use Rattle.layout.proofs.Totals.{total_reported}
pub use Rattle.layout.specs.Denoted.{Encodes, HasDirectory, HasHeader, HasPlan, IsBadBy, IsTooSmall, SavedState}
pub use Rattle.layout.specs.Frame.{IsFrameOf}
pub use Rattle.layout.specs.Image.{total_in}
pub use Rattle.layout.specs.Superblock.{HasMark, IsPlan, Plan}
unfoldable pub use Rattle.layout.specs.Superblock.{superblock_bytes}
pub use Rattle.layout.specs.Version.{row}
pub use Rattle.layout.specs.declared.bad_image.BadImage.{BadImage}
pub use Rattle.layout.specs.declared.bad_image.BadImage.TheVariants.{BadBank, BadCapability, BadProcess}
pub use Rattle.layout.specs.declared.directory.Entry.{Entry}
pub use Rattle.layout.specs.declared.header.CheckpointHeader.{CheckpointHeader}
pub use Rattle.layout.specs.declared.open_fault.OpenFault.{OpenFault}
pub use Rattle.layout.specs.declared.sealed.header.SealedHeader.{SealedHeader}
pub use Rattle.layout.specs.sealed.Units.{HasUnits}
unfoldable pub use Rattle.model.specs.Bank.{chain, usage}
pub use Rattle.model.specs.Capability.{IsWellFormed}
pub use Rattle.model.specs.Frame.{blank_frame, conveyed, current_count, frame_at, header_at, headers, held_at, object_of, void_held}
unfoldable pub use Rattle.model.specs.Frame.{objects_of}
pub use Rattle.model.specs.Keepable.{AreKeepable, Follows, IsKeepable, IsKeptCap, IsSoundFrames, MayBeKept, caps_in}
pub use Rattle.model.specs.Machine.{Saved, opened, touched_count}
unfoldable pub use Rattle.model.specs.Machine.{untouched}
pub use Rattle.model.specs.Object.{is_annex, is_bank, is_free, is_node, is_page, is_root, is_waiting, limit_in, map_content, role_number, role_of, root_in}
pub use Rattle.model.specs.Object.{slots_in}
pub use Rattle.model.specs.Sound.{IsSound, IsSpace, MayBeHeld, NamesItsKind}
pub use Rattle.model.specs.World.{annex_at, content_at, is_process, owner_at, root_at}
pub use Rattle.model.specs.declared.capability.Cap.{Cap}
pub use Rattle.model.specs.declared.capability.Capability.{Capability}
pub use Rattle.model.specs.declared.capability.Capability.TheVariants.{Void}
pub use Rattle.model.specs.declared.frame.Frame.{Frame}
pub use Rattle.model.specs.declared.frame.ObjectHeader.{ObjectHeader}
pub use Rattle.model.specs.declared.geometry.Geometry.{Geometry}
pub use Rattle.model.specs.declared.object.Content.{Content}
pub use Rattle.model.specs.declared.object.Object.{Object}
pub use Rattle.model.specs.declared.object.Role.{Role}
pub use Rattle.model.specs.declared.object.Root.{Root}
pub use Rattle.model_laws.proofs.BankTree.{IsTree}
pub use Rattle.model_laws.proofs.SoundParts.{IsFilled, IsFramed, IsHeld, Waits, held_from, held_void, nearly_to}
pub use Rattle.space_bank.proofs.Renewing.{unrisen}
pub use Rattle.space_bank.specs.Banks.{AreCounted, BanksState}
pub use Rattle.std.proofs.Common.{Bool, List, None, Option, Some, [], ap, arith, false, inl, inr, length, map, not, refl, replicate, rules, slice_index}
pub use Rattle.std.proofs.Common.{slice_index_or, subst, suc, sym, true, vec_len, zero, ℕ, ⊎_elim}
pub use Rattle.std.proofs.Math.ListN.{get_or-map}
pub use Rattle.std.proofs.lemmas.Bool.{cases_lt, eq-eqb, eqb-true, false≢true, or_right}
pub use Rattle.std.proofs.lemmas.Bool.Decides.{nat_tests}
pub use Rattle.std.proofs.lemmas.List.{ext_get_or, get_or-replicate, get_or-set_other, get_or-set_same, get_or_default, get_or_past, length-map}
pub use Rattle.std.proofs.lemmas.List.{length-replicate}
pub use Rattle.std.proofs.lemmas.List.Elements.{All-from_get_or}
pub use Rattle.std.proofs.lemmas.List.FromFn.{get_or-map-range_with_len, length-map-range_with_len}
pub use Rattle.std.proofs.lemmas.Map.Views.{Contains-from_any}
pub use Rattle.std.specs.List.{All, Contains, list_any, range_with_len}
pub use Rattle.std.specs.Prelude.{Err, IsErrOf, IsTrue, MatchOption, Result, nat_eq, nat_lt}
pub use Rattle.std.specs.Vec.{vec_capacity}
pub use Rattle.recovery.specs.Consistency.{AllBefore, IsAboveLimit, IsInconsistent, IsOwnedAt, IsUnbanked, Tells}
pub use Rattle.recovery.specs.ConsistencyLaws.{ConsistentIsSound, InconsistentIsUnsound}
pub use Rattle.recovery.specs.Denotes.{Denotes, DenotesOne, IsSoundSaved, Leaves, saved_of}
pub use Rattle.recovery.specs.Laws.{DenoteOneSaved, DenotedIsNotBad, DenotedIsOneOf, DenotedIsSound, NotBadIsDenoted}
pub use Rattle.recovery.specs.Live.{AreSoundTogether, base_of, running}
unfoldable pub use Rattle.recovery.specs.Live.{renewed_since}
pub use Rattle.recovery.specs.Noted.{AreNoted, AreTaken, IsTaking, is_taken, note_at, noted_in}
pub use Rattle.recovery.specs.Recovered.{IsBad, IsWhy, Recovers, RefusesToOpen}
pub use Rattle.recovery.specs.declared.consistency.processes.Noted.{Noted}
pub use Rattle.recovery.specs.declared.consistency.reason.Unbanked.{Unbanked}
pub use Rattle.recovery.specs.declared.live.Live.{Live}
