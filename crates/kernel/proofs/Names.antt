-- The names that the proofs here import: from other crates, and from the definitions of this one.
pub use Rattle.address_space.specs.References.{IsLoaded, IsStored, KeepsSound, OverfillsStore}
pub use Rattle.capability.proofs.FrameLists.{at_set, frame_in, headers_in, process_known}
pub use Rattle.capability.proofs.Keeping.{keepable_count, keepable_later, keepable_roles}
pub use Rattle.capability.specs.Parts.{AreSameUnlessFailed, IsUnprepared, IsUnread, OnlyFetches, OnlyReads, Parts, Renews, frames_of, objects_in}
pub use Rattle.checkpoint.proofs.Lists.{maps_same}
pub use Rattle.checkpoint.specs.Journal.{is_page_now, is_page_role, is_still_saved, next_journaled, words_now}
pub use Rattle.checkpoint.specs.Refused.{IsCommitAnswer, IsFreezeAnswer, IsJournalAnswer, IsRefused, IsTurnedAway}
pub use Rattle.checkpoint.specs.Saved.{Holds, LeavesEither, LeavesOneOf, LeavesSaved, SavedFrames, home_saved, journaled_saved, most, with_words}
pub use Rattle.checkpoint.specs.Snapshots.{MayCommit, Snapshots, freezing, journaled, left_in, moved, moved_saved, next_saved}
pub use Rattle.checkpoint.specs.Store.{Continues, FrozenFrames, IsStabilizeAnswer, View, all_frozen, stabilized, whole}
pub use Rattle.device.proofs.Images.{agrees_is}
pub use Rattle.device.proofs.Moments.{CountsNow, OnlyNow, goes_on_cut, leaves_on, leaves_weaker, started}
pub use Rattle.device.specs.Calls.{Only}
pub use Rattle.device.specs.Disk.{Disk, Image}
pub use Rattle.device.specs.Moments.{Elapses}
pub use Rattle.device.specs.declared.device.Failed.{Failed}
pub use Rattle.gate.proofs.BankStates.{counted_on}
pub use Rattle.gate.proofs.Effects.{ok_no_failure}
pub use Rattle.gate.proofs.Standing.{annex_known, keepable_most}
pub use Rattle.gate.specs.Invoke.{Invoked, Invokes, KeepsSoundFrames, TellsState}
pub use Rattle.layout.specs.declared.open_fault.OpenFault.{OpenFault}
pub use Rattle.model.specs.Frame.{blank_frame, conveyed, frame_at, header_at, headers, held_at, object_of}
unfoldable pub use Rattle.model.specs.Frame.{frames_in, objects_of}
pub use Rattle.model.specs.Invoke.{Effect}
unfoldable pub use Rattle.model.specs.Invoke.{invoke}
pub use Rattle.model.specs.Keepable.{AreKeepable, AreKeptWords, IsCurrent, IsKeepable, IsSoundFrames, MayBeKept, caps_in, world_at}
pub use Rattle.model.specs.Machine.{Down, Frozen, Machine, Running, Saved, Up, candidates, opened, touched_count, touching}
unfoldable pub use Rattle.model.specs.Machine.{renewing, untouched}
pub use Rattle.model.specs.Object.{is_free, is_page, map_content, role_of, words_in}
pub use Rattle.model.specs.Revoke.{is_given_up}
pub use Rattle.model.specs.Sound.{IsOfKind, IsSound, object_count}
pub use Rattle.model.specs.Step.{Reopens, Step, at_home, committed, reached, second, shown, takes_memory, unjournaled, unless, writable, writing}
unfoldable pub use Rattle.model.specs.Step.{carried_out, refusal_of}
pub use Rattle.model.specs.World.{World, content_at, is_process, is_running_process, owner_at}
unfoldable pub use Rattle.model.specs.World.{with_content, with_word}
pub use Rattle.model.specs.declared.answer.Answer.{Answer}
pub use Rattle.model.specs.declared.answer.MemoryFault.{MemoryFault}
pub use Rattle.model.specs.declared.answer.Refusal.{Refusal}
pub use Rattle.model.specs.declared.answer.Unjournaled.TheVariants.{NotPage, Renewed}
pub use Rattle.model.specs.declared.capability.Cap.{Cap}
pub use Rattle.model.specs.declared.capability.Capability.{Capability}
pub use Rattle.model.specs.declared.command.Command.{Command}
pub use Rattle.model.specs.declared.command.Invocation.{Invocation}
pub use Rattle.model.specs.declared.frame.Frame.{Frame}
pub use Rattle.model.specs.declared.frame.ObjectHeader.{ObjectHeader}
pub use Rattle.model.specs.declared.geometry.Geometry.{Geometry}
pub use Rattle.model.specs.declared.object.Content.{Content}
pub use Rattle.model.specs.declared.object.Object.{Object}
pub use Rattle.model.specs.declared.object.Role.{Role}
pub use Rattle.model.specs.declared.order.ResultCode.{ResultCode}
pub use Rattle.model_laws.proofs.GivenUp.{none_given_up, none_in_frame, renewing_none}
pub use Rattle.model_laws.proofs.InvocationFrame.{word_frame}
pub use Rattle.model_laws.proofs.Journaling.{journal_keeps_sound}
pub use Rattle.model_laws.proofs.Stepping.{wants_memory_to_show}
pub use Rattle.model_laws.proofs.Usage.{SameFrame, frame_refl, tests_at}
pub use Rattle.recovery.proofs.Denoted.{denoted_by, leaves_saved, one_denoted, one_not_bad}
pub use Rattle.recovery.proofs.Renewed.{allocations_at, base_by, base_frozen, base_saved, none_renewed, renewed_at, renewed_length}
pub use Rattle.recovery.specs.Denotes.{DenotesOne, IsSoundSaved, Leaves, LeavesOne, saved_of}
pub use Rattle.recovery.specs.Live.{AreSoundTogether, IsSomeUp, IsSoundFrozen, IsUp, base_of, disk_at, frozen_of, running, running_of}
unfoldable pub use Rattle.recovery.specs.Live.{renewed_since}
pub use Rattle.recovery.specs.Recovered.{Recovers, RefusesToOpen}
pub use Rattle.recovery.specs.declared.live.Live.{Live}
pub use Rattle.space_bank.proofs.Renewing.{unrisen, one_all, renews_none}
pub use Rattle.space_bank.specs.Banks.{AreCounted, BanksState}
pub use Rattle.std.proofs.Common.{Bool, Err, List, None, Ok, Option, Result, Some, [], ap, append-nil, arith, false, inl, inr, length, length-set, map, not}
pub use Rattle.std.proofs.Common.{refl, set, subst, sym, true, ℕ, ⊎_elim}
pub use Rattle.std.proofs.Math.ListN.{get_or-map}
pub use Rattle.std.proofs.Math.Seq.{map-set_same}
pub use Rattle.std.proofs.lemmas.Bool.{ltb-false, ltb-true, ne_eqb}
pub use Rattle.std.proofs.lemmas.Bool.Decides.{nat_tests}
pub use Rattle.std.proofs.lemmas.List.{ext_get_or, get_or_past, map-set}
pub use Rattle.std.proofs.lemmas.List.Elements.{All-nil}
pub use Rattle.std.proofs.lemmas.List.FromFn.{get_or-map-range_with_len, length-map-range_with_len}
pub use Rattle.std.proofs.lemmas.Result.{err_from_is_err_and}
pub use Rattle.std.specs.List.{All, Contains, range_with_len}
pub use Rattle.std.specs.Prelude.{IfOk, IsErr, IsErrOf, nat_lt, option_map, slice_index_or}
pub use Rattle.kernel.specs.Machine.{IsEarly, MakesNoDeviceCall, Performs, answer_of, answer_with, code_with, machine_at, renewed_by}
pub use Rattle.kernel.specs.Opening.{IsNoReason, IsSomeDown, Opens, Reopened, refused_by}
pub use Rattle.kernel.specs.Power.{Power, power_of}
pub use Rattle.kernel.specs.Standing.{HasCode, IsCaused, IsDeviceOf, IsSomeMachine, Serves, ServesFrom, ServesUp, Stands, disk_of, done_with}
