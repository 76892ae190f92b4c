-- The names that the proofs here import: from other crates, and from the definitions of this one.
pub use Rattle.capability.specs.Parts.{Parts}
pub use Rattle.checkpoint.specs.Store.{View}
pub use Rattle.core.proofs.alloc.Calls.{Goes-blank, handle_tells, token, α}
pub use Rattle.device.proofs.Moments.{leaves_weaker}
pub use Rattle.device.specs.Calls.{Agrees, image_of, sectors_of}
pub use Rattle.device.specs.Disk.{Disk, Image}
pub use Rattle.devices.specs.Past.{Event, MayLeave, at_first, replay}
pub use Rattle.kernel.specs.Opening.{IsSetAt, Opens}
pub use Rattle.kernel.specs.Power.{Power}
pub use Rattle.kernel.specs.Standing.{HasCode, IsCaused, IsDeviceOf, Serves, Stands, disk_of}
pub use Rattle.kernel.specs.declared.processes.served.Served.{Served}
pub use Rattle.layout.specs.declared.open_fault.OpenFault.{OpenFault}
pub use Rattle.model.specs.Machine.{Machine, Saved, candidates}
pub use Rattle.model.specs.Run.{IsRun, Reported, Turn}
pub use Rattle.model.specs.Step.{second, takes_memory}
pub use Rattle.model.specs.Text.{Fits}
unfoldable pub use Rattle.model.specs.Text.{spelling}
pub use Rattle.model.specs.declared.answer.Answer.{Answer}
pub use Rattle.model.specs.declared.answer.MemoryFault.{MemoryFault}
pub use Rattle.model.specs.declared.answer.Refusal.{Refusal}
pub use Rattle.model.specs.declared.answer.Unjournaled.TheVariants.{NotPage, Renewed}
pub use Rattle.model.specs.declared.command.Command.{Command}
pub use Rattle.model.specs.declared.geometry.Geometry.{Geometry}
pub use Rattle.model.specs.declared.order.ResultCode.{ResultCode}
pub use Rattle.object_cache.specs.StoreState.{HasCapacity, StoreState, parts_of, view_of}
pub use Rattle.recovery.specs.Denotes.{Denotes, DenotesOne}
pub use Rattle.recovery.specs.Recovered.{RefusesToOpen}
pub use Rattle.runs.specs.KernelRuns.{AreTurnsOf, IsConfined, IsCounted, IsLeftIn, IsReportedBy, IsRunOf, IsTurnOf, RunsOver}
pub use Rattle.runs.specs.Laws.{CrashesInRunsAreSurvived}
pub use Rattle.script.specs.Writing.{Written}
pub use Rattle.script.specs.declared.fault.RunFault.{RunFault}
pub use Rattle.std.proofs.Common.{Bool, Err, Global, List, None, Ok, Option, Some, Vec, [], ap, append-nil, append_assoc, arith, below_more, drop, false, inl}
pub use Rattle.std.proofs.Common.{inr, length, length-append, map, refl, rules, slice_index_or, subst, suc, sym, take, true, zero, ℕ, ⊎_elim}
pub use Rattle.std.proofs.Math.Seq.{take-append_seam}
pub use Rattle.std.proofs.lemmas.Bool.Decides.{nat_tests}
pub use Rattle.std.proofs.lemmas.List.{drop-drop, drop-set-lt, drop_all, get_or-set_other, get_or-set_same, length-map, length-set, take-append-drop, take_more}
pub use Rattle.std.proofs.lemmas.List.{take_more_set}
pub use Rattle.std.proofs.lemmas.List.Concat.{flat_map-append}
pub use Rattle.std.specs.List.{Contains}
pub use Rattle.std.specs.Prelude.{IfErr, IfNone, IfSome, IsErrOf, IsSome, Result, nat_lt, slice_set}
pub use Rattle.std_alloc.proofs.BoxSteps.Form.{B, Bx, D, P, R, args, box_ty, box_typed, word, τ}
pub use Rattle.std_alloc.proofs.BoxSteps.Steps.{box_in, box_out}
pub use Rattle.std_alloc.proofs.ResultValues.{and_tt}
pub use Rattle.std_alloc.specs.Box.Ownership.{box_owns}
pub use Rattle.std_heap.specs.contracts.GlobalAllocator.TheImpl.{dict, ghosts}
pub use Rattle.vezhnake.specs.HostCalls.{HostCall, StorageLeaves, encoded, events_by, events_of}
pub use Rattle.vezhnake.specs.Hosting.{HostDevice, IsFresh, RunsSurvive, RunsText, Survives, calls_beneath, host_disk, in_memory, start_beneath}
pub use Rattle.vezhnake.specs.RawCommands.{command_of, save_stages}
pub use Rattle.vezhnake.specs.RawObjects.{shown_object, shown_words}
pub use Rattle.vezhnake.specs.RawReplies.{RepliesTellAnswers, ShowsNone, is_refused, reply_of}
pub use Rattle.vezhnake.specs.Serving.{AreNumbered, EndsAt, ServesEach, ServesLine, numbers_of, refuses_at}
pub use Rattle.vezhnake.specs.Sessions.{ClosesHandle, CollectsCalls, CopiesOut, HasCache, IsCapacity, OnSession, OpensHandle, OpensKernel, OpensSession}
pub use Rattle.vezhnake.specs.Sessions.{RefusesFrom, RunsKernel, RunsSession, StepsSession, calls_in}
pub use Rattle.vezhnake.specs.Statuses.{kept_status, status_by, status_for}
pub use Rattle.vezhnake.specs.Steps.{fresh, stepped}
pub use Rattle.vezhnake.specs.TypedCalls.{SavesSession, ServesBatch, ServesEachOver, ServesFront, ServesLineOver, ServesOne, ShowsObject, ShowsPage}
pub use Rattle.vezhnake.specs.TypedCalls.{ShowsSession}
pub use Rattle.vezhnake.specs.declared.host_kernel.HostKernel.{HostKernel}
pub use Rattle.vezhnake.specs.declared.raw_command.RawCommand.{RawCommand}
pub use Rattle.vezhnake.specs.declared.raw_object.RawObject.{RawObject}
pub use Rattle.vezhnake.specs.declared.raw_reply.RawReply.{RawReply}
pub use Rattle.vezhnake.specs.declared.session.CallsFault.{CallsFault}
pub use Rattle.vezhnake.specs.declared.session.Session.{Session}
pub use Rattle.vezhnake.specs.declared.status.Status.{Status}
