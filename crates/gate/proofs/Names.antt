-- The names that the proofs here cite: of other crates, and of the definitions of this one.
pub use Rattle.capability.proofs.FrameLists.{annex_used, bank_used, content_there, headers_in, known_used, length_objects, node_used, page_used, process_known}
pub use Rattle.capability.proofs.FrameLists.{root_used}
pub use Rattle.capability.proofs.Keeping.{keepable_count, keepable_later, keepable_roles}
pub use Rattle.capability.proofs.KindNumbers.{bank_number, node_number, page_number, root_number}
pub use Rattle.capability.proofs.SnapshotLaws.{keeps_twice}
pub use Rattle.capability.specs.Changes.{changed, message_of, outcome_by, target_of, written_of}
pub use Rattle.capability.specs.Objects.{with_message}
pub use Rattle.capability.specs.Parts.{AreSound, AreSameUnlessFailed, FetchesOrFails, IsUnprepared, Parts, Prepares, Renews, frames_of, objects_in}
pub use Rattle.capability.specs.Parts.{touched_too}
pub use Rattle.capability.specs.declared.order.BankChange.{BankChange}
pub use Rattle.capability.specs.declared.order.Caller.{Caller}
pub use Rattle.capability.specs.declared.order.Change.{Change}
pub use Rattle.capability.specs.declared.order.OrderPlan.{OrderPlan}
pub use Rattle.capability.specs.declared.order.Reply.{Reply}
pub use Rattle.device.specs.declared.device.Failed.{Failed}
unfoldable pub use Rattle.model.specs.Banking.{on_bank}
pub use Rattle.model.specs.Capability.{named}
pub use Rattle.model.specs.Frame.{blank_frame, conveyed, current_count, frame_at, header_at, headers, held_at}
unfoldable pub use Rattle.model.specs.Frame.{objects_of}
pub use Rattle.model.specs.Invoke.{Effect, after_gate, can_start, ordered, sent_by}
unfoldable pub use Rattle.model.specs.Invoke.{deliver, invoke, on_kernel_object, through_gate}
pub use Rattle.model.specs.Keepable.{AreCurrent, AreKeepable, IsCount, IsKeptCap, IsNodeNumber, IsSoundFrames, world_at}
pub use Rattle.model.specs.Machine.{touched_count, touching}
pub use Rattle.model.specs.Object.{free, is_annex, is_bank, is_free, is_node, is_root, is_running, map_content, root_in, with_slot_in, with_word_in}
pub use Rattle.model.specs.Order.{IsNoBankOrder, bank_order, node_order, with_root_word, with_space}
unfoldable pub use Rattle.model.specs.Order.{on_node, on_page, order}
pub use Rattle.model.specs.OrderOutcome.{OrderOutcome, refused}
pub use Rattle.model.specs.Revoke.{resumes, void_where, without}
unfoldable pub use Rattle.model.specs.Revoke.{consume}
pub use Rattle.model.specs.Sound.{IsOfKind, IsSound, MayBeHeld, NamesItsKind, object_count}
pub use Rattle.model.specs.Text.{Fits}
pub use Rattle.model.specs.World.{World, annex_at, content_at, is_process, is_running_process, register_at, root_at, slot_at, with_slots_from}
unfoldable pub use Rattle.model.specs.World.{with_content, with_root, with_slot, with_state, with_word}
pub use Rattle.model.specs.declared.access.Access.{Access}
pub use Rattle.model.specs.declared.answer.Refusal.{Refusal}
pub use Rattle.model.specs.declared.capability.Cap.{Cap}
pub use Rattle.model.specs.declared.capability.Capability.{Capability}
pub use Rattle.model.specs.declared.capability.Capability.TheVariants.{Bank, Node, Page, Resume, Start, Void}
pub use Rattle.model.specs.declared.command.Invocation.{Invocation}
pub use Rattle.model.specs.declared.command.Message.{Message}
pub use Rattle.model.specs.declared.command.Operation.{Operation}
pub use Rattle.model.specs.declared.command.Operation.TheVariants.{Call, Return, Send}
pub use Rattle.model.specs.declared.frame.Frame.{Frame}
pub use Rattle.model.specs.declared.frame.ObjectHeader.{ObjectHeader}
pub use Rattle.model.specs.declared.geometry.Geometry.{Geometry}
pub use Rattle.model.specs.declared.object.Content.{Content}
pub use Rattle.model.specs.declared.object.Object.{Object}
pub use Rattle.model.specs.declared.object.State.{State}
pub use Rattle.model.specs.declared.object.State.TheVariants.{Available}
pub use Rattle.model.specs.declared.order.Arguments.{Arguments}
pub use Rattle.model.specs.declared.order.BankOrder.{BankOrder}
pub use Rattle.model.specs.declared.order.NodeOrder.{NodeOrder}
pub use Rattle.model.specs.declared.order.PageOrder.{PageOrder}
pub use Rattle.model.specs.declared.order.ResultCode.{ResultCode}
pub use Rattle.model_laws.proofs.BankFreed.{used_within}
pub use Rattle.model_laws.proofs.BankWrites.{annex_kept, written_within}
pub use Rattle.model_laws.proofs.InvocationFrame.{deliver_frame, invocation_frame, root_frame, set_frame, slot_frame, state_frame, state_sound, word_frame}
pub use Rattle.model_laws.proofs.SoundGates.{all_words, held_sent, invocation_keeps, ordered_keeps}
pub use Rattle.model_laws.proofs.SoundObjects.{order_keeps}
pub use Rattle.model_laws.proofs.SoundOrders.{AreArguments, IsNow}
pub use Rattle.model_laws.proofs.SoundParts.{IsHeld, Waits, held_to, held_void, nearly_from}
pub use Rattle.model_laws.proofs.Usage.{SameFrame, frame_refl, tests_at, usage_same}
pub use Rattle.space_bank.proofs.Missing.{counted_listed}
pub use Rattle.space_bank.proofs.Renewing.{SameAllocations, SameFree, renews_after, renews_none, renews_then, snapshots_alone}
pub use Rattle.space_bank.specs.Allocating.{numbers_of}
pub use Rattle.space_bank.specs.Banks.{AreCounted, BanksState, MayAsk}
pub use Rattle.space_bank.specs.Carrying.{IsForBank, MayMake, PlansAs}
pub use Rattle.space_bank.specs.Planning.{writer_count, writers}
pub use Rattle.std.proofs.Common.{Bool, Err, List, None, Ok, Option, Result, Some, [], ap, arith, drop, false, get_or, length, refl, rules, subst, suc, sym}
pub use Rattle.std.proofs.Common.{true, zero, ℕ}
pub use Rattle.std.proofs.Math.ListN.{get_or-map}
pub use Rattle.std.proofs.Math.Seq.{map-set_same}
pub use Rattle.std.proofs.lemmas.Bool.Decides.{nat_tests}
pub use Rattle.std.proofs.lemmas.List.Elements.{All-drop, All-map, All-set}
pub use Rattle.std.proofs.lemmas.Result.{err_from_is_err_and}
pub use Rattle.std.specs.List.{All, Contains}
pub use Rattle.std.specs.Option.{option_to_list}
pub use Rattle.std.specs.Prelude.{IfOk, IsErr, IsErrOf, IsTrue, OnErr, OnOk, slice_index, slice_index_or, slice_set}
pub use Rattle.gate.specs.Invoke.{Invoked, Invokes, IsKernelObject, IsOfGate, IsRequested, KeepsSoundFrames, Overfills, entered, gate_capability, received}
pub use Rattle.gate.specs.Invoke.{result_code, written_through}
pub use Rattle.gate.specs.Ordering.{AreEnough, IsPlanned, Plans, ReadsOnlyWords, answered, arguments_of, finished, ordered_by, state_before}
pub use Rattle.gate.specs.Plan.{ChangesAs, FitsCap, HaveAnnexesOf, IsFor, IsOfProcess, IsWithinObject, MayChange, MayEdit, MayHold, fetched_of, node_named}
pub use Rattle.gate.specs.Plan.{outcome_of, process_named}
pub use Rattle.gate.specs.declared.gates.Gate.{Gate}
