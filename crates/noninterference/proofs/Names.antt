-- The names that the proofs here import: from other crates, and from the definitions of this one.
pub use Rattle.model.specs.Bank.{is_under}
unfoldable pub use Rattle.model.specs.Bank.{chain}
pub use Rattle.model.specs.Banking.{freed, freed_by, transferred}
unfoldable pub use Rattle.model.specs.Banking.{inherited, on_bank, owned_by, remaining, under}
pub use Rattle.model.specs.Capability.{access_bits, diminished, tag_of, union, weak}
pub use Rattle.model.specs.Invoke.{Effect, after_gate, after_order, can_start, is_return, ordered, replied, reply_of, sent_by, sent_to_gate}
unfoldable pub use Rattle.model.specs.Invoke.{deliver, invoke, on_kernel_object, through_gate}
pub use Rattle.model.specs.Machine.{Down, Machine, Saved, Up}
unfoldable pub use Rattle.model.specs.Machine.{renewing}
pub use Rattle.model.specs.Object.{free, is_available, is_bank, is_free, is_root, is_running, is_waiting, root_in, slots_in, state_number, with_slot_in}
pub use Rattle.model.specs.Object.{with_word_in, words_in}
unfoldable pub use Rattle.model.specs.Object.{all_slots}
pub use Rattle.model.specs.Order.{bank_order, fetched, is_space, node_order, page_order, process_order, reduces, stored, with_root_word, with_space}
unfoldable pub use Rattle.model.specs.Order.{on_node, on_page, on_process, order}
pub use Rattle.model.specs.OrderOutcome.{OrderOutcome, code_number, given, made, refused, replying, wrote}
pub use Rattle.model.specs.Revoke.{is_member, names_member, resumes, void_where, without}
unfoldable pub use Rattle.model.specs.Revoke.{consume, rescind}
pub use Rattle.model.specs.Run.{IsRun, IsTurn, Replies, Reply, Reported, Turn}
pub use Rattle.model.specs.Sound.{IsSound}
pub use Rattle.model.specs.Step.{Answers, Outcome, Step, gives_way, outcome, overfills, reached, takes_memory, unless, writable, writing}
unfoldable pub use Rattle.model.specs.Step.{carried_out, refusal_of}
pub use Rattle.model.specs.Text.{Fits, Says}
pub use Rattle.model.specs.Walk.{below, path, walk_along}
unfoldable pub use Rattle.model.specs.Walk.{walk}
pub use Rattle.model.specs.World.{World, annex_at, content_at, is_process, is_running_process, object_at, owner_at, register_at, root_at, slot_at}
pub use Rattle.model.specs.World.{with_slots_from, word_at}
unfoldable pub use Rattle.model.specs.World.{with_content, with_root, with_slot, with_state, with_word}
pub use Rattle.model.specs.declared.access.Access.{Access}
pub use Rattle.model.specs.declared.answer.Answer.{Answer}
pub use Rattle.model.specs.declared.answer.MemoryFault.{MemoryFault}
pub use Rattle.model.specs.declared.answer.MemoryFault.TheVariants.{Beyond, ReadOnly}
pub use Rattle.model.specs.declared.answer.Refusal.{Refusal}
pub use Rattle.model.specs.declared.capability.Capability.{Capability}
pub use Rattle.model.specs.declared.capability.Capability.TheVariants.{Bank, Discrim, Node, Number, Page, Process, Resume, Space, Start, Void}
pub use Rattle.model.specs.declared.command.Command.{Command}
pub use Rattle.model.specs.declared.command.Invocation.{Invocation}
pub use Rattle.model.specs.declared.command.Message.{Message}
pub use Rattle.model.specs.declared.command.Operation.{Operation}
pub use Rattle.model.specs.declared.command.Operation.TheVariants.{Call, Return, Send}
pub use Rattle.model.specs.declared.geometry.Geometry.{Geometry}
pub use Rattle.model.specs.declared.line.Line.{Line}
pub use Rattle.model.specs.declared.object.Content.{Content}
pub use Rattle.model.specs.declared.object.Object.{Object}
pub use Rattle.model.specs.declared.object.Root.{Root}
pub use Rattle.model.specs.declared.object.State.{State}
pub use Rattle.model.specs.declared.object.State.TheVariants.{Available, Running, Waiting}
pub use Rattle.model.specs.declared.order.Arguments.{Arguments}
pub use Rattle.model.specs.declared.order.BankOrder.{BankOrder}
pub use Rattle.model.specs.declared.order.NodeOrder.{NodeOrder}
pub use Rattle.model.specs.declared.order.PageOrder.{PageOrder}
pub use Rattle.model.specs.declared.order.ProcessOrder.{ProcessOrder}
pub use Rattle.model.specs.declared.order.ResultCode.{ResultCode}
pub use Rattle.model_laws.proofs.BankFreed.{tree_induction}
pub use Rattle.model_laws.proofs.BankReturn.{inherited_content, inherited_object, length_inherited}
pub use Rattle.model_laws.proofs.BankTree.{IsTree, chain_itself, chain_unfolds, chain_zero, tree_of}
pub use Rattle.model_laws.proofs.Cases.{after_gate_by, after_order_by, chosen, one_of}
pub use Rattle.model_laws.proofs.Mapped.{void_void, without_mapped}
pub use Rattle.model_laws.proofs.NumberLists.{member_cases, only_member}
pub use Rattle.model_laws.proofs.Revoking.{at_rescind}
pub use Rattle.model_laws.proofs.Rows.{IsRight, rows_hold}
unfoldable pub use Rattle.model_laws.proofs.Rows.{machine}
pub use Rattle.model_laws.proofs.SoundEdits.{at_content, at_set, edited_word, object_consume}
pub use Rattle.model_laws.proofs.SoundGates.{IsAfter, after_state, invocation_keeps}
pub use Rattle.model_laws.proofs.SoundOrders.{IsNow}
pub use Rattle.model_laws.proofs.SoundParts.{IsHeld, Waits, held_on, nearly_from, nearly_to, nearly_weaken, state_at}
pub use Rattle.model_laws.proofs.SoundWorlds.{holds_set, holds_void}
pub use Rattle.model_laws.proofs.Spelling.{says_one}
pub use Rattle.model_laws.proofs.Usage.{frame_refl, tests_at}
pub use Rattle.model_laws.specs.Confinement.{AreBy, IsBy, IsLineBy}
pub use Rattle.model_laws.specs.Worked.{IsRow}
pub use Rattle.std.proofs.Common.{Bool, Err, List, None, Ok, Option, Result, Some, [], ap, arith, false, get_or, inl, inr, length, length-set, map, nat_eq, not}
pub use Rattle.std.proofs.Common.{refl, set, subst, suc, sym, true, zero, ℕ}
pub use Rattle.std.proofs.lemmas.Bool.{and_parts, cases_eq, eqb-false, eqb-true, false≢true, ltb-true, not-false, not-true, or_cases, or_right}
pub use Rattle.std.proofs.lemmas.Bool.Decides.{nat_tests}
pub use Rattle.std.proofs.lemmas.List.{get_or-set_other, get_or-set_same, length-map, set_past}
pub use Rattle.std.proofs.lemmas.List.Elements.{All-from_recursion, All-head, All-tail}
pub use Rattle.std.proofs.lemmas.List.FromFn.{length-enumerate_from}
pub use Rattle.std.specs.List.{enumerate_from, filter, range_with_len}
pub use Rattle.std.specs.Prelude.{All, IsTrue, bit_or, drop, nat_lt, slice_index, slice_index_or, slice_set}
pub use Rattle.noninterference.specs.Noninterference.{AreAlike, AreSameInside, HasRoom, InvocationIsNoninterferent, LooksInside, RunsAreNoninterferent}
pub use Rattle.noninterference.specs.Noninterference.{depends_on_supply, looks_outside}
pub use Rattle.noninterference.specs.Reads.{HaveSame, IsReadClosedBut, NamesBut}
pub use Rattle.noninterference.specs.WorkedReads.{AreSameForReader, reader, server}
unfoldable pub use Rattle.noninterference.specs.WorkedReads.{e0, e1, rows}
