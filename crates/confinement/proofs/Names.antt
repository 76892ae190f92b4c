-- The names that the proofs here import: from other crates, and from the definitions of this one.
pub use Rattle.model.specs.Bank.{is_under}
unfoldable pub use Rattle.model.specs.Bank.{chain}
pub use Rattle.model.specs.Banking.{allocated, are_free, bank_allocated, freed, freed_by, new_annex, new_node, new_page, new_root, process_allocated}
unfoldable pub use Rattle.model.specs.Banking.{free_nodes, free_pages, has_quota, inherited, on_bank, under, with_new}
pub use Rattle.model.specs.Capability.{full, named}
pub use Rattle.model.specs.Invoke.{Effect, after_gate, after_order, ordered, replied, reply_of, sent_by, sent_to_gate}
unfoldable pub use Rattle.model.specs.Invoke.{deliver, invoke, on_kernel_object, through_gate}
pub use Rattle.model.specs.Machine.{Down, Machine, Saved, Up}
unfoldable pub use Rattle.model.specs.Machine.{renewing}
pub use Rattle.model.specs.Object.{free, is_annex, is_bank, is_free, is_root, is_running, is_waiting, map_content, root_in, slots_in, with_slot_in}
pub use Rattle.model.specs.Object.{with_word_in}
unfoldable pub use Rattle.model.specs.Object.{all_slots, zero_words}
pub use Rattle.model.specs.Order.{bank_order, fetched, is_space, node_order, page_order, process_order, stored, with_root_word, with_space}
unfoldable pub use Rattle.model.specs.Order.{on_node, on_page, on_process, order}
pub use Rattle.model.specs.OrderOutcome.{OrderOutcome, refused}
pub use Rattle.model.specs.Revoke.{is_member, names_member, resumes, void_where, without}
unfoldable pub use Rattle.model.specs.Revoke.{consume, rescind}
pub use Rattle.model.specs.Run.{IsRun, IsTurn, Turn}
pub use Rattle.model.specs.Sound.{IsSound, NamesItsKind}
pub use Rattle.model.specs.Step.{Answers, Outcome, Step, outcome, reached, writable, writing}
unfoldable pub use Rattle.model.specs.Step.{carried_out, refusal_of}
pub use Rattle.model.specs.Text.{Fits, Says}
pub use Rattle.model.specs.Walk.{below, path, walk_along}
unfoldable pub use Rattle.model.specs.Walk.{walk}
pub use Rattle.model.specs.World.{World, annex_at, content_at, is_process, is_running_process, object_at, owner_at, register_at, root_at, slot_at}
pub use Rattle.model.specs.World.{with_slots_from, word_at}
unfoldable pub use Rattle.model.specs.World.{with_content, with_root, with_slot, with_state, with_word}
pub use Rattle.model.specs.Worlds.{of_prime_bank}
pub use Rattle.model.specs.declared.access.Access.{Access}
pub use Rattle.model.specs.declared.answer.Answer.{Answer}
pub use Rattle.model.specs.declared.answer.MemoryFault.{MemoryFault}
pub use Rattle.model.specs.declared.answer.MemoryFault.TheVariants.{ReadOnly}
pub use Rattle.model.specs.declared.answer.Refusal.{Refusal}
pub use Rattle.model.specs.declared.capability.Capability.{Capability}
pub use Rattle.model.specs.declared.capability.Capability.TheVariants.{Bank, Discrim, Node, Number, Page, Process, Resume, Space, Start, Void}
pub use Rattle.model.specs.declared.command.Command.{Command}
pub use Rattle.model.specs.declared.command.Invocation.{Invocation}
pub use Rattle.model.specs.declared.command.Message.{Message}
pub use Rattle.model.specs.declared.command.Operation.{Operation}
pub use Rattle.model.specs.declared.command.Operation.TheVariants.{Call}
pub use Rattle.model.specs.declared.geometry.Geometry.{Geometry}
pub use Rattle.model.specs.declared.line.Line.{Line}
pub use Rattle.model.specs.declared.object.Content.{Content}
pub use Rattle.model.specs.declared.object.Object.{Object}
pub use Rattle.model.specs.declared.object.Root.{Root}
pub use Rattle.model.specs.declared.object.State.{State}
pub use Rattle.model.specs.declared.object.State.TheVariants.{Available, Running}
pub use Rattle.model.specs.declared.order.Arguments.{Arguments}
pub use Rattle.model.specs.declared.order.BankOrder.{BankOrder}
pub use Rattle.model.specs.declared.order.NodeOrder.{NodeOrder}
pub use Rattle.model.specs.declared.order.PageOrder.{PageOrder}
pub use Rattle.model.specs.declared.order.ProcessOrder.{ProcessOrder}
pub use Rattle.model.specs.declared.order.ResultCode.{ResultCode}
pub use Rattle.model_laws.proofs.BankFreed.{tree_induction, under_found}
pub use Rattle.model_laws.proofs.BankRescind.{used_where}
pub use Rattle.model_laws.proofs.BankReturn.{inherited_content, inherited_object}
pub use Rattle.model_laws.proofs.BankTree.{IsTree, at_new, at_other, chain_unfolds, chain_zero, length_new, member_head, tree_of}
pub use Rattle.model_laws.proofs.Cases.{after_gate_by, after_order_by, chosen, found_or, invoked_by, one_of, replied_by}
pub use Rattle.model_laws.proofs.Journaling.{unless_passes}
pub use Rattle.model_laws.proofs.Mapped.{void_void, without_mapped}
pub use Rattle.model_laws.proofs.NumberLists.{AllDiffer, filter_once, found_in, member_cases, only_member}
pub use Rattle.model_laws.proofs.Revoking.{at_rescind}
pub use Rattle.model_laws.proofs.Rows.{IsRight, rows_hold}
unfoldable pub use Rattle.model_laws.proofs.Rows.{machine}
pub use Rattle.model_laws.proofs.SoundEdits.{at_content, at_set, edited_word, object_consume}
pub use Rattle.model_laws.proofs.SoundGates.{IsAfter, after_state, held_sent, invocation_keeps}
pub use Rattle.model_laws.proofs.SoundOrders.{IsNow}
pub use Rattle.model_laws.proofs.SoundParts.{IsHeld, Waits, held_on, held_to, nearly_from, nearly_to, nearly_weaken, state_at}
pub use Rattle.model_laws.proofs.SoundWorlds.{holds_set, holds_void}
pub use Rattle.model_laws.proofs.Usage.{frame_refl, tests_at}
pub use Rattle.model_laws.specs.Confinement.{AreBy, IsBy, IsKept, IsLineBy, NamesInside, with_free}
pub use Rattle.model_laws.specs.Worked.{IsRow}
pub use Rattle.std.proofs.Common.{Bool, Err, List, None, Ok, Option, Result, Some, [], ap, arith, false, inl, inr, length, map, nat_eq, not, refl, subst, suc}
pub use Rattle.std.proofs.Common.{sym, true, zero, ℕ, ⊎_elim}
pub use Rattle.std.proofs.lemmas.Bool.{and_parts, cases_eq, eqb-false, eqb-true, false≢true, ltb-true, or_cases, or_right}
pub use Rattle.std.proofs.lemmas.Bool.Decides.{nat_tests}
pub use Rattle.std.proofs.lemmas.List.Elements.{All-from_recursion, All-head, All-tail}
pub use Rattle.std.proofs.lemmas.Nat.{le_or_l, le_or_r}
pub use Rattle.std.specs.List.{range_with_len}
pub use Rattle.std.specs.Prelude.{All, IsTrue, bit_or, nat_lt, replicate, slice_index, slice_index_or, slice_set}
pub use Rattle.confinement.specs.Trusted.{AreConfinedBut, AreStretches, InvocationIsConfinedBut, IsClosedBut, IsConfinedBut, IsInbox, IsStretch}
pub use Rattle.confinement.specs.Trusted.{RunIsConfinedBut, StaysBut, Stretch, TurnsAreConfinedBut, members_after}
pub use Rattle.confinement.specs.WorkedTrust.{ClientIsClosedBut, client, store}
unfoldable pub use Rattle.confinement.specs.WorkedTrust.{d0, rows}
