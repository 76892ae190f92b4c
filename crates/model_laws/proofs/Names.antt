-- The names that the proofs here cite: of other crates, and of the definitions of this one.
pub use Rattle.model.specs.Bank.{chain_within, is_under}
unfoldable pub use Rattle.model.specs.Bank.{chain, usage}
pub use Rattle.model.specs.Banking.{allocated, are_free, bank_allocated, freed, freed_by, least, left_of, new_annex, new_node, new_page, new_root}
pub use Rattle.model.specs.Banking.{process_allocated, transferred}
unfoldable pub use Rattle.model.specs.Banking.{free_nodes, free_pages, has_quota, inherited, on_bank, owned_by, remaining, under, with_new}
pub use Rattle.model.specs.Capability.{IsWellFormed, diminished, full, named, weak}
pub use Rattle.model.specs.Closed.{IsClosed, StaysInside}
pub use Rattle.model.specs.Invoke.{Effect, after_gate, after_order, can_start, is_return, ordered, replied, reply_of, sent_by, sent_to_gate}
unfoldable pub use Rattle.model.specs.Invoke.{deliver, invoke, on_kernel_object, through_gate}
pub use Rattle.model.specs.Machine.{Down, Machine, Saved, Up, touching}
unfoldable pub use Rattle.model.specs.Machine.{renewing, untouched}
pub use Rattle.model.specs.Object.{free, is_annex, is_available, is_bank, is_free, is_node, is_page, is_root, is_running, is_waiting, limit_in, map_content}
pub use Rattle.model.specs.Object.{role_of, root_in, slots_in, with_slot_in, with_word_in, words_in}
unfoldable pub use Rattle.model.specs.Object.{all_slots, zero_words}
pub use Rattle.model.specs.Order.{IsNoBankOrder, bank_order, fetched, is_space, node_order, page_order, process_order, reduces, stored, with_root_word}
pub use Rattle.model.specs.Order.{with_space}
unfoldable pub use Rattle.model.specs.Order.{on_node, on_page, on_process, order}
pub use Rattle.model.specs.OrderOutcome.{OrderOutcome, given, made, refused, replying, wrote}
pub use Rattle.model.specs.Revoke.{is_given_up, is_member, names_member, resumes, void_where, without}
unfoldable pub use Rattle.model.specs.Revoke.{consume, rescind}
pub use Rattle.model.specs.Run.{IsRun, IsTurn, Turn}
pub use Rattle.model.specs.Sound.{HasShape, IsOfKind, IsSound, IsSpace, MayBeHeld, NamesItsKind, object_count}
pub use Rattle.model.specs.Step.{Answers, Outcome, Step, outcome, overfills, reached, shown, unjournaled, unless, writable, writing}
unfoldable pub use Rattle.model.specs.Step.{carried_out, refusal_of}
pub use Rattle.model.specs.Text.{Fits, IsSkipped, Says, line_of, operation_name, spaced}
unfoldable pub use Rattle.model.specs.Text.{bad_line, capability_lines, capability_text, command_words, object_text, printed, spelling, word_lines}
pub use Rattle.model.specs.Walk.{below, path, walk_along}
unfoldable pub use Rattle.model.specs.Walk.{walk}
pub use Rattle.model.specs.World.{World, annex_at, content_at, is_process, is_running_process, object_at, owner_at, register_at, root_at, slot_at}
pub use Rattle.model.specs.World.{with_slots_from, word_at}
unfoldable pub use Rattle.model.specs.World.{with_content, with_root, with_slot, with_state, with_word}
pub use Rattle.model.specs.Worlds.{fresh_root, of_prime_bank, prime_bank, small}
unfoldable pub use Rattle.model.specs.Worlds.{f0, i0}
pub use Rattle.model.specs.declared.access.Access.{Access}
pub use Rattle.model.specs.declared.answer.Answer.{Answer}
pub use Rattle.model.specs.declared.answer.MemoryFault.{MemoryFault}
pub use Rattle.model.specs.declared.answer.MemoryFault.TheVariants.{ReadOnly}
pub use Rattle.model.specs.declared.answer.Refusal.{Refusal}
pub use Rattle.model.specs.declared.capability.Capability.{Capability}
pub use Rattle.model.specs.declared.capability.Capability.TheVariants.{Bank, Discrim, Node, Number, Page, Process, Resume, Space, Start, Void}
pub use Rattle.model.specs.declared.command.Command.{Command}
pub use Rattle.model.specs.declared.command.Invocation.{Invocation}
pub use Rattle.model.specs.declared.command.Message.{Message}
pub use Rattle.model.specs.declared.command.Operation.{Operation}
pub use Rattle.model.specs.declared.command.Operation.TheVariants.{Call, Return, Send}
pub use Rattle.model.specs.declared.geometry.Geometry.{Geometry}
pub use Rattle.model.specs.declared.line.Line.{Line}
pub use Rattle.model.specs.declared.object.Content.{Content}
pub use Rattle.model.specs.declared.object.Object.{Object}
pub use Rattle.model.specs.declared.object.Root.{Root}
pub use Rattle.model.specs.declared.object.State.{State}
pub use Rattle.model.specs.declared.object.State.TheVariants.{Available, Running, Waiting}
pub use Rattle.model.specs.declared.order.Arguments.{Arguments}
pub use Rattle.model.specs.declared.order.BankOrder.{BankOrder}
pub use Rattle.model.specs.declared.order.NodeOrder.{NodeOrder}
pub use Rattle.model.specs.declared.order.PageOrder.{PageOrder}
pub use Rattle.model.specs.declared.order.ProcessOrder.{ProcessOrder}
pub use Rattle.model.specs.declared.order.ResultCode.{ResultCode}
pub use Rattle.std.proofs.Common.{All, Bool, Err, List, None, Ok, Option, Result, Some, [], add-zero, ap, ap₂, arith, bytes_eq, codes, cond, decimal, drop}
pub use Rattle.std.proofs.Common.{false, get_or, inl, inr, leb-true, length, length-append, map, min, nat_eq, nat_le, not, refl, replicate, set, slice_get}
pub use Rattle.std.proofs.Common.{subst, suc, sym, take, true, zero, zero-add, zero-lt-suc, ℕ, ⊎_elim}
pub use Rattle.std.proofs.Math.Bool.{and-false, and-true, or-false}
pub use Rattle.std.proofs.Math.Seq.{drop-append_seam, take-append_seam}
pub use Rattle.std.proofs.lemmas.Bool.{and_parts, and_right, cases_Bool, cases_eq, eq-eqb, eqb-false, eqb-true, false_from_ne_true, false≢true, ltb-true}
pub use Rattle.std.proofs.lemmas.Bool.{ne_eqb, not-true, not_from_false, or_cases, or_from, or_left, or_parts, or_right}
pub use Rattle.std.proofs.lemmas.Bool.Decides.{nat_tests}
pub use Rattle.std.proofs.lemmas.Fmt.{decimal_by_steps, decimal_is_IsNumeral, length-decimal-le}
pub use Rattle.std.proofs.lemmas.List.{ext_get_or, get_or-set_other, get_or-set_same, get_or_past, length-map, length-set, set_past}
pub use Rattle.std.proofs.lemmas.List.Elements.{All-append, All-cons, All-filter, All-from_recursion, All-get_or, All-head, All-map, All-nil, All-push}
pub use Rattle.std.proofs.lemmas.List.Elements.{All-tail, All-weaker, Contains-append_right, filter_passes}
pub use Rattle.std.proofs.lemmas.List.Folds.{list_any_at}
pub use Rattle.std.proofs.lemmas.List.FromFn.{get_or-map-range_with_len, get_or-range_with_len, length-enumerate_from, length-map-range_with_len}
pub use Rattle.std.proofs.lemmas.List.FromFn.{length-range_with_len}
pub use Rattle.std.proofs.lemmas.List.Kept.{AllPairs-filter}
pub use Rattle.std.proofs.lemmas.List.Splits.{join_with_byte-slice_split, slice_split_at, slice_split_none}
pub use Rattle.std.proofs.lemmas.List.Sums.{AllPass-from_list_all, sum_by-cons}
pub use Rattle.std.proofs.lemmas.Map.Views.{Contains-from_any}
pub use Rattle.std.proofs.lemmas.Nat.{le_or_l, le_or_r}
pub use Rattle.std.proofs.lemmas.Slice.Eq.{bytes_eq-Decides}
unfoldable pub use Rattle.std.specs.Fmt.{digits}
pub use Rattle.std.specs.List.{AllPairs, Contains, count_by, enumerate_from, filter, list_all, list_any, range_with_len, slice_split}
pub use Rattle.std.specs.Prelude.{IsTrue, bit_or, nat_lt, slice_index, slice_index_or, slice_set}
pub use Rattle.std.specs.Str.Parse.{digits_value}
pub use Rattle.model_laws.specs.Confinement.{AreBy, Encloses, InvocationIsConfined, IsBy, IsKept, IsLineBy, NamesInside, RunIsConfined, StaysWithin, with_free}
pub use Rattle.model_laws.specs.Laws.{ConsumesAll, GivesUpNothing, GivesUpRescinded, InvocationKeepsSound, JournalKeepsSound, LogFullIsExact, RescindsAll}
pub use Rattle.model_laws.specs.Laws.{SaysOne, SpellsOne, StepsAllowed, StoreLogFullIsExact, TouchesWritten, WantsMemoryToShow, rescinded_by}
pub use Rattle.model_laws.specs.Worked.{IsRow, Row, answered, row}
unfoldable pub use Rattle.model_laws.specs.Worked.{b0, s0}
pub use Rattle.model_laws.specs.WorkedConfinement.{ConfinedIsClosed, OutwardIsNotClosed, confined}
unfoldable pub use Rattle.model_laws.specs.WorkedConfinement.{c0, rows}
unfoldable pub use Rattle.model_laws.specs.WorkedMemory.{references}
unfoldable pub use Rattle.model_laws.specs.WorkedObjects.{objects}
unfoldable pub use Rattle.model_laws.specs.WorkedProcesses.{processes}
unfoldable pub use Rattle.model_laws.specs.WorkedRefusals.{refusals}
unfoldable pub use Rattle.model_laws.specs.WorkedSaves.{saving}
pub use Rattle.model_laws.specs.WorkedSteps.{AnswersBySteps, ChainsBanks, FailsBetween, OpensAgain, RescindsProcess, RevokesOnly, WantsMemory, invokes}
pub use Rattle.model_laws.specs.WorkedTexts.{CutsLines, PrintsRefusals, RunsScript, SaysBad, SaysCommands, SaysNothing}
