-- The names that the proofs here import: from other crates, and from the definitions of this one.
pub use Rattle.model.specs.Capability.{IsAccess, IsWellFormed, named}
pub use Rattle.model.specs.Text.{Fits, IsSkipped, Says, access_text, capability_line, fault_number, headed, line_of, operation_name, registers_of, spaced}
pub use Rattle.model.specs.Text.{state_text, unjournaled_number, word_line}
unfoldable pub use Rattle.model.specs.Text.{capability_lines, capability_text, command_words, object_text, printed, spelling, word_lines}
pub use Rattle.model.specs.contracts.answer.MemoryFault.{the_type}
pub use Rattle.model.specs.declared.access.Access.{Access}
pub use Rattle.model.specs.declared.answer.MemoryFault.{MemoryFault}
pub use Rattle.model.specs.declared.answer.Unjournaled.{Unjournaled}
pub use Rattle.model.specs.declared.capability.Capability.{Capability}
pub use Rattle.model.specs.declared.capability.Capability.TheVariants.{Void}
pub use Rattle.model.specs.declared.command.Command.{Command}
pub use Rattle.model.specs.declared.command.Operation.{Operation}
pub use Rattle.model.specs.declared.command.Operation.TheVariants.{Call, Return, Send}
pub use Rattle.model.specs.declared.object.Object.{Object}
pub use Rattle.model.specs.declared.object.Root.{Root}
pub use Rattle.model.specs.declared.object.State.{State}
pub use Rattle.model.specs.declared.object.State.TheVariants.{Available, Running, Waiting}
pub use Rattle.model_laws.proofs.Spelling.{IsSpaceless, decimal_is_word, length-spelling, skip_is_no_command, spelling_from_words, spells_one, split_spaced}
pub use Rattle.model_laws.proofs.Spelling.{split_spelling}
pub use Rattle.std.proofs.Common.{Bool, Err, List, None, Ok, Option, Result, Some, [], add-one, ap, append-nil, append_assoc, arith, codes, cond, decimal, drop}
pub use Rattle.std.proofs.Common.{false, get_or, inl, inr, length, length-take, map, not, option_map, refl, rules, subst, suc, sym, take, true, zero, ℕ}
pub use Rattle.std.proofs.KnownBytes.{Appends-kept, Appends-trans}
pub use Rattle.std.proofs.Math.Seq.{take-add, take-suc}
pub use Rattle.std.proofs.lemmas.Bool.{cases_lt, le-leb, lt-ltb}
pub use Rattle.std.proofs.lemmas.Bool.Decides.{nat_tests}
pub use Rattle.std.proofs.lemmas.Fmt.{decimal-digits_value, decimal_digit, decimal_nonempty, decimal_step, digits_decimal, digits_value-decimal, first_decimal}
pub use Rattle.std.proofs.lemmas.Grind.{common_steps, flat_map-append}
pub use Rattle.std.proofs.lemmas.Int.Digits.{digits_more, digits_value_more}
pub use Rattle.std.proofs.lemmas.List.{drop-drop, get_or-drop, get_or-take, length-drop, length-take-le, nil_from_length, take-append-drop, take-take, take_all}
pub use Rattle.std.proofs.lemmas.List.{take_more}
pub use Rattle.std.proofs.lemmas.List.Elements.{All-cons, All-nil, All-weaker}
pub use Rattle.std.proofs.lemmas.List.Folds.{flat_map-map}
pub use Rattle.std.proofs.lemmas.List.Quantifiers.{position-Some}
pub use Rattle.std.proofs.lemmas.List.Splits.{join_with_byte-slice_split, length-slice_split, slice_split_first, slice_split_none}
pub use Rattle.std.proofs.lemmas.List.Sums.{AllPass-from_list_all, fails_before_first, passes_at_first, position_or_len_is, prefix_len-le-length}
pub use Rattle.std.proofs.lemmas.Nat.{div_below}
pub use Rattle.std.proofs.lemmas.Option.{same_Some}
pub use Rattle.std.proofs.lemmas.Result.{err_from_is_err_and}
pub use Rattle.std.proofs.lemmas.Slice.Eq.{bytes_eq-Decides}
pub use Rattle.std.proofs.lemmas.Str.{digit_value_digit}
pub use Rattle.std.proofs.lemmas.Str.Parse.{IsNumeralModel, digit_at, digits_value-take-le, digits_value_short, numerals_by_value, tells_digits}
unfoldable pub use Rattle.std.specs.Fmt.{digits}
pub use Rattle.std.specs.Int.{IsInRange}
pub use Rattle.std.specs.Io.KnownBytes.{Appends, Keeps}
pub use Rattle.std.specs.IoError.{error_kind}
pub use Rattle.std.specs.List.{All, enumerate_from, flat_map, list_all, position}
pub use Rattle.std.specs.Prelude.{IfNone, IfSome, IsSome, slice_get}
pub use Rattle.std.specs.Str.{bytes_eq}
pub use Rattle.std.specs.Str.Parse.{AllDigits, digits_value}
pub use Rattle.std.specs.declared.io.ErrorKind.TheVariants.{Interrupted}
pub use Rattle.script.specs.CallErrors.{CallErrors, HasCause, NoneFailed, OneFailed, more_errors}
pub use Rattle.script.specs.Counted.{written_by}
pub use Rattle.script.specs.Keywords.{keyword_name}
pub use Rattle.script.specs.LineFaults.{AreOperands, HasOperand, HasWord, IsFaultOf, IsOperand, IsWordFault, Names, are_registers}
pub use Rattle.script.specs.Named.{access_words, kind_name, object_of}
unfoldable pub use Rattle.script.specs.Named.{access_at, access_in, capability_at, capability_words, height_at, key_at}
pub use Rattle.script.specs.Reading.{Gives, Words, first_end, first_word, words_left, words_of}
unfoldable pub use Rattle.script.specs.Reading.{arguments_at, invocation_at, number_at, number_in, numbers_at, register_at, registers_at}
pub use Rattle.script.specs.Writing.{AppendsFront, Writes, Written, Wrote, WroteFront}
pub use Rattle.script.specs.declared.counted.CountedWriter.{CountedWriter}
pub use Rattle.script.specs.declared.fault.RunFault.{RunFault}
pub use Rattle.script.specs.declared.keyword.Keyword.{Keyword}
pub use Rattle.script.specs.declared.keyword.Keyword.TheVariants.{Invoke}
pub use Rattle.script.specs.declared.line_fault.LineFault.{LineFault}
pub use Rattle.script.specs.declared.named.Kind.{Kind}
pub use Rattle.script.specs.declared.named.Kind.TheVariants.{Bank, Discrim, Node, Number, Page, Process, Resume, Space, Start}
