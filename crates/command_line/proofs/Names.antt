-- The names that the proofs here import: from other crates, and from the definitions of this one.
pub use Rattle.clap.proofs.ValueTestLemmas.{accepts-Accepts}
pub use Rattle.clap.proofs.WalkLemmas.{both, first_value-rows, raw_values-rows}
pub use Rattle.clap.specs.Facts.{parser_of_value, unwrap_or_range}
pub use Rattle.clap.specs.Simple.{HasMatchesOf, Shape, app_of, built, entered, is_simple, label_of, names_of, rows_at, subcommand_of}
pub use Rattle.clap.specs.Takes.{action_passes, bundle_step_passes, default_passes, entered_passes, flag_word_passes, is_given, level_passes, option_passes}
pub use Rattle.clap.specs.Takes.{react_passes, settle_passes, short_passes, step_passes, takes, use_passes, values_pass, word_passes}
unfoldable pub use Rattle.clap.specs.Takes.{flags_pass, walk_passes}
pub use Rattle.clap.specs.ValueTests.{accepts}
pub use Rattle.clap.specs.Values.{is_request}
pub use Rattle.clap.specs.Walk.{Held, Names, Outcome, Step, Waiting, Walk, action_of, after_flag, after_step, answers_to, arg_by_id, at_row, attached_value}
pub use Rattle.clap.specs.Walk.{bundle_step, finished, flag_met, is_empty, long_or_other, nothing_held, option_met, plain_word, positional, reacted, reading_by}
pub use Rattle.clap.specs.Walk.{settled, short_met, stop_after, subcommand, takes_values, used, used_as, values_or_missing, walk, walk_from, walked_from}
pub use Rattle.clap.specs.Walk.{with_default, with_values, without, word_met}
unfoldable pub use Rattle.clap.specs.Walk.{bundle_met, walked}
pub use Rattle.clap.specs.Words.{AddsArg, AddsSubcommand, App, HasKind, IsUnsignedIn, Row, Rule, Text, all_of, fault_of, first_of, first_value, found_of}
pub use Rattle.clap.specs.Words.{is_simple_and_free, kind_of, matched_of, new_app, raw_values, rows_of, rule_of, subcommand_name_of, subcommand_rows}
pub use Rattle.clap.specs.Words.{subcommand_rows_of, with_rule, with_subcommand}
pub use Rattle.clap.specs.declared.builder.action.ArgAction.{ArgAction}
pub use Rattle.clap.specs.declared.builder.arg.Arg.{Arg}
pub use Rattle.clap.specs.declared.builder.command.Command.{Command}
pub use Rattle.clap.specs.declared.builder.value_parser.ValueParser.{ValueParser}
pub use Rattle.clap.specs.declared.builder.value_parser.ValueParser.TheVariants.{Unsigned}
pub use Rattle.clap.specs.declared.error.Error.{Error}
pub use Rattle.clap.specs.declared.error.kind.ErrorKind.TheVariants.{OutOfMemory, ValueValidation}
pub use Rattle.clap.specs.declared.parser.matches.ArgMatches.{ArgMatches}
pub use Rattle.clap.specs.declared.parser.matches.ArgMatches.TheViews.{out-ArgMatches}
pub use Rattle.clap.specs.declared.parser.matches.Found.{Found}
pub use Rattle.clap.specs.declared.parser.matches.ValueSource.{ValueSource}
pub use Rattle.std.proofs.Common.{Bool, Err, IfOk, IsNone, List, None, Ok, Option, Result, Some, Vec, [], add-one, ap, ap₂, arith, codes, drop, false, get_or}
pub use Rattle.std.proofs.Common.{inl, inr, is_some, length, map, not, option_map, refl, rules, subst, suc, sym, take, true, true≢false, zero, ℕ}
pub use Rattle.std.proofs.Math.Seq.{take-length, take-suc}
pub use Rattle.std.proofs.lemmas.Bool.{eqb-true, leb-true, lt-ltb}
pub use Rattle.std.proofs.lemmas.Bool.Decides.{nat_tests}
pub use Rattle.std.proofs.lemmas.List.{get_or-map, length-map, map-append, take_all, take_more}
pub use Rattle.std.proofs.lemmas.List.Elements.{All-get_or, All-more}
pub use Rattle.std.proofs.lemmas.List.Folds.{list_all-append}
pub use Rattle.std.proofs.lemmas.List.Sums.{AllPass-from_list_all}
pub use Rattle.std.proofs.lemmas.Result.{err_from_is_err_and}
pub use Rattle.std.proofs.lemmas.Slice.Eq.{bytes_eq-Decides}
pub use Rattle.std.specs.Borrow.{Bor}
pub use Rattle.std.specs.List.{All, list_all, list_any, slice_index_or}
pub use Rattle.std.specs.Option.{option_map_or}
pub use Rattle.std.specs.Prelude.{IfSome, cond, find, fold, nat_le, nat_lt, option_and_then, slice_get, unwrap_or, ⊤}
pub use Rattle.std.specs.Str.{bytes_eq}
pub use Rattle.std.specs.declared.alloc.AllocError.{AllocError}
pub use Rattle.std.specs.declared.alloc.Global.{Global}
pub use Rattle.command_line.specs.Arguments.{AreNumbersIfAny, GivesNoNumber, GivesNoNumbers, IsFlag, IsGiven, IsNumber, IsNumberOption, has_all, is_filled}
pub use Rattle.command_line.specs.Arguments.{is_whole, number_of, subcommand_named, texts_of}
pub use Rattle.command_line.specs.Commands.{IsCommand, argument_rule, bare_app, eros_app, greatest_number, subcommand_app, subcommand_name, subcommands}
pub use Rattle.command_line.specs.Commands.{with_rules, with_subcommands}
pub use Rattle.command_line.specs.Jobs.{AreSizes, IsCache, IsNoJob, IsSameOf, IsSameTwice, NamesLine, NamesNone}
pub use Rattle.command_line.specs.Refusals.{AsksForSame, IsFaultOf, IsRefused}
unfoldable pub use Rattle.command_line.specs.Refusals.{Explains}
pub use Rattle.command_line.specs.declared.fault.JobFault.{JobFault}
pub use Rattle.command_line.specs.declared.requested.CommandLine.{CommandLine}
pub use Rattle.command_line.specs.declared.subcommands.Argument.{Argument}
pub use Rattle.command_line.specs.declared.subcommands.Subcommand.{Subcommand}
