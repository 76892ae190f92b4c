-- The names that the proofs here import: from other crates, and from the definitions of this one.
pub use Rattle.capability.specs.Parts.{Parts}
pub use Rattle.checkpoint.specs.Store.{View}
pub use Rattle.device.proofs.Moments.{leaves_on, leaves_weaker, started}
pub use Rattle.device.specs.Disk.{Disk, Image}
pub use Rattle.device.specs.Moments.{LeavesOnly}
pub use Rattle.kernel.specs.Opening.{IsNoReason, Opens}
pub use Rattle.kernel.specs.Power.{Power}
pub use Rattle.kernel.specs.Standing.{IsCaused, Serves, Stands, disk_of, reported_code}
pub use Rattle.layout.specs.declared.open_fault.OpenFault.{OpenFault}
pub use Rattle.memchr.specs.Find.{IsFirstByte, Nowhere, Passes, is_byte}
pub use Rattle.model.specs.Machine.{Down, Machine, Running, Saved, Up, candidates, opened}
pub use Rattle.model.specs.Run.{BadLine, IsRun, IsTurn, Nothing, Replies, Reply, Reported, Turn, lines_of, output_of, reply_text}
pub use Rattle.model.specs.Sound.{IsSound}
pub use Rattle.model.specs.Step.{Answers, Outcome, Step, second, takes_memory}
pub use Rattle.model.specs.Text.{Fits, Says, line_of, spaced}
unfoldable pub use Rattle.model.specs.Text.{bad_line, spelling}
pub use Rattle.model.specs.declared.answer.Answer.{Answer}
pub use Rattle.model.specs.declared.answer.Refusal.{Refusal}
pub use Rattle.model.specs.declared.command.Command.{Command}
pub use Rattle.model.specs.declared.geometry.Geometry.{Geometry}
pub use Rattle.model.specs.declared.line.Line.{Line}
pub use Rattle.model.specs.declared.order.ResultCode.{ResultCode}
pub use Rattle.model_laws.proofs.ConfinedRuns.{run_confined}
pub use Rattle.model_laws.proofs.Spelling.{says_one}
pub use Rattle.model_laws.proofs.Stepping.{wants_memory_to_show}
pub use Rattle.model_laws.specs.Confinement.{AreBy, IsLineBy, with_free}
pub use Rattle.recovery.proofs.Denoted.{denoted_not_bad, denotes_one}
pub use Rattle.recovery.specs.Denotes.{Denotes, DenotesOne}
pub use Rattle.recovery.specs.Recovered.{RefusesToOpen}
pub use Rattle.script.proofs.Fronts.{wrote_trans}
pub use Rattle.script.specs.Keywords.{command_name}
pub use Rattle.script.specs.LineFaults.{IsFaultOf}
pub use Rattle.script.specs.Lines.{Holds, IsOneLine, IsTextOf}
pub use Rattle.script.specs.Writing.{AppendsFront, Writes, Written, Wrote, WroteFront}
pub use Rattle.script.specs.declared.fault.RunFault.{RunFault}
pub use Rattle.script.specs.declared.line_fault.LineFault.{LineFault}
pub use Rattle.script.specs.declared.lines.LineBuffer.{LineBuffer}
pub use Rattle.std.proofs.Common.{Bool, Err, List, None, Ok, Option, Some, [], ap, append-nil, append_assoc, arith, codes, drop, false, get_or, inl, inr}
pub use Rattle.std.proofs.Common.{length, min, option_map, refl, rules, subst, suc, sym, take, true, zero, ℕ, ⊎_elim}
pub use Rattle.std.proofs.KnownBytes.{Appends-trans, Consumes-trans}
pub use Rattle.std.proofs.lemmas.Bool.Decides.{nat_tests}
pub use Rattle.std.proofs.lemmas.List.{get_or-take, get_or_default, length-drop, length-take, take_all}
pub use Rattle.std.proofs.lemmas.List.Concat.{flat_map-append}
pub use Rattle.std.proofs.lemmas.List.Elements.{All-append, All-cons, All-head, All-nil, All-tail}
pub use Rattle.std.proofs.lemmas.Result.{err_from_is_err_and}
pub use Rattle.std.specs.Io.KnownBytes.{Appends, Consumes, IsAtEnd}
pub use Rattle.std.specs.List.{All, Contains, flat_map}
pub use Rattle.std.specs.Prelude.{IfNone, IfSome, IsTrue, Result, slice_index_or}
pub use Rattle.runs.specs.KernelRuns.{AreAll, AreFirst, AreLines, AreLinesBy, AreSeen, AreTurnsOf, BeginsWith, Does, EndsBy, IsConfined, IsCutShort, IsLeftIn}
pub use Rattle.runs.specs.KernelRuns.{IsReportedBy, IsRunOf, IsTurnOf, MaySaveIn, RunsOver, RunsSeen, lines_in}
pub use Rattle.runs.specs.Laws.{CrashesAreSurvived, CrashesInRunsAreSurvived, IsOpenedAt, IsSteady, IsSurvived, MaySave, RunsAreConfined, SteadyRunsAgree}
pub use Rattle.runs.specs.OneLine.{RunsLine}
pub use Rattle.runs.specs.Saving.{CarriesOut, IsStage}
pub use Rattle.runs.specs.Taking.{Ended, IsWritten, ReadsPiece, SoFar, Stopped, StopsBy, TakesLine, TakesTurn}
pub use Rattle.runs.specs.Tracing.{Ends, EndsIf, IsCauseIn, IsCauseOf, IsOutcome, IsTrace, Notes, Sees, cause_text, place_text}
pub use Rattle.runs.specs.declared.cause.Cause.{Cause}
pub use Rattle.runs.specs.declared.cause.Stop.{Stop}
pub use Rattle.runs.specs.declared.script_pieces.Piece.{Piece}
pub use Rattle.runs.specs.declared.tracer.Tracer.{Tracer}
