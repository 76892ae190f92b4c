-- The names of other crates that the definitions here import.
pub use Rattle.capability.specs.Parts.{Parts}
pub use Rattle.checkpoint.specs.Store.{View}
pub use Rattle.device.specs.Disk.{Disk, Image}
pub use Rattle.device.specs.Moments.{LeavesOnly}
pub use Rattle.kernel.specs.Opening.{IsNoReason, Opens}
pub use Rattle.kernel.specs.Power.{Power}
pub use Rattle.kernel.specs.Standing.{Stands, disk_of, reported_code}
pub use Rattle.layout.specs.declared.open_fault.OpenFault.{OpenFault}
pub use Rattle.model.specs.Closed.{IsClosed}
pub use Rattle.model.specs.Machine.{Machine, Running, Saved, Up, candidates, opened}
pub use Rattle.model.specs.OrderOutcome.{code_number}
pub use Rattle.model.specs.Run.{BadLine, IsRun, Nothing, Replies, Reply, Reported, Turn, lines_of, output_of}
pub use Rattle.model.specs.Run.{reply_text}
pub use Rattle.model.specs.Step.{second, takes_memory}
pub use Rattle.model.specs.Text.{Says, line_of, refusal_text, spaced}
unfoldable pub use Rattle.model.specs.Text.{spelling}
pub use Rattle.model.specs.World.{object_at}
pub use Rattle.model.specs.declared.answer.Answer.{Answer}
pub use Rattle.model.specs.declared.answer.Refusal.{Refusal}
pub use Rattle.model.specs.declared.command.Command.{Command}
pub use Rattle.model.specs.declared.geometry.Geometry.{Geometry}
pub use Rattle.model.specs.declared.line.Line.{Line}
pub use Rattle.model.specs.declared.order.ResultCode.{ResultCode}
pub use Rattle.model_laws.specs.Confinement.{AreBy, IsKept, IsLineBy, with_free}
pub use Rattle.recovery.specs.Denotes.{Denotes}
pub use Rattle.recovery.specs.Recovered.{RefusesToOpen}
pub use Rattle.script.specs.Answers.{IsAnswerText}
pub use Rattle.script.specs.Keywords.{command_name}
pub use Rattle.script.specs.LineFaults.{IsFaultOf, line_fault_text}
pub use Rattle.script.specs.Lines.{Holds, IsOneLine}
pub use Rattle.script.specs.Writing.{Written, Wrote, WroteFront}
pub use Rattle.script.specs.declared.fault.RunFault.{RunFault}
pub use Rattle.script.specs.declared.line_fault.LineFault.{LineFault}
pub use Rattle.script.specs.declared.lines.LineBuffer.{LineBuffer}
pub use Rattle.std.specs.Io.KnownBytes.{Appends, Consumes, IsAtEnd}
pub use Rattle.std.specs.List.{All, Contains, flat_map}
pub use Rattle.std.specs.Prelude.{Bool, Err, List, None, Ok, Option, Result, Some, [], codes, decimal, false, length}
pub use Rattle.std.specs.Prelude.{map, min, take, true, ℕ}
