-- The names of other crates that the definitions here import.
pub use Rattle.capability.specs.Parts.{Parts, Renews, frames_of, objects_in}
pub use Rattle.checkpoint.specs.Opened.{OnlyReads}
pub use Rattle.checkpoint.specs.Store.{View}
pub use Rattle.checkpoint.specs.declared.committed.Checkpoint.{Checkpoint}
pub use Rattle.device.specs.Calls.{Only}
pub use Rattle.device.specs.Disk.{Disk, Image}
pub use Rattle.gate.specs.Invoke.{result_code}
pub use Rattle.layout.specs.declared.open_fault.OpenFault.{OpenFault}
pub use Rattle.model.specs.Keepable.{IsSoundFrames, world_at}
pub use Rattle.model.specs.Machine.{Down, Frozen, Machine, Running, Saved, Up, candidates, opened}
unfoldable pub use Rattle.model.specs.Machine.{renewing}
pub use Rattle.model.specs.Step.{Step, second}
pub use Rattle.model.specs.World.{is_process, is_running_process}
pub use Rattle.model.specs.declared.answer.Answer.{Answer}
pub use Rattle.model.specs.declared.answer.Refusal.{Refusal}
pub use Rattle.model.specs.declared.command.Command.{Command}
pub use Rattle.model.specs.declared.command.Invocation.{Invocation}
pub use Rattle.model.specs.declared.geometry.Geometry.{Geometry}
pub use Rattle.model.specs.declared.object.Object.{Object}
pub use Rattle.model.specs.declared.order.ResultCode.{ResultCode}
pub use Rattle.recovery.specs.Denotes.{Denotes, Leaves, LeavesOne}
pub use Rattle.recovery.specs.Live.{IsUp, disk_at, running}
pub use Rattle.recovery.specs.declared.live.Live.{Live}
pub use Rattle.std.specs.Prelude.{Bool, Err, List, None, Ok, Option, Result, Some, [], false, true, ℕ}
