-- The names of other crates that the definitions here import.
pub use Rattle.capability.specs.Parts.{Parts}
pub use Rattle.checkpoint.specs.Store.{View}
pub use Rattle.device.specs.Calls.{Agrees, image_of, sectors_of}
pub use Rattle.device.specs.Disk.{Disk, Image}
pub use Rattle.devices.specs.FileDevice.{file_disk}
pub use Rattle.devices.specs.Past.{Event, MayLeave, at_first, cut, replay, synced, writes_of}
pub use Rattle.devices.specs.declared.file_device.CopiedFile.{CopiedFile}
pub use Rattle.devices.specs.declared.record.Outcome.TheVariants.{Keep}
pub use Rattle.kernel.specs.Opening.{Opens}
pub use Rattle.kernel.specs.Power.{Power}
pub use Rattle.kernel.specs.Standing.{IsDeviceOf, Stands, disk_of, reported_code}
pub use Rattle.kernel.specs.declared.processes.served.Served.{Served}
pub use Rattle.layout.specs.Capability.{height_of, key_of, number_of}
pub use Rattle.layout.specs.Reason.{reason_number}
pub use Rattle.layout.specs.declared.open_fault.OpenFault.{OpenFault}
pub use Rattle.model.specs.Capability.{access_bits, tag_of}
pub use Rattle.model.specs.Machine.{Machine, Saved}
pub use Rattle.model.specs.Object.{role_number, role_of, state_number}
pub use Rattle.model.specs.OrderOutcome.{code_number}
pub use Rattle.model.specs.Run.{Reported, Turn}
pub use Rattle.model.specs.Step.{takes_memory}
pub use Rattle.model.specs.Text.{fault_number, unjournaled_number}
unfoldable pub use Rattle.model.specs.Text.{spelling}
pub use Rattle.model.specs.declared.answer.Answer.{Answer}
pub use Rattle.model.specs.declared.answer.Description.{Description}
pub use Rattle.model.specs.declared.answer.Refusal.{Refusal}
pub use Rattle.model.specs.declared.capability.Capability.{Capability}
pub use Rattle.model.specs.declared.capability.Capability.TheVariants.{Void}
pub use Rattle.model.specs.declared.command.Command.{Command}
pub use Rattle.model.specs.declared.command.Operation.{Operation}
pub use Rattle.model.specs.declared.command.Operation.TheVariants.{Call, Return, Send}
pub use Rattle.model.specs.declared.geometry.Geometry.{Geometry}
pub use Rattle.model.specs.declared.order.ResultCode.{ResultCode}
pub use Rattle.object_cache.specs.StoreState.{StoreState}
pub use Rattle.recovery.specs.Denotes.{Denotes}
pub use Rattle.recovery.specs.Recovered.{IsBad, IsWhy}
pub use Rattle.runs.specs.KernelRuns.{IsConfined, IsRunOf, RunsOver}
pub use Rattle.runs.specs.Laws.{MaySave}
pub use Rattle.script.specs.Writing.{Written}
pub use Rattle.script.specs.declared.fault.RunFault.{RunFault}
pub use Rattle.std.specs.Box.Ownership.{box_owns}
pub use Rattle.std.specs.Coded.{Coded, coded_option}
pub use Rattle.std.specs.Global.{Global}
pub use Rattle.std.specs.Int.{to_le_bytes, w64}
pub use Rattle.std.specs.List.{flat_map}
pub use Rattle.std.specs.Prelude.{Bool, Err, List, None, Ok, Option, Result, Some, [], drop, false, length, map, nat_lt}
pub use Rattle.std.specs.Prelude.{not, replicate, slice_index, slice_index_or, take, true, ℕ}
pub use Rattle.std_heap.specs.contracts.GlobalAllocator.TheImpl.{ghosts}
