-- The names of other crates that the definitions here import.
pub use Rattle.capability.specs.Parts.{Parts}
pub use Rattle.checkpoint.specs.Opened.{OnlyReads}
pub use Rattle.checkpoint.specs.Saved.{Holds}
pub use Rattle.checkpoint.specs.Store.{View}
pub use Rattle.description.specs.Faults.{fault_number}
pub use Rattle.description.specs.Reading.{IsDescription}
pub use Rattle.description.specs.Rules.{Refuses, plan_for}
pub use Rattle.description.specs.declared.entry.Description.{Description}
pub use Rattle.description.specs.declared.fault.BuildFault.{BuildFault}
pub use Rattle.description.specs.declared.sizes.GrowthFault.{GrowthFault}
pub use Rattle.device.specs.Disk.{Disk, Image}
pub use Rattle.image_builder.specs.Built.{BuildsFrom}
pub use Rattle.image_builder.specs.Upgraded.{IsNotUpgraded, Upgrades, new_plan}
pub use Rattle.image_builder.specs.declared.new_layout.NewLayout.{NewLayout}
pub use Rattle.image_builder.specs.declared.upgrade_fault.UpgradeFault.{UpgradeFault}
pub use Rattle.image_writer.specs.Written.{first_saved}
pub use Rattle.json_lines.specs.Objects.{number_object, text_object}
pub use Rattle.json_lines.specs.declared.format.Format.{Format}
pub use Rattle.kernel.specs.Opening.{Opens}
pub use Rattle.kernel.specs.Power.{Power}
pub use Rattle.kernel.specs.Standing.{IsDeviceOf}
pub use Rattle.layout.specs.Reason.{reason_number}
pub use Rattle.layout.specs.declared.open_fault.OpenFault.{OpenFault}
pub use Rattle.model.specs.Keepable.{IsSoundFrames, world_at}
pub use Rattle.model.specs.Machine.{Saved}
pub use Rattle.model.specs.Run.{Turn}
pub use Rattle.model.specs.Text.{line_of, refusal_text, spaced}
unfoldable pub use Rattle.model.specs.Text.{printed}
pub use Rattle.model.specs.declared.answer.Answer.{Answer}
pub use Rattle.model.specs.declared.answer.Refusal.{Refusal}
pub use Rattle.model.specs.declared.frame.Frame.{Frame}
pub use Rattle.model.specs.declared.geometry.Geometry.{Geometry}
pub use Rattle.recovery.specs.Denotes.{Denotes}
pub use Rattle.recovery.specs.Recovered.{RefusesToOpen}
pub use Rattle.runs.specs.KernelRuns.{RunsOver, RunsSeen}
pub use Rattle.runs.specs.Saving.{Saves}
pub use Rattle.runs.specs.Tracing.{cause_text}
pub use Rattle.runs.specs.declared.cause.Stop.{Stop}
pub use Rattle.runs.specs.declared.unsaved.Unsaved.{Unsaved}
pub use Rattle.script.specs.Writing.{Writes, Written, Wrote, WroteFront}
pub use Rattle.script.specs.declared.fault.RunFault.{RunFault}
pub use Rattle.shell.specs.Sessions.{Inspects, ServesFrom, session_at}
pub use Rattle.shell.specs.declared.session.Shell.{Shell}
pub use Rattle.std.specs.Prelude.{Bool, Err, List, None, Ok, Option, Result, Some, [], codes, decimal, false, true, ℕ}
pub use Rattle.toml.specs.Data.{Members}
