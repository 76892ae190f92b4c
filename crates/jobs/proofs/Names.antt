-- The names that the proofs here import: from other crates, and from the definitions of this one.
pub use Rattle.capability.specs.Parts.{Parts}
pub use Rattle.checkpoint.specs.Store.{View}
pub use Rattle.checkpoint.specs.declared.committed.Checkpoint.{Checkpoint}
pub use Rattle.description.specs.Reading.{IsDescription}
pub use Rattle.description.specs.Rules.{IsWithinLimits, plan_for}
pub use Rattle.description.specs.declared.entry.Description.{Description}
pub use Rattle.description.specs.declared.fault.BuildFault.{BuildFault}
pub use Rattle.description.specs.declared.fault.BuildFault.TheVariants.{Failed}
pub use Rattle.device.specs.Disk.{Disk}
pub use Rattle.image_builder.specs.Built.{BuildsFrom}
pub use Rattle.image_builder.specs.Upgraded.{ReadsAndCloses, Upgrades, new_plan}
pub use Rattle.image_builder.specs.declared.new_layout.NewLayout.{NewLayout}
pub use Rattle.image_builder.specs.declared.upgrade_fault.UpgradeFault.{UpgradeFault}
pub use Rattle.image_writer.specs.Written.{first_saved}
pub use Rattle.json_lines.specs.declared.format.Format.{Format}
pub use Rattle.layout.specs.declared.open_fault.OpenFault.{OpenFault}
pub use Rattle.model.specs.Machine.{Up, opened}
pub use Rattle.model.specs.Run.{Turn}
pub use Rattle.model.specs.Text.{line_of}
pub use Rattle.model.specs.declared.answer.Answer.{Answer}
pub use Rattle.model.specs.declared.geometry.Geometry.{Geometry}
pub use Rattle.recovery.specs.Denotes.{saved_of}
pub use Rattle.recovery.specs.Recovered.{Recovers}
pub use Rattle.recovery.specs.declared.live.Live.{Live}
pub use Rattle.runs.specs.KernelRuns.{AreSeen}
pub use Rattle.runs.specs.Tracing.{Ends, Sees}
pub use Rattle.runs.specs.declared.cause.Stop.{Stop}
pub use Rattle.runs.specs.declared.tracer.Tracer.{Tracer}
pub use Rattle.script.specs.Writing.{Writes, Written, Wrote, WroteFront}
pub use Rattle.script.specs.declared.fault.RunFault.{RunFault}
pub use Rattle.std.proofs.Common.{Bool, Err, List, None, Ok, Option, Result, Some, [], ap, false, refl, subst, sym, true, ℕ, ⊎_elim}
pub use Rattle.std.specs.Prelude.{IfErr, IsErrOf, OnErr, OnOk}
pub use Rattle.toml.specs.Data.{Members}
pub use Rattle.jobs.specs.Faults.{HasStop, IsRunEnd, after_write}
pub use Rattle.jobs.specs.Images.{BuildsImage, ChecksImage, OpensAndRuns, OpensAndSees, RunsImage, SeesImage, TellsSaved, TellsTotal, UpgradesAndTells}
pub use Rattle.jobs.specs.Images.{UpgradesImage, built_text, checked_text, old_failed, upgraded_text}
pub use Rattle.jobs.specs.Saving.{SavesImage, saved_end}
pub use Rattle.jobs.specs.declared.fault.Fault.{Fault}
