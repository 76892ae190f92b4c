-- The names of other crates that the definitions here import.
pub use Rattle.description.specs.Described.{IsDescribed}
pub use Rattle.description.specs.Faults.{fault_number}
pub use Rattle.description.specs.FieldFlaws.{BreaksField}
pub use Rattle.description.specs.Reading.{IsDescription}
pub use Rattle.description.specs.Rules.{IsAccepted, IsFirstBroken, Refuses, plan_for}
pub use Rattle.description.specs.Shapes.{BreaksShape, key_name}
pub use Rattle.description.specs.declared.entry.Description.{Description}
pub use Rattle.description.specs.declared.fault.BuildFault.{BuildFault}
pub use Rattle.description.specs.declared.flaw.Indexed.{Indexed}
pub use Rattle.description.specs.declared.flaw.Part.{Part}
pub use Rattle.description.specs.declared.flaw.SlotFlaw.{SlotFlaw}
pub use Rattle.description.specs.declared.place.Flaw.{Flaw}
pub use Rattle.description.specs.declared.place.ShapePlace.{ShapePlace}
pub use Rattle.description.specs.declared.place.TableName.{TableName}
pub use Rattle.model.specs.declared.frame.Frame.{Frame}
pub use Rattle.recovery.specs.Consistency.{IsUnbanked}
pub use Rattle.recovery.specs.declared.consistency.reason.Unbanked.{Unbanked}
pub use Rattle.script.specs.Lines.{IsOneLine}
pub use Rattle.std.specs.Fmt.{debug_str}
pub use Rattle.std.specs.List.{list_any}
pub use Rattle.std.specs.Prelude.{IfSome, List, None, Option, Some, [], codes, decimal, position, unwrap_or, ℕ}
pub use Rattle.toml.specs.Data.{Members}
