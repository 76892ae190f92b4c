-- The names of other crates that the definitions here cite.
pub use Rattle.capability.specs.Parts.{Parts, frames_of}
pub use Rattle.device.specs.Calls.{Agrees, Narrows, Only}
pub use Rattle.device.specs.Disk.{Disk, Image}
pub use Rattle.device.specs.Moments.{LeavesOnly, Peeks}
pub use Rattle.layout.specs.Denoted.{Encodes, IsBadBy, SavedState}
pub use Rattle.layout.specs.declared.open_fault.OpenFault.{OpenFault}
pub use Rattle.model.specs.Frame.{frame_at, header_at, held_at}
pub use Rattle.model.specs.Keepable.{AreKeepable}
unfoldable pub use Rattle.model.specs.Machine.{untouched}
pub use Rattle.model.specs.Object.{words_in}
pub use Rattle.model.specs.declared.answer.Refusal.{Refusal}
pub use Rattle.model.specs.declared.frame.Frame.{Frame}
pub use Rattle.model.specs.declared.geometry.Geometry.{Geometry}
pub use Rattle.model.specs.declared.object.Role.{Role}
pub use Rattle.std.specs.Prelude.{Bool, Err, List, None, Ok, Option, Result, Some, false, option_map, slice_set, true}
pub use Rattle.std.specs.Prelude.{ℕ, ⊤}
