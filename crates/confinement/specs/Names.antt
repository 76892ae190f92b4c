-- The names of other crates that the definitions here import.
pub use Rattle.model.specs.Capability.{full}
pub use Rattle.model.specs.Closed.{IsClosed, IsClosedBy, StaysInside}
pub use Rattle.model.specs.Invoke.{Effect}
unfoldable pub use Rattle.model.specs.Invoke.{invoke}
pub use Rattle.model.specs.Machine.{Running, Up}
pub use Rattle.model.specs.Object.{free, is_bank, is_free}
unfoldable pub use Rattle.model.specs.Object.{all_slots, zero_words}
pub use Rattle.model.specs.Run.{IsRun, Turn}
pub use Rattle.model.specs.Sound.{IsSound}
pub use Rattle.model.specs.Text.{Fits}
pub use Rattle.model.specs.World.{World, annex_at, content_at, is_process, is_running_process, object_at, owner_at}
pub use Rattle.model.specs.World.{root_at, slot_at}
pub use Rattle.model.specs.Worlds.{fresh_root, of_prime_bank, prime_bank}
pub use Rattle.model.specs.declared.capability.Capability.{Capability}
pub use Rattle.model.specs.declared.capability.Capability.TheVariants.{Node, Page, Start, Void}
pub use Rattle.model.specs.declared.command.Command.{Command}
pub use Rattle.model.specs.declared.command.Invocation.{Invocation}
pub use Rattle.model.specs.declared.geometry.Geometry.{Geometry}
pub use Rattle.model.specs.declared.object.Object.{Object}
pub use Rattle.model_laws.specs.Confinement.{AreBy, IsKept, with_free}
pub use Rattle.model_laws.specs.Worked.{Row, at_world, row}
pub use Rattle.std.specs.Prelude.{Bool, IsTrue, List, Some, [], false, not, replicate, slice_set, true, ℕ}
