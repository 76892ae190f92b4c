-- The names of other crates that the definitions here import.
pub use Rattle.confinement.specs.Trusted.{StartsOne}
pub use Rattle.model.specs.Capability.{named, weak}
pub use Rattle.model.specs.Closed.{IsClosedBy}
pub use Rattle.model.specs.Invoke.{Effect}
unfoldable pub use Rattle.model.specs.Invoke.{invoke}
pub use Rattle.model.specs.Machine.{Running, Up}
pub use Rattle.model.specs.Object.{free, is_bank, is_free}
unfoldable pub use Rattle.model.specs.Object.{all_slots, zero_words}
pub use Rattle.model.specs.Order.{bank_order}
pub use Rattle.model.specs.Run.{IsRun, Reported, Turn}
pub use Rattle.model.specs.Sound.{IsSound}
pub use Rattle.model.specs.Text.{Fits, Says}
pub use Rattle.model.specs.World.{World, annex_at, content_at, is_process, is_running_process, object_at, owner_at}
pub use Rattle.model.specs.World.{register_at, root_at, slot_at}
pub use Rattle.model.specs.Worlds.{fresh_root, of_prime_bank}
pub use Rattle.model.specs.declared.capability.Capability.{Capability}
pub use Rattle.model.specs.declared.capability.Capability.TheVariants.{Bank, Node, Start, Void}
pub use Rattle.model.specs.declared.command.Invocation.{Invocation}
pub use Rattle.model.specs.declared.geometry.Geometry.{Geometry}
pub use Rattle.model.specs.declared.object.Object.{Object}
pub use Rattle.model.specs.declared.order.BankOrder.{BankOrder}
pub use Rattle.model_laws.specs.Confinement.{AreBy}
pub use Rattle.model_laws.specs.Worked.{Row, at_world, row}
pub use Rattle.std.specs.List.{All}
pub use Rattle.std.specs.Prelude.{Bool, IsTrue, List, None, Option, Some, [], false, map, not, replicate, slice_index}
pub use Rattle.std.specs.Prelude.{slice_set, true, ℕ}
