-- The names of other crates that the definitions here cite.
pub use Rattle.capability.specs.Changes.{bank_changed, outcome_by}
pub use Rattle.capability.specs.Parts.{AreSound, IsFreshAt, IsOnce, Parts, Renews, frames_of, objects_in}
pub use Rattle.capability.specs.declared.order.BankChange.{BankChange}
pub use Rattle.capability.specs.declared.order.Change.{Change}
pub use Rattle.capability.specs.declared.order.OrderPlan.{OrderPlan}
pub use Rattle.capability.specs.declared.present.Fresh.{Fresh}
pub use Rattle.collections.specs.Marks.{is_marked}
pub use Rattle.model.specs.Bank.{is_under}
unfoldable pub use Rattle.model.specs.Bank.{chain, usage}
unfoldable pub use Rattle.model.specs.Banking.{free_nodes, free_pages, has_quota, on_bank, owned_by, under}
pub use Rattle.model.specs.Capability.{full}
pub use Rattle.model.specs.Keepable.{AreCurrent, AreKeepable}
pub use Rattle.model.specs.Object.{is_bank, is_free, limit_in, root_in}
pub use Rattle.model.specs.OrderOutcome.{OrderOutcome, made, refused}
pub use Rattle.model.specs.Revoke.{is_member}
unfoldable pub use Rattle.model.specs.Revoke.{rescind}
pub use Rattle.model.specs.Sound.{MayBeHeld, object_count}
pub use Rattle.model.specs.World.{annex_at, content_at, is_process, object_at, owner_at}
pub use Rattle.model.specs.declared.capability.Capability.{Capability}
pub use Rattle.model.specs.declared.capability.Capability.TheVariants.{Bank, Node, Page, Process, Void}
pub use Rattle.model.specs.declared.command.Operation.{Operation}
pub use Rattle.model.specs.declared.command.Operation.TheVariants.{Call, Return, Send}
pub use Rattle.model.specs.declared.geometry.Geometry.{Geometry}
pub use Rattle.model.specs.declared.object.Content.{Content}
pub use Rattle.model.specs.declared.object.Object.{Object}
pub use Rattle.model.specs.declared.object.Role.{Role}
pub use Rattle.model.specs.declared.order.Arguments.{Arguments}
pub use Rattle.model.specs.declared.order.BankOrder.{BankOrder}
pub use Rattle.model_laws.proofs.SoundOrders.{IsNow}
pub use Rattle.model_laws.proofs.Usage.{SameFrame}
pub use Rattle.std.specs.List.{range_with_len}
pub use Rattle.std.specs.Prelude.{Bool, IsTrue, List, None, Option, Some, [], false, length, map, nat_lt, not}
pub use Rattle.std.specs.Prelude.{slice_index, slice_set, true, ℕ}
