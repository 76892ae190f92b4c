-- The names of other crates that the definitions here cite.
pub use Rattle.capability.specs.Changes.{changed, message_of, outcome_by, reply_of_code, written_of}
pub use Rattle.capability.specs.Parts.{AreSameUnlessFailed, Parts, Renews, frames_of, objects_in}
pub use Rattle.capability.specs.declared.order.Caller.{Caller}
pub use Rattle.capability.specs.declared.order.Change.{Change}
pub use Rattle.capability.specs.declared.order.OrderPlan.{OrderPlan}
pub use Rattle.capability.specs.declared.order.Reply.{Reply}
pub use Rattle.model.specs.Capability.{named, union}
pub use Rattle.model.specs.Invoke.{Effect, after_gate, ordered, sent_by}
unfoldable pub use Rattle.model.specs.Invoke.{deliver, invoke}
pub use Rattle.model.specs.Keepable.{IsKeptCap, IsSoundFrames}
pub use Rattle.model.specs.Machine.{touched_count, touching}
pub use Rattle.model.specs.Object.{is_node}
pub use Rattle.model.specs.Order.{IsNoBankOrder, reduces}
unfoldable pub use Rattle.model.specs.Order.{order}
pub use Rattle.model.specs.OrderOutcome.{OrderOutcome}
unfoldable pub use Rattle.model.specs.Revoke.{consume}
pub use Rattle.model.specs.Sound.{IsSpace}
pub use Rattle.model.specs.World.{annex_at, content_at, is_process, is_running_process, register_at}
unfoldable pub use Rattle.model.specs.World.{with_state}
pub use Rattle.model.specs.declared.answer.Refusal.{Refusal}
pub use Rattle.model.specs.declared.capability.Capability.{Capability}
pub use Rattle.model.specs.declared.capability.Capability.TheVariants.{Node, Number, Page, Process, Resume, Space}
pub use Rattle.model.specs.declared.capability.Capability.TheVariants.{Start, Void}
pub use Rattle.model.specs.declared.command.Invocation.{Invocation}
pub use Rattle.model.specs.declared.command.Operation.{Operation}
pub use Rattle.model.specs.declared.command.Operation.TheVariants.{Call, Return, Send}
pub use Rattle.model.specs.declared.geometry.Geometry.{Geometry}
pub use Rattle.model.specs.declared.object.Object.{Object}
pub use Rattle.model.specs.declared.object.State.TheVariants.{Available}
pub use Rattle.model.specs.declared.order.Arguments.{Arguments}
pub use Rattle.model.specs.declared.order.ResultCode.{ResultCode}
pub use Rattle.model_laws.proofs.SoundOrders.{IsNow}
pub use Rattle.model_laws.proofs.Usage.{SameFrame}
pub use Rattle.space_bank.specs.Allocating.{numbers_of}
pub use Rattle.space_bank.specs.Carrying.{MayMake}
pub use Rattle.space_bank.specs.Planning.{writer_count, writers}
pub use Rattle.std.specs.List.{All}
pub use Rattle.std.specs.Prelude.{Bool, Err, IfErr, IfOk, IsErrOf, IsTrue, List, None, Ok, OnErr, OnOk, Option, Result}
pub use Rattle.std.specs.Prelude.{Some, [], drop, false, length, slice_index, slice_index_or, slice_set, true, ℕ}
