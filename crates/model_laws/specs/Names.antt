-- The names of other crates that the definitions here cite.
unfoldable pub use Rattle.model.specs.Bank.{chain}
pub use Rattle.model.specs.Banking.{freed_by}
unfoldable pub use Rattle.model.specs.Banking.{on_bank, under}
pub use Rattle.model.specs.Capability.{IsWeak, diminished, full, named, weak}
pub use Rattle.model.specs.Closed.{IsClosed}
pub use Rattle.model.specs.Invoke.{Effect}
unfoldable pub use Rattle.model.specs.Invoke.{invoke}
pub use Rattle.model.specs.Machine.{Down, Machine, Saved, Up, candidates, opened, touched_count, touching}
pub use Rattle.model.specs.Object.{free, is_bank, is_free}
unfoldable pub use Rattle.model.specs.Object.{all_slots, zero_words}
pub use Rattle.model.specs.Order.{IsNoBankOrder, fetched}
pub use Rattle.model.specs.Revoke.{is_given_up, is_member, names_member, resumes, without}
unfoldable pub use Rattle.model.specs.Revoke.{consume, rescind}
pub use Rattle.model.specs.Run.{BadLine, IsRun, Reply, Reported, Turn, lines_of, output_of}
pub use Rattle.model.specs.Sound.{IsSound, MayBeHeld}
pub use Rattle.model.specs.Step.{MayFail, Outcome, Proceeds, Step, journaled, opens, outcome, reached, second, shown}
pub use Rattle.model.specs.Step.{takes_memory, unjournaled, without_memory, writable}
unfoldable pub use Rattle.model.specs.Step.{carried_out, refusal_of}
pub use Rattle.model.specs.Text.{Fits, Says, line_of}
unfoldable pub use Rattle.model.specs.Text.{printed, spelling}
pub use Rattle.model.specs.World.{World, content_at, is_running_process, object_at, owner_at, register_at, root_at}
pub use Rattle.model.specs.World.{slot_at}
unfoldable pub use Rattle.model.specs.World.{with_slot}
pub use Rattle.model.specs.Worlds.{fresh_root, of_prime_bank, prime_bank, small}
unfoldable pub use Rattle.model.specs.Worlds.{f0, i0}
pub use Rattle.model.specs.declared.access.Access.{Access}
pub use Rattle.model.specs.declared.answer.Answer.{Answer}
pub use Rattle.model.specs.declared.answer.MemoryFault.{MemoryFault}
pub use Rattle.model.specs.declared.answer.Refusal.{Refusal}
pub use Rattle.model.specs.declared.answer.Unjournaled.TheVariants.{NotPage, Renewed}
pub use Rattle.model.specs.declared.capability.Capability.{Capability}
pub use Rattle.model.specs.declared.capability.Capability.TheVariants.{Bank, Discrim, Node, Number, Page, Process}
pub use Rattle.model.specs.declared.capability.Capability.TheVariants.{Resume, Space, Start, Void}
pub use Rattle.model.specs.declared.command.Command.{Command}
pub use Rattle.model.specs.declared.command.Invocation.{Invocation}
pub use Rattle.model.specs.declared.command.Operation.{Operation}
pub use Rattle.model.specs.declared.command.Operation.TheVariants.{Call, Return, Send}
pub use Rattle.model.specs.declared.geometry.Geometry.{Geometry}
pub use Rattle.model.specs.declared.line.Line.{Line}
pub use Rattle.model.specs.declared.object.Object.{Object}
pub use Rattle.model.specs.declared.object.State.TheVariants.{Running}
pub use Rattle.model.specs.declared.order.Arguments.{Arguments}
pub use Rattle.model.specs.declared.order.BankOrder.{BankOrder}
pub use Rattle.std.specs.List.{All, Contains, flat_map}
pub use Rattle.std.specs.Prelude.{Bool, Err, IsTrue, List, None, Ok, Option, Some, [], codes, false, length, map}
pub use Rattle.std.specs.Prelude.{replicate, slice_get, slice_index, slice_set, true, ℕ}
