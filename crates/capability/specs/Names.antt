-- The names of other crates that the definitions here cite.
pub use Rattle.device.specs.declared.device.Failed.{Failed}
unfoldable pub use Rattle.model.specs.Bank.{chain, usage}
pub use Rattle.model.specs.Banking.{new_annex, new_root}
unfoldable pub use Rattle.model.specs.Banking.{inherited, with_new}
pub use Rattle.model.specs.Frame.{called, current_count, frame_at, given_up, header_at, headers, held_at}
unfoldable pub use Rattle.model.specs.Frame.{frames_in, objects_of}
pub use Rattle.model.specs.Keepable.{AreCurrent, AreKeepable, IsSoundFrames, caps_in}
pub use Rattle.model.specs.Machine.{touched_count, touching}
unfoldable pub use Rattle.model.specs.Machine.{untouched}
pub use Rattle.model.specs.Object.{is_waiting, limit_in, role_of, with_slot_in}
unfoldable pub use Rattle.model.specs.Object.{all_slots, zero_words}
pub use Rattle.model.specs.Order.{with_root_word, with_space}
pub use Rattle.model.specs.OrderOutcome.{OrderOutcome, code_number}
pub use Rattle.model.specs.Revoke.{is_given_up, is_member}
unfoldable pub use Rattle.model.specs.Revoke.{consume, rescind}
pub use Rattle.model.specs.Sound.{IsSound}
pub use Rattle.model.specs.World.{root_at}
unfoldable pub use Rattle.model.specs.World.{with_root, with_slot, with_state, with_word}
pub use Rattle.model.specs.declared.answer.Refusal.{Refusal}
pub use Rattle.model.specs.declared.command.Message.{Message}
pub use Rattle.model.specs.declared.frame.Frame.{Frame}
pub use Rattle.model.specs.declared.frame.ObjectHeader.{ObjectHeader}
pub use Rattle.model.specs.declared.geometry.Geometry.{Geometry}
pub use Rattle.model.specs.declared.object.Content.{Content}
pub use Rattle.model.specs.declared.object.Object.{Object}
pub use Rattle.model.specs.declared.object.Role.{Role}
pub use Rattle.model.specs.declared.object.Root.{Root}
pub use Rattle.model.specs.declared.object.State.TheVariants.{Available, Running}
pub use Rattle.model.specs.declared.order.ResultCode.{ResultCode}
pub use Rattle.std.specs.List.{All, Contains}
pub use Rattle.std.specs.Option.{option_to_list}
pub use Rattle.std.specs.Prelude.{Bool, IfErr, IsErr, IsErrOf, IsTrue, List, None, OnErr, OnOk, Option, Result, Some}
pub use Rattle.std.specs.Prelude.{[], false, length, replicate, slice_index_or, slice_set, take, ℕ}
pub use Rattle.model.specs.declared.capability.Cap.{Cap}
pub use Rattle.model.specs.declared.capability.Capability.{Capability}
pub use Rattle.model.specs.declared.capability.Capability.TheVariants.{Bank, Discrim, Node, Number, Page, Process}
pub use Rattle.model.specs.declared.capability.Capability.TheVariants.{Resume, Space, Start, Void}
