-- The names that the proofs here cite: of other crates, and of the definitions of this one.
pub use Rattle.capability.proofs.FrameLists.{known_used, node_used, page_used}
pub use Rattle.capability.proofs.Keeping.{keepable_later}
pub use Rattle.capability.specs.Parts.{AreSound, Parts, frames_of, objects_in}
pub use Rattle.model.specs.Capability.{IsAccess, IsWellFormed, union}
unfoldable pub use Rattle.model.specs.Frame.{objects_of}
pub use Rattle.model.specs.Keepable.{AreCurrent, AreKeepable, IsSoundFrames, world_at}
pub use Rattle.model.specs.Object.{is_page, is_waiting}
pub use Rattle.model.specs.Sound.{IsSound, MayBeHeld}
pub use Rattle.model.specs.Walk.{below, path, restricted, walk_along}
pub use Rattle.model.specs.World.{World, content_at, root_at, slot_at}
unfoldable pub use Rattle.model.specs.World.{with_word}
pub use Rattle.model.specs.declared.access.Access.{Access}
pub use Rattle.model.specs.declared.answer.MemoryFault.{MemoryFault}
pub use Rattle.model.specs.declared.answer.MemoryFault.TheVariants.{Hole, Malformed}
pub use Rattle.model.specs.declared.capability.Capability.{Capability}
pub use Rattle.model.specs.declared.capability.Capability.TheVariants.{Page, Space, Void}
pub use Rattle.model.specs.declared.frame.Frame.{Frame}
pub use Rattle.model.specs.declared.geometry.Geometry.{Geometry}
pub use Rattle.model.specs.declared.object.Object.{Object}
pub use Rattle.model_laws.proofs.SoundEdits.{edited_word}
pub use Rattle.model_laws.proofs.SoundParts.{Waits, nearly_from, nearly_to, nearly_weaken}
pub use Rattle.std.proofs.Common.{Bool, Err, IfOk, List, Ok, Result, [], ap, arith, bit_or, length, refl, rules, subst, suc, sym, zero, ℕ}
pub use Rattle.std.proofs.lemmas.Bool.{eq-eqb, ne_eqb}
pub use Rattle.std.proofs.lemmas.Bool.Decides.{nat_tests}
pub use Rattle.std.specs.Prelude.{IsTrue}
pub use Rattle.address_space.specs.declared.walking.Tree.{Tree}
