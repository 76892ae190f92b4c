-- The names of other crates that the definitions here import.
pub use Rattle.collections.specs.Marks.{is_marked}
pub use Rattle.confinement.specs.Trusted.{IsClosedBut, IsConfinedBut, StartsOne, StaysBut}
pub use Rattle.json_lines.specs.Objects.{key_text, number_line, text_object}
pub use Rattle.json_lines.specs.declared.format.Format.{Format}
pub use Rattle.json_lines.specs.declared.key.Key.{Key}
pub use Rattle.json_lines.specs.declared.object.Member.{Member}
pub use Rattle.model.specs.Capability.{IsWeak, named}
pub use Rattle.model.specs.Closed.{IsClosedBy}
pub use Rattle.model.specs.Machine.{Running, Up}
pub use Rattle.model.specs.Object.{is_bank, is_free, is_root, root_in, slots_in}
pub use Rattle.model.specs.Run.{IsRun, Turn}
pub use Rattle.model.specs.Sound.{IsSound}
pub use Rattle.model.specs.Text.{line_of, spaced}
unfoldable pub use Rattle.model.specs.Text.{capability_text}
pub use Rattle.model.specs.World.{annex_at, content_at, is_process, object_at, owner_at, root_at, slot_at}
pub use Rattle.model.specs.declared.capability.Capability.{Capability}
pub use Rattle.model.specs.declared.capability.Capability.TheVariants.{Bank, Process, Resume, Start, Void}
pub use Rattle.model.specs.declared.geometry.Geometry.{Geometry}
pub use Rattle.model.specs.declared.object.Content.{Content}
pub use Rattle.model.specs.declared.object.Object.{Object}
pub use Rattle.model_laws.specs.Confinement.{AreBy, with_free}
pub use Rattle.noninterference.specs.Reads.{IsReadClosedBut, NamesBut}
pub use Rattle.std.specs.List.{All, Contains, count_by, enumerate_from, flat_map}
pub use Rattle.std.specs.Prelude.{Bool, IsTrue, List, None, Option, Some, Vec, [], codes, decimal, false, length, not}
pub use Rattle.std.specs.Prelude.{slice_index_or, suc, true, ℕ}
pub use Rattle.std.specs.declared.alloc.Global.{Global}
