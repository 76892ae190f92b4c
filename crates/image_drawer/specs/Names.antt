-- The names of other crates that the definitions here import.
pub use Rattle.collections.specs.Marks.{is_marked}
pub use Rattle.description.specs.Describes.{Describes}
pub use Rattle.description.specs.declared.entry.BankEntry.{BankEntry}
pub use Rattle.description.specs.declared.entry.Description.{Description}
pub use Rattle.description.specs.declared.entry.NodeEntry.{NodeEntry}
pub use Rattle.description.specs.declared.entry.PageEntry.{PageEntry}
pub use Rattle.description.specs.declared.entry.ProcessEntry.{ProcessEntry}
pub use Rattle.description.specs.declared.entry.SlotEntry.{SlotEntry}
unfoldable pub use Rattle.model.specs.Bank.{chain}
pub use Rattle.model.specs.Capability.{access_bits, named}
pub use Rattle.model.specs.Object.{is_annex, is_bank, is_free, is_node}
pub use Rattle.model.specs.Sound.{IsSound}
pub use Rattle.model.specs.Text.{line_of, spaced, state_text}
unfoldable pub use Rattle.model.specs.Text.{capability_text}
pub use Rattle.model.specs.World.{World, content_at, is_process, owner_at, register_at, root_at, slot_at}
pub use Rattle.model.specs.declared.capability.Capability.{Capability}
pub use Rattle.model.specs.declared.capability.Capability.TheVariants.{Discrim, Number, Resume, Space, Start, Void}
pub use Rattle.model.specs.declared.geometry.Geometry.{Geometry}
pub use Rattle.model.specs.declared.object.Object.{Object}
pub use Rattle.model.specs.declared.object.State.{State}
pub use Rattle.std.specs.List.{AllZip, Contains, filter, flat_map, list_any}
pub use Rattle.std.specs.Prelude.{Bool, IsTrue, List, None, Option, Some, [], codes, decimal, false, length, map, true}
pub use Rattle.std.specs.Prelude.{unwrap_or, ℕ}
