-- The names of other crates that the definitions here import.
pub use Rattle.description.specs.Described.{HasFields, IsDescribed, IsWorldFault, first_named}
pub use Rattle.description.specs.Describes.{Describes}
pub use Rattle.description.specs.Reading.{IsDescription, whole_ranges}
pub use Rattle.description.specs.declared.entry.BankEntry.{BankEntry}
pub use Rattle.description.specs.declared.entry.Description.{Description}
pub use Rattle.description.specs.declared.entry.NodeEntry.{NodeEntry}
pub use Rattle.description.specs.declared.entry.PageEntry.{PageEntry}
pub use Rattle.description.specs.declared.entry.ProcessEntry.{ProcessEntry}
pub use Rattle.description.specs.declared.entry.SlotEntry.{SlotEntry}
pub use Rattle.description.specs.declared.entry.WordEntry.{WordEntry}
pub use Rattle.description.specs.declared.fault.BuildFault.{BuildFault}
pub use Rattle.description.specs.declared.fault.BuildFault.TheVariants.{NoMemory}
pub use Rattle.description.specs.declared.sizes.GrowthFault.{GrowthFault}
pub use Rattle.home_ranges.specs.Laid.{numbers_of}
pub use Rattle.home_ranges.specs.declared.number_range.NumberRange.{NumberRange}
pub use Rattle.layout.specs.Superblock.{IsGeometry, IsPlan, Plan, version_number}
pub use Rattle.model.specs.Capability.{named}
pub use Rattle.model.specs.Keepable.{IsSoundFrames, world_at}
pub use Rattle.model.specs.Object.{free, is_free, map_content, role_of}
pub use Rattle.model.specs.Sound.{IsSound, object_count}
pub use Rattle.model.specs.Text.{line_of, state_text}
unfoldable pub use Rattle.model.specs.Text.{capability_text}
pub use Rattle.model.specs.World.{World, content_at, object_at}
pub use Rattle.model.specs.declared.capability.Capability.{Capability}
pub use Rattle.model.specs.declared.capability.Capability.TheVariants.{Bank, Discrim, Node, Number, Page, Process}
pub use Rattle.model.specs.declared.capability.Capability.TheVariants.{Resume, Space, Start, Void}
pub use Rattle.model.specs.declared.frame.Frame.{Frame}
pub use Rattle.model.specs.declared.geometry.Geometry.{Geometry}
pub use Rattle.model.specs.declared.object.Object.{Object}
pub use Rattle.model.specs.declared.object.Role.{Role}
pub use Rattle.model.specs.declared.object.State.{State}
pub use Rattle.std.specs.List.{All, AllZip, Contains, flat_map, join_by, list_all}
pub use Rattle.std.specs.Prelude.{Bool, IfSome, List, None, Option, Some, [], codes, decimal, false, length, map}
pub use Rattle.std.specs.Prelude.{nat_lt, slice_index_or, unwrap_or, ℕ}
pub use Rattle.toml.specs.Data.{Members}
unfoldable pub use Rattle.toml.specs.Parse.{parse_document}
