-- The names of other crates that the definitions here import.
pub use Rattle.capability.specs.Consistency.{AreBanked, AreNamed, AreWholeProcesses, NamesItsRole}
pub use Rattle.capability.specs.Plain.{fresh_cap}
pub use Rattle.home_ranges.specs.Laid.{MayBeLaid, placed, plan_from}
pub use Rattle.home_ranges.specs.declared.number_range.NumberRange.{NumberRange}
pub use Rattle.layout.specs.Superblock.{IsGeometry, IsNext, Plan, version_number}
pub use Rattle.layout.specs.declared.version.Version.{Version}
pub use Rattle.layout.specs.declared.version.Version.TheVariants.{One, Two, Three}
pub use Rattle.model.specs.Capability.{IsWellFormed, named}
pub use Rattle.model.specs.Frame.{blank_frame, frame_at, void_held}
unfoldable pub use Rattle.model.specs.Frame.{frames_in}
pub use Rattle.model.specs.Keepable.{AreKeepable, AreKeptWords, IsTarget}
pub use Rattle.model.specs.Object.{map_content, role_of}
pub use Rattle.model.specs.Sound.{IsSpace, object_count}
pub use Rattle.model.specs.Text.{state_text}
unfoldable pub use Rattle.model.specs.Text.{capability_text}
pub use Rattle.model.specs.World.{World}
pub use Rattle.model.specs.declared.capability.Cap.{Cap}
pub use Rattle.model.specs.declared.capability.Capability.{Capability}
pub use Rattle.model.specs.declared.capability.Capability.TheVariants.{Number, Void}
pub use Rattle.model.specs.declared.frame.Frame.{Frame}
pub use Rattle.model.specs.declared.frame.ObjectHeader.{ObjectHeader}
pub use Rattle.model.specs.declared.geometry.Geometry.{Geometry}
pub use Rattle.model.specs.declared.object.Content.{Content}
pub use Rattle.model.specs.declared.object.Object.{Object}
pub use Rattle.model.specs.declared.object.State.{State}
pub use Rattle.model.specs.declared.object.State.TheVariants.{Available}
pub use Rattle.std.specs.List.{All, Contains, list_any}
pub use Rattle.std.specs.Prelude.{Bool, Err, IfSome, IsSomeAnd, IsTrue, List, MatchOption, None, Ok, Option, Result}
pub use Rattle.std.specs.Prelude.{Some, [], codes, false, length, map, option_map, pos, replicate, slice_get, slice_set}
pub use Rattle.std.specs.Prelude.{suc, take, true, unwrap_or, vec_len, zero, ℕ}
pub use Rattle.toml.specs.Data.{Data, Items, Members, array, get_member, integer, item, member, no_items, no_members}
pub use Rattle.toml.specs.Data.{same_key, string, table}
