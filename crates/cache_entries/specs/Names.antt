-- The names of other crates that the definitions here cite.
pub use Rattle.collections.specs.SparseVec.{item_at}
pub use Rattle.model.specs.Frame.{held_at, void_held}
pub use Rattle.model.specs.Revoke.{is_member}
pub use Rattle.model.specs.declared.capability.Cap.{Cap}
pub use Rattle.model.specs.declared.object.Content.{Content}
pub use Rattle.model.specs.declared.object.Root.{Root}
pub use Rattle.std.specs.List.{range_with_len}
pub use Rattle.std.specs.Option.{unwrap_or}
pub use Rattle.std.specs.Prelude.{Bool, IsSome, List, None, Option, Some, [], false, is_some, length, map, nat_lt}
pub use Rattle.std.specs.Prelude.{option_map, slice_get, slice_index, slice_index_or, slice_set, take, true, ℕ}
