-- The names of other crates that the definitions here cite.
pub use Rattle.std.specs.List.{All, Contains, count_by, enumerate_from, filter, flat_map, join_with_byte, list_all}
pub use Rattle.std.specs.List.{list_any, range_with_len}
pub use Rattle.std.specs.Prelude.{Bool, Err, IsTrue, List, None, Ok, Option, Result, Some, [], codes, decimal, false}
pub use Rattle.std.specs.Prelude.{length, map, min, nat_eq, nat_le, nat_lt, not, replicate, slice_index, slice_index_or}
pub use Rattle.std.specs.Prelude.{slice_set, suc, true, zero, ℕ}
