-- The names of other crates that the definitions here import.
pub use Rattle.model.specs.Capability.{full, weak}
pub use Rattle.model.specs.Text.{line_of, operation_name, spaced}
unfoldable pub use Rattle.model.specs.Text.{command_words, printed}
pub use Rattle.model.specs.declared.access.Access.{Access}
pub use Rattle.model.specs.declared.answer.Answer.{Answer}
pub use Rattle.model.specs.declared.capability.Capability.{Capability}
pub use Rattle.model.specs.declared.command.Command.{Command}
pub use Rattle.model.specs.declared.command.Operation.{Operation}
pub use Rattle.std.specs.Io.KnownBytes.{Appends}
pub use Rattle.std.specs.List.{All, position_or_len, slice_split}
pub use Rattle.std.specs.Prelude.{Bool, Err, List, MatchResult, None, Ok, Option, Result, Some, [], codes, decimal}
pub use Rattle.std.specs.Prelude.{false, get_or, length, nat_le, nat_lt, option_map, slice_get, slice_index_or, suc}
pub use Rattle.std.specs.Prelude.{take, true, ℕ}
pub use Rattle.std.specs.Str.{bytes_eq}
pub use Rattle.std.specs.Str.Parse.{AllDigits, digits_value}
