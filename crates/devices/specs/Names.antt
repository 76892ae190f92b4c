-- The names of other crates that the definitions here cite.
pub use Rattle.collections.specs.SparseVec.{item_at}
pub use Rattle.device.specs.Calls.{Agrees, image_of, sectors_of}
pub use Rattle.device.specs.Disk.{Disk, Image, IsWhole}
pub use Rattle.std.proofs.Common.{ap, arith, length-drop, refl, subst, sym}
pub use Rattle.std.proofs.Math.Path.{fun_ext}
pub use Rattle.std.proofs.lemmas.Bool.{or_parts}
pub use Rattle.std.proofs.lemmas.List.{drop_all, length-take-le, take_all}
pub use Rattle.std.proofs.lemmas.List.Elements.{All-drop, All-take}
pub use Rattle.std.specs.Coded.{Coded, code_by, coded_list, coded_ℕ, coded×}
pub use Rattle.std.specs.List.{concat, flat_map, sum_by}
pub use Rattle.std.specs.Prelude.{All, Bool, IfSome, IsErr, List, MatchResult, None, Option, Result, Some, [], drop, false, length, map}
pub use Rattle.std.specs.Prelude.{option_map, replicate, suc, take, true, unwrap_or, vec_len, zero, ℕ, ⊤}
