-- The names that the proofs here cite: of other crates, and of the definitions of this one.
pub use Rattle.byteorder.specs.Endian.{little_bytes, little_number}
pub use Rattle.byteorder.specs.Numbers.{little_from-take, little_number-reads_back}
pub use Rattle.std.proofs.Common.{Bool, List, [], ap, arith, drop, eqb, get_or, inl, inr, length, lit≤, map, refl, replicate, subst, suc, sym, take, true, zero}
pub use Rattle.std.proofs.Common.{ℕ}
pub use Rattle.std.proofs.Math.Nat.{add-mul, mul-zero, mul_comm}
pub use Rattle.std.proofs.lemmas.Bool.{cases_eq, cases_lt, cases_order}
pub use Rattle.std.proofs.lemmas.Bool.Decides.{nat_tests}
pub use Rattle.std.proofs.lemmas.List.{append-nil, append_assoc, drop-drop, drop-replicate, drop_all, drop_at, get_or-drop, get_or-replicate, get_or-take}
pub use Rattle.std.proofs.lemmas.List.{get_or_default, get_or_past, length-append, length-drop, length-replicate, length-take, length-take-le, length_push}
pub use Rattle.std.proofs.lemmas.List.{same_from_push, same_lists, take-append-drop, take-replicate, take_all, take_at, take_more, take_rest}
pub use Rattle.std.proofs.lemmas.List.Elements.{All-from_get_or, All-get_or, All-take}
pub use Rattle.std.proofs.lemmas.List.FromFn.{get_or-map-range_with_len, length-map-range_with_len}
pub use Rattle.std.proofs.lemmas.Nat.{le_bytes_8, mul-le}
pub use Rattle.std.proofs.lemmas.Nat.Bits.{same_from_bits_below}
pub use Rattle.std.specs.Int.{bit_at, from_le_bytes, w64}
pub use Rattle.std.specs.List.{All, between}
pub use Rattle.seal.specs.Damage.{DifferInBurst, IsRow, differences, row_bit}
pub use Rattle.seal.specs.Laws.{BodiesDecideSeals, BurstsBreakSeals, BurstsChangeSums, FewChangesChangeSums, SumsFit, ZerosAreSealed}
pub use Rattle.seal.specs.Seal.{IsSealed, body_of, seal_of}
pub use Rattle.seal.specs.Sums.{Fit, weighted}
unfoldable pub use Rattle.seal.specs.Sums.{numbers, sums_bytes, sums_of}
pub use Rattle.seal.specs.declared.sums.Sums.{Sums}
