-- The names that the proofs here cite: of other crates, and of the definitions of this one.
pub use Rattle.device.specs.Disk.{Image}
pub use Rattle.layout.proofs.Extents.{cover_within, range_at}
pub use Rattle.layout.proofs.Halves.{apart_inside, apart_turned, half_at, itself, many}
pub use Rattle.layout.proofs.Shapes.{same_shaped}
pub use Rattle.layout.proofs.SlotsOf.{found_slot, slot_behind, slot_here}
pub use Rattle.layout.proofs.Versions.{aligned_least, aligned_most, aligned_multiple, first_multiple, half_few, half_multiple, opened_half, sum_multiple}
unfoldable pub use Rattle.layout.specs.Bytes.{zeros}
pub use Rattle.layout.specs.Directory.{IsEntry, entry_at}
pub use Rattle.layout.specs.Frames.{IsObject}
pub use Rattle.layout.specs.Half.{half_of}
pub use Rattle.layout.specs.Homes.{home_place, place_by, place_in, place_length, range_with, rank_in, shape_of}
pub use Rattle.layout.specs.Image.{frame_slot_in, or_beside, slot_beside, slot_by, slot_in}
unfoldable pub use Rattle.layout.specs.Image.{sectors_from}
pub use Rattle.layout.specs.Shape.{AreBeside, IsBlankFrom, node_shape, page_shape, shape_bytes, shape_end, shape_length}
pub use Rattle.layout.specs.Superblock.{AreApart, Cover, IsApart, IsInside, IsOfOneKind, IsPlan, IsWithin, MayBegin, Plan, extent_at, extents, half_extent, half_start}
pub use Rattle.layout.specs.Superblock.{nodes_length, range_extent}
unfoldable pub use Rattle.layout.specs.Superblock.{half_length}
pub use Rattle.layout.specs.Version.{aligned, row}
pub use Rattle.layout.specs.declared.directory.Entry.{Entry}
pub use Rattle.layout.specs.declared.extent.Extent.{Extent}
pub use Rattle.layout.specs.declared.extent.HomeRange.{HomeRange}
pub use Rattle.layout.specs.declared.half.Half.{Half}
pub use Rattle.layout.specs.declared.half.Half.TheVariants.{First, Second}
pub use Rattle.layout.specs.declared.shape.Shape.{Shape}
pub use Rattle.layout.specs.declared.version.Version.{Version}
pub use Rattle.layout.specs.declared.version.Version.TheVariants.{One, Two}
pub use Rattle.model.specs.declared.geometry.Geometry.{Geometry}
pub use Rattle.std.proofs.Common.{Bool, List, None, Option, Some, [], ap, append_assoc, arith, drop, false, get_or, inl, inr, length, map, min, nat_lt, refl}
pub use Rattle.std.proofs.Common.{replicate, set, subst, suc, sym, take, true, zero, ℕ}
pub use Rattle.std.proofs.lemmas.Bool.{cases_eq, cases_lt, eq-eqb, false≢true, le-ltb, lt-ltb, ne_eqb}
pub use Rattle.std.proofs.lemmas.Bool.Decides.{nat_tests}
pub use Rattle.std.proofs.lemmas.List.{append-nil, drop-drop, drop-replicate, drop_all, drop_more, get_or-map, get_or_append_left, length-map, length-replicate}
pub use Rattle.std.proofs.lemmas.List.{length-set, take_all, take_more_set}
pub use Rattle.std.proofs.lemmas.List.Elements.{All-head, All-tail}
pub use Rattle.std.proofs.lemmas.Option.{same_Some}
pub use Rattle.std.proofs.lemmas.Result.{on_ok_weaker}
pub use Rattle.std.specs.List.{All}
pub use Rattle.std.specs.Prelude.{IfNone, IfSome}
pub use Rattle.home_ranges.specs.Home.{EndsInZeros, HaveHome, HoldsHome, IsFirstOf, frames_in_block}
pub use Rattle.home_ranges.specs.Laid.{MayBeLaid, numbers_of, placed, plan_from, sectors_of}
unfoldable pub use Rattle.home_ranges.specs.Laid.{behind, laid}
pub use Rattle.home_ranges.specs.Laws.{NumbersAreApart, PlacesAreApart, PlacesAreWithin, PlacesSpareLog, home_extent}
pub use Rattle.home_ranges.specs.declared.number_range.NumberRange.{NumberRange}
