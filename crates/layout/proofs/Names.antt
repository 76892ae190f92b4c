-- The names that the proofs here cite: of other crates, and of the definitions of this one.
pub use Rattle.byteorder.specs.Endian.{IsRead, little_number}
pub use Rattle.byteorder.specs.Numbers.{little_from-take, little_number-reads_back}
pub use Rattle.device.specs.Calls.{sectors_of}
pub use Rattle.device.specs.Disk.{Image}
pub use Rattle.model.specs.Capability.{IsAccess, access_bits, tag_of}
pub use Rattle.model.specs.Frame.{blank_frame, content_behind, frame_at, void_held}
pub use Rattle.model.specs.Keepable.{AreKeptSlots, AreKeptWords, Follows, IsCount, IsKeepable, IsKept, IsKeptCap, MayBeKept}
pub use Rattle.model.specs.Object.{is_free, role_number, role_of, state_number}
unfoldable pub use Rattle.model.specs.Object.{zero_words}
pub use Rattle.model.specs.Sound.{IsOfKind}
pub use Rattle.model.specs.declared.access.Access.{Access}
pub use Rattle.model.specs.declared.capability.Cap.{Cap}
pub use Rattle.model.specs.declared.capability.Capability.{Capability}
pub use Rattle.model.specs.declared.frame.Frame.{Frame}
pub use Rattle.model.specs.declared.frame.ObjectHeader.{ObjectHeader}
pub use Rattle.model.specs.declared.geometry.Geometry.{Geometry}
pub use Rattle.model.specs.declared.object.Content.{Content}
pub use Rattle.model.specs.declared.object.ContentRef.{ContentRef}
pub use Rattle.model.specs.declared.object.Role.{Role}
pub use Rattle.model.specs.declared.object.Root.{Root}
pub use Rattle.model.specs.declared.object.State.{State}
pub use Rattle.seal.proofs.Bursts.{are_bytes, few_differ, same_byte}
pub use Rattle.seal.proofs.Damaged.{bursts_break, row_words, zeros_sealed}
pub use Rattle.seal.proofs.Runs.{turned_round}
pub use Rattle.seal.proofs.Spelled.{length_sums, one_spelling, zero_bytes}
pub use Rattle.seal.proofs.Weights.{same_sums}
pub use Rattle.seal.specs.Damage.{DifferInBurst, IsRow, differences}
pub use Rattle.seal.specs.Seal.{IsSealed, body_of, seal_of}
unfoldable pub use Rattle.seal.specs.Sums.{sums_bytes, sums_of}
pub use Rattle.seal.specs.declared.sums.Sums.{Sums}
pub use Rattle.std.proofs.Common.{Bool, Bor, List, None, Result, Some, [], ap, append_assoc, arith, cond, drop, false, get_or, inl, inr, length, nat_lt, refl}
pub use Rattle.std.proofs.Common.{rules, set, subst, suc, sym, take, true, zero, ℕ, ⊎_elim}
pub use Rattle.std.proofs.Math.Nat.{add-mul, mul-add, mul_assoc, mul_comm, pow-suc}
pub use Rattle.std.proofs.Math.Seq.{drop-cons, take-add}
pub use Rattle.std.proofs.lemmas.Bool.{cases_Bool, cases_eq, cases_lt, eq-eqb, false≢true, le-ltb, lt-ltb, ne_eqb}
pub use Rattle.std.proofs.lemmas.Bool.Decides.{nat_tests}
pub use Rattle.std.proofs.lemmas.Grind.{common_steps}
pub use Rattle.std.proofs.lemmas.List.{append-nil, drop-append-le, drop-drop, drop-replicate, drop-take, drop_all, drop_at, drop_more, get_or-append-add}
pub use Rattle.std.proofs.lemmas.List.{get_or-append_right, get_or-drop, get_or-map, get_or-replicate, get_or-take, get_or_append_left, get_or_default}
pub use Rattle.std.proofs.lemmas.List.{get_or_past, length-append, length-drop, length-map, length-replicate, length-set, length-take, length-take-le}
pub use Rattle.std.proofs.lemmas.List.{replicate-append-replicate, same_lists, take-append-drop, take-append-le, take-replicate, take-take, take_all, take_at}
pub use Rattle.std.proofs.lemmas.List.{take_more, take_more_set, take_rest}
pub use Rattle.std.proofs.lemmas.List.Concat.{flat_map-append}
pub use Rattle.std.proofs.lemmas.List.Elements.{All-append, All-cons, All-from_recursion, All-head, All-map, All-nil, All-push, All-replicate, All-same}
pub use Rattle.std.proofs.lemmas.List.Elements.{All-tail, All-weaker}
pub use Rattle.std.proofs.lemmas.List.FromFn.{get_or-map-range_with_len, length-map-range_with_len}
pub use Rattle.std.proofs.lemmas.Nat.{from_le_bytes-to_le_bytes_4, from_le_bytes-to_le_bytes_8, le_bytes_8, le_or_l, le_or_r}
pub use Rattle.std.proofs.lemmas.Option.{same_Some}
pub use Rattle.std.proofs.lemmas.Result.{IfErr-weaker, IfOk-weaker, err_from_is_err_and, on_ok_weaker}
pub use Rattle.std.proofs.lemmas.Slice.{between_is, drop-put_mid, take-put_mid, take-put_mid_below}
pub use Rattle.std.proofs.lemmas.Slice.Eq.{slice_eq-Decides}
pub use Rattle.std.specs.Int.{from_le_bytes, w32, w64}
pub use Rattle.std.specs.List.{All, between, flat_map}
pub use Rattle.std.specs.Prelude.{IfErr, IfNone, IfOk, IfSome, IsTrue, OnOk, Option, bit_or, codes, map, nat_eq, replicate}
unfoldable pub use Rattle.layout.specs.Bytes.{half_number, number, number_from, short_number, zeros}
pub use Rattle.layout.specs.Capability.{HeadFits, assembled, head_number, height_of, key_of, number_of}
unfoldable pub use Rattle.layout.specs.Capability.{capability_bytes, head_bytes}
pub use Rattle.layout.specs.Directory.{AllFitting, AreRising, IsDirectory, entry_at}
unfoldable pub use Rattle.layout.specs.Directory.{directory_bytes}
pub use Rattle.layout.specs.Frame.{FollowsRole, HoldsPage, IsBody, IsFrameOf, IsFront, IsNodeFrame, IsPageBody, IsPageFrame, body_in, content_of, frame_bytes}
pub use Rattle.layout.specs.Frame.{frame_length, frame_of, number_cap, page_body_in, page_words, role_in, root_from, root_slots, slots_of, state_in}
unfoldable pub use Rattle.layout.specs.Frame.{front_bytes, front_numbers, node_frame_bytes, page_frame_bytes, slots_bytes, words_bytes}
pub use Rattle.layout.specs.FrameReader.{cap_with, node_from, page_from}
unfoldable pub use Rattle.layout.specs.FrameReader.{cap_from, frame_from, header_from, slots_from, words_from}
pub use Rattle.layout.specs.Frames.{IsHeaderAt}
pub use Rattle.layout.specs.Gate.{gate_bytes}
pub use Rattle.layout.specs.Half.{half_of}
pub use Rattle.layout.specs.Header.{IsHeader}
unfoldable pub use Rattle.layout.specs.Header.{header_bytes}
pub use Rattle.layout.specs.Homes.{place_length, range_with}
pub use Rattle.layout.specs.Image.{frame_in, half_sector, shaped_at}
pub use Rattle.layout.specs.Denoted.{Encodes, HasDirectory, HasHeader, HasNoHeader, HasPlan, IsBadBy, IsTooSmall, SavedState}
pub use Rattle.layout.specs.Image.{slot_in, total_in}
unfoldable pub use Rattle.layout.specs.Image.{sectors_from}
pub use Rattle.layout.specs.Shape.{AreBeside, HasZerosBeside, IsBlankFrom, IsPageShape, IsShapeFor, node_shape, page_shape, shape_bytes, shape_end}
pub use Rattle.layout.specs.Shape.{shape_length}
unfoldable pub use Rattle.layout.specs.Shape.{blanked}
pub use Rattle.layout.specs.Spelt.{AreSpelt, IsSpelt, count_of, frame_read}
unfoldable pub use Rattle.layout.specs.Spelt.{frames_read}
pub use Rattle.layout.specs.Superblock.{AreApart, Cover, HasEnd, HasMark, IsApart, IsInside, IsNext, IsPlan, IsWithin, MayBegin, Plan, RangeFits, extent_at, extents}
pub use Rattle.layout.specs.Superblock.{half_extent, half_start, plan_of, range_bytes, range_extent, sector_with, unused, version_number}
unfoldable pub use Rattle.layout.specs.Superblock.{half_length, ranges_bytes, superblock_bytes, superblock_front}
pub use Rattle.layout.specs.Version.{IsOpened, aligned, row}
unfoldable pub use Rattle.layout.specs.Version.{directory_length}
pub use Rattle.layout.specs.declared.bad_image.BadImage.{BadImage}
pub use Rattle.layout.specs.declared.bad_image.BadImage.TheVariants.{BadFrame}
pub use Rattle.layout.specs.declared.body.Body.{Body}
pub use Rattle.layout.specs.declared.directory.Entry.{Entry}
pub use Rattle.layout.specs.declared.extent.Extent.{Extent}
pub use Rattle.layout.specs.declared.extent.HomeRange.{HomeRange}
pub use Rattle.layout.specs.declared.gate.Gate.{Gate}
pub use Rattle.layout.specs.declared.gate.Gate.TheVariants.{Closed, Open}
pub use Rattle.layout.specs.declared.half.Half.{Half}
pub use Rattle.layout.specs.declared.half.Half.TheVariants.{First, Second}
pub use Rattle.layout.specs.declared.header.CheckpointHeader.{CheckpointHeader}
pub use Rattle.layout.specs.declared.sealed.header.SealedHeader.{SealedHeader}
pub use Rattle.layout.specs.declared.sealed.page.PageHeader.{PageHeader}
pub use Rattle.layout.specs.declared.shape.Shape.{Shape}
pub use Rattle.layout.specs.declared.version.Version.{Version}
pub use Rattle.layout.specs.declared.version.Version.TheVariants.{One, Three, Two}
pub use Rattle.layout.specs.sealed.Cluster.{IsCluster}
pub use Rattle.layout.specs.sealed.Directory.{entry_numbers}
unfoldable pub use Rattle.layout.specs.sealed.Directory.{entries_bytes}
pub use Rattle.layout.specs.sealed.Gate.{HasNumber, copies}
unfoldable pub use Rattle.layout.specs.sealed.Gate.{gate_numbers, numbered_gate_bytes}
pub use Rattle.layout.specs.sealed.GateLaws.{BurstsKeepNumbers, ClosedGatesHaveNone, GatesHaveOneNumber, IsWhole, WrittenGatesHaveTheirNumber}
pub use Rattle.layout.specs.sealed.Header.{header_numbers, sealed_header_from}
unfoldable pub use Rattle.layout.specs.sealed.Header.{sealed_header_bytes}
pub use Rattle.layout.specs.sealed.Laws.{ClustersShowBursts, SectorsShowBursts, SpellOnePageHeader, SpellOneSealedHeader}
pub use Rattle.layout.specs.sealed.Laws.{SpellOneSector, SuperblocksShowBursts, ZerosAreFree}
pub use Rattle.layout.specs.sealed.Page.{HasWords, IsPage, IsPageHeader, never_used, page_header_from, page_header_numbers}
unfoldable pub use Rattle.layout.specs.sealed.Page.{page_header_bytes}
pub use Rattle.layout.specs.sealed.Root.{Unit, seals_total, units_total, weighed}
unfoldable pub use Rattle.layout.specs.sealed.Root.{directory_sums, root_of}
pub use Rattle.layout.specs.sealed.RootLaws.{OneOldSectorIsSeen, OneOldUnitIsSeen, UnitsHaveNoOrder, unit_of}
pub use Rattle.layout.specs.sealed.Sector.{AreWords}
unfoldable pub use Rattle.layout.specs.sealed.Sector.{sector_bytes, with_seal}
pub use Rattle.layout.specs.sealed.Summed.{IfSummed, IsSummed, IsSummedIf}
