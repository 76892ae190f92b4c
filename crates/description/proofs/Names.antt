-- The names that the proofs here import: from other crates, and from the definitions of this one.
pub use Rattle.capability.proofs.FrameLists.{set_in}
pub use Rattle.capability.proofs.Keeping.{keepable_later}
pub use Rattle.capability.specs.Consistency.{AreNamed, AreWholeProcesses, IsAnnexFor, IsNamed, IsRootOf, NamesItsRole, annex_in, owner_of, role_at}
pub use Rattle.capability.specs.Plain.{fresh_cap}
pub use Rattle.collections.specs.Marks.{is_marked}
pub use Rattle.home_ranges.specs.Laid.{MayBeLaid, placed}
pub use Rattle.home_ranges.specs.declared.number_range.NumberRange.{NumberRange}
pub use Rattle.layout.specs.Superblock.{Cover, IsGeometry, version_number}
pub use Rattle.layout.specs.declared.version.Version.{Version}
pub use Rattle.model.specs.Capability.{IsWellFormed, named}
pub use Rattle.model.specs.Frame.{blank_frame, blank_header, current_count, frame_at, header_at, headers, void_held}
unfoldable pub use Rattle.model.specs.Frame.{frames_in}
pub use Rattle.model.specs.Keepable.{AreKeepable, AreKeptSlots, Follows, IsCount, IsKeepable, IsKept, IsKeptCap, IsTarget, caps_in}
pub use Rattle.model.specs.Object.{free, role_of}
pub use Rattle.model.specs.Sound.{IsOfKind, IsSpace, object_count}
pub use Rattle.model.specs.Text.{state_text}
unfoldable pub use Rattle.model.specs.Text.{capability_text}
pub use Rattle.model.specs.World.{object_at}
pub use Rattle.model.specs.declared.capability.Cap.{Cap}
pub use Rattle.model.specs.declared.capability.Capability.{Capability}
pub use Rattle.model.specs.declared.capability.Capability.TheVariants.{Number, Void}
pub use Rattle.model.specs.declared.frame.Frame.{Frame}
pub use Rattle.model.specs.declared.frame.ObjectHeader.{ObjectHeader}
pub use Rattle.model.specs.declared.geometry.Geometry.{Geometry}
pub use Rattle.model.specs.declared.object.Content.{Content}
pub use Rattle.model.specs.declared.object.Object.{Object}
pub use Rattle.model.specs.declared.object.Role.{Role}
pub use Rattle.model.specs.declared.object.State.{State}
pub use Rattle.model.specs.declared.object.State.TheVariants.{Available, Running, Waiting}
pub use Rattle.script.proofs.CapabilityTexts.{text_once}
pub use Rattle.std.proofs.Common.{Bool, Bor, Err, Global, IfNone, IfSome, IsErrAnd, IsSomeAnd, List, MatchOption, None, Ok, Option, Result, Some, Vec, [], ap}
pub use Rattle.std.proofs.Common.{arith, codes, drop, false, get_or, inl, inr, is_eq, is_some, length, map, nat_cmp, nat_eq, option_map, pos, refl, replicate}
pub use Rattle.std.proofs.Common.{rules, slice_get, slice_index, slice_index_or, slice_set, subst, suc, sym, take, true, true≢false, unwrap_or, vec_len, zero}
pub use Rattle.std.proofs.Common.{ℕ, ℤ}
pub use Rattle.std.proofs.Math.ListN.{get_or-map}
pub use Rattle.std.proofs.lemmas.Bool.{cases_eq, cases_lt, false≢true}
pub use Rattle.std.proofs.lemmas.Bool.Decides.{nat_tests}
pub use Rattle.std.proofs.lemmas.Cmp.{same_from_slice_cmp}
pub use Rattle.std.proofs.lemmas.Grind.{common_steps}
pub use Rattle.std.proofs.lemmas.Int.{to_z-of_z}
pub use Rattle.std.proofs.lemmas.Iterator.{YieldsList-from_map, YieldsList-from_slice, items_from_collect}
pub use Rattle.std.proofs.lemmas.Iterator.Consumers.{YieldsList-at, YieldsList-from_chain}
pub use Rattle.std.proofs.lemmas.List.{drop_all, drop_more, ext_get_or, get_or-set_other, get_or-set_same, get_or_default, length-append, length-map}
pub use Rattle.std.proofs.lemmas.List.{length-replicate, length-set, take_all, take_more}
pub use Rattle.std.proofs.lemmas.List.Elements.{All-append, All-cons, All-contains, All-head, All-map, All-more, All-nil, All-replicate, All-set, All-tail}
pub use Rattle.std.proofs.lemmas.List.Elements.{AllZip-get_or, Contains-append_cases, Contains-append_left, Contains-append_right, Contains-get_or}
pub use Rattle.std.proofs.lemmas.List.Elements.{length_all_zip}
pub use Rattle.std.proofs.lemmas.Option.{get_or_from_slice_get, none-some, same_Some, slice_get-get_or, slice_get-map, slice_get_within}
pub use Rattle.std.specs.Cmp.Lexicographic.{pointwise, slice_cmp}
pub use Rattle.std.specs.Int.{is_negative}
pub use Rattle.std.specs.List.{All, AllZip, Contains, list_any}
pub use Rattle.std.specs.Prelude.{IsTrue, unsigned_abs}
pub use Rattle.std.specs.Str.{bytes_eq}
pub use Rattle.std.specs.Vec.{with_item}
pub use Rattle.toml.specs.Data.{Data, Items, Members, array, as_array, as_integer, as_str, get_member, integer, item, member, no_items, no_members, same_key}
pub use Rattle.toml.specs.Data.{string, table}
pub use Rattle.toml.specs.View.{items_view, members_view, table_view, view}
pub use Rattle.toml.specs.declared.value.Value.{Value}
pub use Rattle.description.specs.Broken.{AllHave, AllIn, AllOfProcess, BreaksGeometry, BreaksLimit, BreaksNumber, BreaksRanges, BreaksTarget, FirstLacks, GoOn}
pub use Rattle.description.specs.Broken.{GoesOn, IfNamed, IsFirstOutside, LacksIt, NamesItsObject, OneLacks, OneOf, count_in, is_node, number_at, place_of}
unfoldable pub use Rattle.description.specs.Broken.{OneOfProcess}
pub use Rattle.description.specs.Described.{AreDistinct, AreSlots, AreWords, HasFields, HasNamedWords, HasNumbers, HoldsNamed, IsDescribed, IsDescribedAnnex}
pub use Rattle.description.specs.Described.{IsDescribedNode, IsDescribedPage, IsDescribedRoot, IsProcessEntry, IsSomeCapability, IsSpaceEntry, first_frame}
pub use Rattle.description.specs.Described.{first_named, named_at, node_numbers, page_numbers}
pub use Rattle.description.specs.Describes.{plain_frame}
unfoldable pub use Rattle.description.specs.Describes.{plain_frames}
pub use Rattle.description.specs.Faults.{fault_number}
pub use Rattle.description.specs.FieldFlaws.{BreaksField, IsFirst, IsFirstTwice, IsOutside, IsTwice, process_of}
unfoldable pub use Rattle.description.specs.FieldFlaws.{BreaksIndexed, BreaksProcess, BreaksSlots}
pub use Rattle.description.specs.Laid.{AreLaid, Entry, Fits, IsLaid, IsPut, OfAnnex, OfBank, OfNode, OfPage, OfRoot, entries, frame_of, frames_of, number_of}
pub use Rattle.description.specs.Laid.{set_each, slot_held}
unfoldable pub use Rattle.description.specs.Laid.{laid, slots_of, words_of}
pub use Rattle.description.specs.Laws.{Each, IsSame, IsSameNode, IsSamePage, IsSameProcess, NoFault, NumberIsSpelledOnce, OneFault}
pub use Rattle.description.specs.Outcomes.{AreBadEntries, AreBadTables, AtKey, Finds, IsBadList, IsBadTable, IsIn, IsMisfit, IsStranger, IsUnknown, Misses}
pub use Rattle.description.specs.Outcomes.{Reads}
pub use Rattle.description.specs.Reading.{AreFour, AreItems, At, AtOr, HasList, HasNumberAndOwner, HasProcessFields, IsBank, IsCapability, IsDescription}
pub use Rattle.description.specs.Reading.{IsList, IsNode, IsNumber, IsPage, IsPair, IsProcess, IsRange, IsSlot, IsState, IsTable, IsWord, has_only}
pub use Rattle.description.specs.Reading.{whole_ranges}
unfoldable pub use Rattle.description.specs.Reading.{IsWideNumber}
pub use Rattle.description.specs.Rules.{IsAccepted, IsFirstBroken, IsWithinLimits, Rule}
pub use Rattle.description.specs.Shapes.{BreaksAt, BreaksShape, FitAll, FitsAt, FitsBefore, HasFirstItem, IsFirstFlaw, IsFirstInside, IsFirstItem, IsFormless}
pub use Rattle.description.specs.Shapes.{IsItem, first_unknown, is_list, key_name, keys_of}
pub use Rattle.description.specs.declared.entry.BankEntry.{BankEntry}
pub use Rattle.description.specs.declared.entry.Description.{Description}
pub use Rattle.description.specs.declared.entry.NodeEntry.{NodeEntry}
pub use Rattle.description.specs.declared.entry.PageEntry.{PageEntry}
pub use Rattle.description.specs.declared.entry.ProcessEntry.{ProcessEntry}
pub use Rattle.description.specs.declared.entry.SlotEntry.{SlotEntry}
pub use Rattle.description.specs.declared.entry.WordEntry.{WordEntry}
pub use Rattle.description.specs.declared.fault.BuildFault.{BuildFault}
pub use Rattle.description.specs.declared.fault.BuildFault.TheVariants.{Failed, Field, Limits, NoMemory, Owner, Shape, Small, Target}
pub use Rattle.description.specs.declared.flaw.Held.{Held}
pub use Rattle.description.specs.declared.flaw.Indexed.{Indexed}
pub use Rattle.description.specs.declared.flaw.Limit.{Limit}
pub use Rattle.description.specs.declared.flaw.Misnumbered.{Misnumbered}
pub use Rattle.description.specs.declared.flaw.Named.{Named}
pub use Rattle.description.specs.declared.flaw.Part.{Part}
pub use Rattle.description.specs.declared.flaw.SlotFlaw.{SlotFlaw}
pub use Rattle.description.specs.declared.object.ProcessFields.{ProcessFields}
pub use Rattle.description.specs.declared.place.Flaw.{Flaw}
pub use Rattle.description.specs.declared.place.Flaw.TheVariants.{Item, Misfit, Unknown}
pub use Rattle.description.specs.declared.place.Key.{Key}
pub use Rattle.description.specs.declared.place.Key.TheVariants.{Age, BankLimit, Banks, Layout, Log, NodeList, NodeSlots, Nodes, ObjectNumber, ObjectOwner}
pub use Rattle.description.specs.declared.place.Key.TheVariants.{PageList, PageWords, Pages, ProcessAnnex, ProcessKey, ProcessRegisters, ProcessRoot}
pub use Rattle.description.specs.declared.place.Key.TheVariants.{ProcessSpace, ProcessState, ProcessWords, Processes, Ranges}
pub use Rattle.description.specs.declared.place.Misread.{Misread}
pub use Rattle.description.specs.declared.place.ShapePlace.{ShapePlace}
pub use Rattle.description.specs.declared.place.TableName.{TableName}
pub use Rattle.description.specs.declared.world.World.{World}
