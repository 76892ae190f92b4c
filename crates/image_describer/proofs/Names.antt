-- The names that the proofs here import: from other crates, and from the definitions of this one.
pub use Rattle.capability.proofs.FrameLists.{annex_used, known_used, object_past}
pub use Rattle.capability.proofs.Keeping.{keepable_later}
pub use Rattle.capability.proofs.Mapped.{kind_map, mapped}
pub use Rattle.capability.proofs.Roles.{role_read}
pub use Rattle.capability.proofs.SnapshotLaws.{out_of_memory, read_well, reads_on}
pub use Rattle.capability.specs.Parts.{AreSound, OnlyReads, Parts, frames_of, objects_in}
pub use Rattle.capability.specs.Plain.{fresh_cap}
pub use Rattle.description.proofs.DescribedOnce.{described_once}
pub use Rattle.description.proofs.Entries.{IsFrameOf, IsOf, described_cases, described_of, in_range}
pub use Rattle.description.proofs.Lists.{all_from, all_got, contains_here, contains_map, contains_there, distinct_left, distinct_right, first_beyond}
pub use Rattle.description.proofs.Lists.{first_none, first_of, first_there, map_both, map_contains}
pub use Rattle.description.proofs.Pairs.{ZipBelow, zip_all, zip_map, zip_mapped}
pub use Rattle.description.proofs.PlainFrames.{plain_at}
pub use Rattle.description.specs.Described.{AreDistinct, AreSlots, AreWords, HasFields, HasNamedWords, HasNumbers, HoldsNamed, IsDescribed, IsDescribedAnnex}
pub use Rattle.description.specs.Described.{IsDescribedNode, IsDescribedPage, IsDescribedRoot, IsProcessEntry, IsSomeCapability, IsSpaceEntry, first_frame}
pub use Rattle.description.specs.Described.{first_named, named_at, node_numbers, page_numbers, word_named_at}
pub use Rattle.description.specs.Describes.{Describes, plain_frame}
unfoldable pub use Rattle.description.specs.Describes.{plain_frames}
pub use Rattle.description.specs.Laid.{Entry, OfAnnex, OfBank, OfNode, OfPage, OfRoot, number_of}
pub use Rattle.description.specs.Laws.{Each, IsSame, IsSameNode, IsSamePage, IsSameProcess}
pub use Rattle.description.specs.Reading.{AreFour, AreItems, IsBank, IsCapability, IsDescription, IsList, IsNode, IsNumber, IsPage, IsProcess, IsRange, IsSlot}
pub use Rattle.description.specs.Reading.{IsState, IsTable, IsWord, has_only, whole_ranges}
unfoldable pub use Rattle.description.specs.Reading.{IsWideNumber}
pub use Rattle.description.specs.declared.entry.BankEntry.{BankEntry}
pub use Rattle.description.specs.declared.entry.Description.{Description}
pub use Rattle.description.specs.declared.entry.NodeEntry.{NodeEntry}
pub use Rattle.description.specs.declared.entry.PageEntry.{PageEntry}
pub use Rattle.description.specs.declared.entry.ProcessEntry.{ProcessEntry}
pub use Rattle.description.specs.declared.entry.SlotEntry.{SlotEntry}
pub use Rattle.description.specs.declared.entry.WordEntry.{WordEntry}
pub use Rattle.description.specs.declared.sizes.GrowthFault.{GrowthFault}
pub use Rattle.home_ranges.specs.Laid.{MayBeLaid, numbers_of, placed}
pub use Rattle.home_ranges.specs.declared.number_range.NumberRange.{NumberRange}
pub use Rattle.layout.proofs.Extents.{cover_within}
pub use Rattle.layout.specs.Superblock.{Cover, IsGeometry, IsOfOneKind, IsPlan, Plan, version_number}
pub use Rattle.layout.specs.declared.extent.HomeRange.{HomeRange}
pub use Rattle.layout.specs.declared.version.Version.{Version}
pub use Rattle.layout.specs.declared.version.Version.TheVariants.{One, Three, Two}
pub use Rattle.model.specs.Capability.{IsWellFormed, named}
pub use Rattle.model.specs.Frame.{blank_frame, conveyed, current_count, frame_at, header_at, headers, object_of, void_held}
unfoldable pub use Rattle.model.specs.Frame.{objects_of}
pub use Rattle.model.specs.Keepable.{AreCurrent, AreKeepable, AreKeptSlots, AreKeptWords, Follows, IsCurrent, IsKeepable, IsKeptCap, IsSoundFrames, MayBeKept}
pub use Rattle.model.specs.Keepable.{caps_in, world_at}
pub use Rattle.model.specs.Object.{free, is_annex, is_bank, is_free, is_root, map_content, role_of, root_in, slots_in}
pub use Rattle.model.specs.Sound.{HasShape, IsOfKind, IsSound, IsSpace, MayBeHeld, object_count}
pub use Rattle.model.specs.Text.{access_text, state_text}
unfoldable pub use Rattle.model.specs.Text.{capability_text}
pub use Rattle.model.specs.World.{World, annex_at, content_at, is_process, object_at, owner_at}
pub use Rattle.model.specs.contracts.object.Role.{the_type}
pub use Rattle.model.specs.declared.access.Access.{Access}
pub use Rattle.model.specs.declared.answer.Refusal.{Refusal}
pub use Rattle.model.specs.declared.capability.Cap.{Cap}
pub use Rattle.model.specs.declared.capability.Capability.{Capability}
pub use Rattle.model.specs.declared.capability.Capability.TheVariants.{Number, Page, Space, Void}
pub use Rattle.model.specs.declared.frame.Frame.{Frame}
pub use Rattle.model.specs.declared.frame.ObjectHeader.{ObjectHeader}
pub use Rattle.model.specs.declared.geometry.Geometry.{Geometry}
pub use Rattle.model.specs.declared.object.Content.{Content}
pub use Rattle.model.specs.declared.object.Object.{Object}
pub use Rattle.model.specs.declared.object.Role.{Role}
pub use Rattle.model.specs.declared.object.Root.{Root}
pub use Rattle.model.specs.declared.object.State.{State}
pub use Rattle.model.specs.declared.object.State.TheVariants.{Available, Running, Waiting}
pub use Rattle.recovery.proofs.Looking.{HasLooked}
pub use Rattle.recovery.proofs.Unsound.{sound_named}
pub use Rattle.std.proofs.Common.{Bool, Equal, Err, Greater, IfSome, IsErrAnd, IsSomeAnd, Less, List, MatchOption, None, Ok, Option, Ordering, Result, Some, []}
pub use Rattle.std.proofs.Common.{ap, append-nil, append_assoc, arith, codes, decimal, false, get_or, inl, inr, is_eq, length, map, nat_cmp, nat_lt, not}
pub use Rattle.std.proofs.Common.{option_and_then, option_map, option_to_list, pos, refl, rules, slice_index_or, string_bytes, subst, suc, sym, take, true}
pub use Rattle.std.proofs.Common.{unwrap_or, zero, ℕ}
pub use Rattle.std.proofs.Math.ListN.{get_or-map}
pub use Rattle.std.proofs.lemmas.Bool.{cases_Bool, cases_lt, true≢false}
pub use Rattle.std.proofs.lemmas.Bool.Decides.{nat_tests}
pub use Rattle.std.proofs.lemmas.Cmp.{alike_right, nat_list_cmp_total}
pub use Rattle.std.proofs.lemmas.Fmt.{decimal_is_IsNumeral}
pub use Rattle.std.proofs.lemmas.List.{ext_get_or, get_or_past, length-map}
pub use Rattle.std.proofs.lemmas.List.Elements.{All-append, All-cons, All-contains, All-from_recursion, All-head, All-map, All-nil, All-push, All-tail}
pub use Rattle.std.proofs.lemmas.List.Elements.{All-weaker, Contains-append_cases, Contains-append_left, Contains-append_right, Contains-push}
pub use Rattle.std.proofs.lemmas.List.Elements.{recursion_from_All}
pub use Rattle.std.proofs.lemmas.List.FromFn.{get_or-map-range_with_len, length-range_with_len}
pub use Rattle.std.proofs.lemmas.Option.{get_or_from_slice_get, none-some, same_Some, slice_get-get_or, slice_get-map}
pub use Rattle.std.proofs.lemmas.Result.{on_ok_weaker}
pub use Rattle.std.proofs.lemmas.Str.Parse.{digit_from_value}
pub use Rattle.std.specs.Cmp.Derive.{both_true}
pub use Rattle.std.specs.Cmp.Lexicographic.{slice_cmp}
pub use Rattle.std.specs.List.{All, Contains, flat_map, join_by, list_all, list_any, range_with_len}
pub use Rattle.std.specs.Ordering.{match_ordering}
pub use Rattle.std.specs.Prelude.{IsTrue, Vec}
pub use Rattle.std.specs.Str.Parse.{AllDigits}
pub use Rattle.std.specs.declared.alloc.Global.{Global}
pub use Rattle.toml.proofs.Fill.{Exists, fill, fill_elements, fill_pairs, fill_sections, roots, run-append, run_elements, run_pairs}
pub use Rattle.toml.proofs.NodeLaws.{along_found, get_node-insert, replace-insert}
pub use Rattle.toml.proofs.ReadLines.{AllPrinted, line_turn, read_lines, run}
pub use Rattle.toml.proofs.Turns.{document_some}
pub use Rattle.toml.specs.Data.{Data, Items, Members, array, depth, get_member, has_valid_dates, integer, item, items_depth, items_have_valid_dates, member}
pub use Rattle.toml.specs.Data.{no_items, no_members, push_item, same_key, string, table}
unfoldable pub use Rattle.toml.specs.Parse.{parse_document, skip_bom}
pub use Rattle.toml.specs.Tables.{Document, Edit, Expression, Node, Nodes, array_table, close, close_node, get_node, insert, no_nodes, node, open_array, put}
pub use Rattle.toml.specs.Tables.{value}
unfoldable pub use Rattle.toml.specs.Tables.{along_dots, along_header, at_key}
pub use Rattle.toml.specs.Text.{IsItemsText, IsLinesText, IsValueText, are_tables, breaks_lines, elements, is_section, pairs, section, sections}
pub use Rattle.toml_parser.specs.Lexical.{first, is_bare, is_non_eol}
pub use Rattle.toml_parser.specs.Strings.{Key}
pub use Rattle.toml_writer.specs.Text.{dotted_text, is_control}
unfoldable pub use Rattle.toml_writer.specs.Text.{encoding_of, escaped, key_text, needs_escape, quotes_after, string_text}
pub use Rattle.image_describer.specs.Brief.{AreBriefSlots, AreBriefWords, AreRising, IsBrief, Names, NamesSlots, NamesWords}
pub use Rattle.image_describer.specs.DescribedEntry.{MayName, MayTell, TellAll, TellsBank, TellsNode, TellsPage, TellsProcess}
pub use Rattle.image_describer.specs.Grown.{IsGrown, IsMovedNode, IsMovedPage, IsMovedProcess, IsNotRenumbered, IsRenumbered, IsUnsuited, NamesNodes}
pub use Rattle.image_describer.specs.Grown.{NamesPages, NodesFit, PagesFit, grown_ranges, moved, moved_capability, moved_held, moved_object, moved_slot}
pub use Rattle.image_describer.specs.Laws.{DescribedHasText, DescribedIsLaid, DescribedIsSame, GrownIsDescribed, GrownToItself, TextIsRead}
pub use Rattle.image_describer.specs.Spelled.{CanBeSpelled, IsShort, IsWide, NamesWide, SpellsBank, SpellsGeometry, SpellsNode, SpellsPage, SpellsProcess}
pub use Rattle.image_describer.specs.Spelled.{SpellsRange, SpellsSlot, SpellsWord}
pub use Rattle.image_describer.specs.Text.{Field, are_whole, bank_fields, bank_text, begin_line, field_line, field_lines, held_text, image_fields, is_range}
pub use Rattle.image_describer.specs.Text.{list_text, list_unless_empty, node_fields, node_text, number_unless, page_fields, page_text, pair_text}
pub use Rattle.image_describer.specs.Text.{process_fields, process_text, quoted, range_text, slot_text, space_unless_void, state_value, unless, wide_text}
pub use Rattle.image_describer.specs.Text.{word_text, words_unless_zeros}
unfoldable pub use Rattle.image_describer.specs.Text.{description_text}
