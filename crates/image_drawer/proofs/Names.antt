-- The names that the proofs here import: from other crates, and from the definitions of this one.
pub use Rattle.capability.specs.Plain.{fresh_cap}
pub use Rattle.collections.specs.Marks.{is_marked}
pub use Rattle.description.proofs.Entries.{IsOf, described_cases, in_range}
pub use Rattle.description.proofs.Lists.{all_from, contains_cases, contains_here, contains_map, contains_none, contains_there, distinct_apart, distinct_left}
pub use Rattle.description.proofs.Lists.{distinct_right, first_beyond, first_of, first_there, map_again, map_both, map_contains}
pub use Rattle.description.proofs.Pairs.{ZipBelow, zip_map}
pub use Rattle.description.proofs.PlainFrames.{plain_at}
pub use Rattle.description.specs.Described.{AreDistinct, AreSlots, HasNumbers, HoldsNamed, IsDescribedAnnex, IsDescribedNode, IsDescribedPage, IsDescribedRoot}
pub use Rattle.description.specs.Described.{IsProcessEntry, first_frame, named_at, node_numbers, page_numbers}
pub use Rattle.description.specs.Describes.{Describes, plain_frame}
unfoldable pub use Rattle.description.specs.Describes.{plain_frames}
pub use Rattle.description.specs.Laid.{Entry, OfAnnex, OfBank, OfNode, OfPage, OfRoot, number_of}
pub use Rattle.description.specs.declared.entry.BankEntry.{BankEntry}
pub use Rattle.description.specs.declared.entry.Description.{Description}
pub use Rattle.description.specs.declared.entry.NodeEntry.{NodeEntry}
pub use Rattle.description.specs.declared.entry.PageEntry.{PageEntry}
pub use Rattle.description.specs.declared.entry.ProcessEntry.{ProcessEntry}
pub use Rattle.description.specs.declared.entry.SlotEntry.{SlotEntry}
pub use Rattle.model.specs.Capability.{named}
pub use Rattle.model.specs.Frame.{blank_frame, frame_at}
pub use Rattle.model.specs.Object.{free, is_annex, is_free, is_node, is_root, map_content, root_in, slots_in}
pub use Rattle.model.specs.Sound.{object_count}
pub use Rattle.model.specs.Text.{line_of, spaced}
pub use Rattle.model.specs.World.{World, annex_at, content_at, is_process, object_at, owner_at, register_at, root_at, slot_at}
pub use Rattle.model.specs.declared.capability.Cap.{Cap}
pub use Rattle.model.specs.declared.capability.Capability.{Capability}
pub use Rattle.model.specs.declared.capability.Capability.TheVariants.{Void}
pub use Rattle.model.specs.declared.frame.Frame.{Frame}
pub use Rattle.model.specs.declared.geometry.Geometry.{Geometry}
pub use Rattle.model.specs.declared.object.Content.{Content}
pub use Rattle.model.specs.declared.object.Object.{Object}
pub use Rattle.model.specs.declared.object.State.{State}
pub use Rattle.script.proofs.Fronts.{text_fails, writes_after, writes_fail, writes_same, wrote_trans}
pub use Rattle.script.specs.Writing.{Writes, Written, Wrote}
pub use Rattle.script.specs.declared.fault.RunFault.{RunFault}
pub use Rattle.std.proofs.Common.{Bool, Err, List, None, Option, Result, Some, [], add-one, ap, append-nil, append_assoc, arith, codes, decimal, drop, false}
pub use Rattle.std.proofs.Common.{get_or, inl, inr, length, map, refl, replicate, rules, slice_index_or, slice_set, subst, sym, take, true, unwrap_or, ℕ}
pub use Rattle.std.proofs.Math.ListN.{get_or-map}
pub use Rattle.std.proofs.Math.Seq.{take-suc}
pub use Rattle.std.proofs.lemmas.Bool.{cases_eq}
pub use Rattle.std.proofs.lemmas.Bool.Decides.{nat_tests}
pub use Rattle.std.proofs.lemmas.Fn.{filter_same}
pub use Rattle.std.proofs.lemmas.Grind.{common_steps, flat_map-append}
pub use Rattle.std.proofs.lemmas.List.{get_or-set_other, get_or-set_same, get_or_past, length-map, length-replicate, length-set, take-append-drop, take_all}
pub use Rattle.std.proofs.lemmas.List.{take_more}
pub use Rattle.std.proofs.lemmas.List.Elements.{All-append, All-contains, All-filter, All-map, Contains-append_cases, Contains-append_left}
pub use Rattle.std.proofs.lemmas.List.Elements.{Contains-append_right, filter-append}
pub use Rattle.std.proofs.lemmas.List.Folds.{flat_map-map, list_any-append}
pub use Rattle.std.proofs.lemmas.Option.{get_or_from_slice_get}
pub use Rattle.std.proofs.lemmas.Result.{err_from_is_err_and}
pub use Rattle.std.specs.List.{All, AllZip, Contains, filter, flat_map, list_any}
pub use Rattle.std.specs.Prelude.{IsTrue}
pub use Rattle.image_drawer.specs.Graph.{arrow_lines, arrow_of, arrow_to, arrows, arrows_at, box_line, box_lines, boxes, head_lines, joined, next_line}
pub use Rattle.image_drawer.specs.Graph.{node_arrows, owner_lines, owners, place_in, plain_line, plain_lines, process_arrows, word_of_state}
unfoldable pub use Rattle.image_drawer.specs.Graph.{arrow_line, bank_box, graph_text, node_box, owner_line, page_box, process_box}
pub use Rattle.image_drawer.specs.Laws.{ArrowsAreHeld, BoxesAreObjects, HasBox, Holds, IsArrow, IsOnce, IsOwner, OwnersAreOwners}
pub use Rattle.image_drawer.specs.Part.{Adds, IsPart, IsPartOfNode, IsPartOfProcess, PartIsShown, holding_nodes, holding_processes, is_inside, is_listed}
pub use Rattle.image_drawer.specs.Part.{leads_inside, space_inside}
pub use Rattle.image_drawer.specs.declared.arrow.Arrow.{Arrow}
pub use Rattle.image_drawer.specs.declared.arrow.Place.{Place}
