-- The names that the proofs here cite: of other crates, and of the definitions of this one.
pub use Rattle.capability.specs.Objects.{with_root_in, with_slots_in}
pub use Rattle.collections.proofs.Lists.{changed_once, get_map}
pub use Rattle.collections.proofs.Positions.{filled}
pub use Rattle.collections.specs.SparseVec.{item_at}
pub use Rattle.lru.proofs.CallerLemmas.{Contains-lookup_entry}
pub use Rattle.lru.specs.LruCache.{LruCache, demoted, promoted, put_entries}
pub use Rattle.model.specs.Frame.{held_at, void_held}
pub use Rattle.model.specs.Object.{with_slot_in, with_word_in}
pub use Rattle.model.specs.Revoke.{is_member}
pub use Rattle.model.specs.declared.capability.Cap.{Cap}
pub use Rattle.model.specs.declared.object.Content.{Content}
pub use Rattle.model.specs.declared.object.Root.{Root}
pub use Rattle.std.proofs.Common.{Bool, IsSome, List, None, Option, Some, [], add-one, ap, arith, cond, drop, false, get_or, inl, inr, is_some, length}
pub use Rattle.std.proofs.Common.{length-append, length-set, map, nat_eq, option_map, refl, replicate, rules, set, subst, suc, sym, take, true, true≢false}
pub use Rattle.std.proofs.Common.{vec_len, zero, ℕ}
pub use Rattle.std.proofs.lemmas.Bool.{cases_eq, cases_lt, eq-eqb, eqb-true, false_from_ne_true, le-ltb, lt-ltb, ltb-true, ne_eqb, or_cases, or_parts, or_right}
pub use Rattle.std.proofs.lemmas.Bool.Decides.{nat_tests}
pub use Rattle.std.proofs.lemmas.Grind.{common_steps}
pub use Rattle.std.proofs.lemmas.List.{at_drop_more, get_or-drop, get_or-replicate, get_or-set_other, get_or-set_same, get_or_default, get_or_past, length-drop}
pub use Rattle.std.proofs.lemmas.List.{length-map, length-replicate, length-take-le, same_lists, set-get_or, take-append-drop, take-append-le, take_all}
pub use Rattle.std.proofs.lemmas.List.{take_more}
pub use Rattle.std.proofs.lemmas.List.Folds.{list_any-append}
pub use Rattle.std.proofs.lemmas.List.FromFn.{fill_by_all, get_or-map-range_with_len, length-map-range_with_len}
pub use Rattle.std.proofs.lemmas.Map.Keys.{any_passes_from_place}
pub use Rattle.std.proofs.lemmas.Map.Views.{list_any-from_Contains}
pub use Rattle.std.proofs.lemmas.Option.{none-some, same_Some, slice_get-get_or, slice_get-map}
pub use Rattle.std.specs.Cmp.{nat_eq_equiv}
pub use Rattle.std.specs.List.{slice_get}
pub use Rattle.std.specs.Map.{keys_of, lookup_entry, remove_entry}
pub use Rattle.std.specs.NonZero.{non_zero_usize_get}
pub use Rattle.std.specs.Option.{option_map_or, unwrap_or}
pub use Rattle.cache_entries.specs.Bodies.{AreBodies, AreEnds, AreVoidFrom, HasRoom, content_at, content_in, kind_at, kind_of, kind_with_root, slots_are_of}
pub use Rattle.cache_entries.specs.Bodies.{slots_at, slots_from, with_slots_of, with_words_of, words_are_of}
unfoldable pub use Rattle.cache_entries.specs.Bodies.{contents_in}
pub use Rattle.cache_entries.specs.Entries.{Entry, changing, entry_at}
pub use Rattle.cache_entries.specs.Order.{AllDiffer, AreOrdered, ArePlaced, AreSpread, AreStamped, AreStored, EntriesState, IsFilled, IsLogOf, LogState}
pub use Rattle.cache_entries.specs.Order.{OrderState, Uses, entries_of, entry_in, order_of, place_at, place_below, used_all, used_in_turn, used_last}
pub use Rattle.cache_entries.specs.Order.{used_longest_ago, with_entry_of, with_new, without, without_entry}
pub use Rattle.cache_entries.specs.declared.bodies.Kind.{Kind}
