-- The names that the proofs here cite: of other crates, and of the definitions of this one.
pub use Rattle.cache_entries.proofs.Orders.{either_of, in_front, in_tail, length_without, listed_member, member_head, member_tail, without_here, without_tail}
pub use Rattle.cache_entries.proofs.Recent.{front_stays}
pub use Rattle.cache_entries.proofs.Stored.{some_map, some_within}
pub use Rattle.cache_entries.proofs.Turns.{one_more, used_anew, without_absent}
pub use Rattle.cache_entries.specs.Entries.{Entry, changing, entry_at, kept_of, new_entry, present_of, with_entry}
pub use Rattle.cache_entries.specs.Order.{AreOrdered, EntriesState, used_in_turn, used_longest_ago, used_now, with_entry_of, with_new, without}
pub use Rattle.capability.proofs.FrameLists.{frame_in, length_in}
pub use Rattle.capability.proofs.Keeping.{keepable_at}
pub use Rattle.capability.specs.Objects.{changed_root, with_root_in, with_slots_in}
pub use Rattle.capability.specs.Parts.{AreSameUnlessFailed, Becomes, HaveTheirRoles, IsUnprepared, OnlyFetches, Prepares, fresh_content, touched_too}
pub use Rattle.checkpoint.proofs.Journaling.{content_is_page, journal_there, known_page, next_same, page_is, role_is_page}
pub use Rattle.checkpoint.proofs.Lists.{maps_same}
pub use Rattle.checkpoint.specs.Journal.{is_page_role, is_same_page, next_journaled}
pub use Rattle.checkpoint.specs.Refused.{IsCommitAnswer, IsJournalAnswer, IsRefused, IsTurnedAway}
pub use Rattle.checkpoint.specs.Saved.{Holds, LeavesEither, LeavesOneOf, LeavesSaved, SavedFrames, home_saved, journaled_saved, most, with_words}
pub use Rattle.checkpoint.specs.Snapshots.{MayCommit, Snapshots, committed, freezing, journaled, moved, next_saved}
pub use Rattle.checkpoint.specs.Store.{FrozenFrames, OpensStore, all_frozen, all_untouched, stabilized, whole}
pub use Rattle.collections.specs.Marks.{HasNoneMarked}
pub use Rattle.device.proofs.Moments.{counted_ok, counts_on, leaves_on, leaves_weaker, peeks_started}
pub use Rattle.device.specs.Calls.{Counts}
pub use Rattle.device.specs.Disk.{Disk, Image}
pub use Rattle.device.specs.declared.device.Failed.{Failed}
pub use Rattle.layout.specs.Frame.{content_of, frame_of}
pub use Rattle.layout.specs.declared.body.Body.{Body}
pub use Rattle.layout.specs.declared.body.Scratch.{Scratch}
pub use Rattle.migrator.proofs.Kept.{map_set}
pub use Rattle.migrator.proofs.Moving.{goes_none, goes_trans}
pub use Rattle.migrator.proofs.Publishing.{err_counts, ok_counts, on_ok}
pub use Rattle.migrator.specs.Durable.{DurableState, FrozenPuts, GoesOn, ReadsStore, Stored, below_at, freezing_puts, frozen_put, is_sound, left_of, newest}
pub use Rattle.migrator.specs.Durable.{on_snapshots, puts, stored_of, with_frozen, with_put, with_working}
pub use Rattle.migrator.specs.Opened.{OpensDurable}
pub use Rattle.migrator.specs.Put.{Absent, Broken, HasFreeSlot, Kept, Put, held_slot, kept_count, put_at, put_or}
unfoldable pub use Rattle.migrator.specs.Put.{overlaid, sum_of}
pub use Rattle.migrator.specs.WholeStore.{AreObjectsOf}
pub use Rattle.migrator.specs.declared.whole_store.AllObjects.{AllObjects}
pub use Rattle.model.specs.Frame.{blank_frame, blank_header, called, claimed, content_behind, frame_at, given_up, header_at, headers, held_at, owned_by}
pub use Rattle.model.specs.Frame.{void_held}
unfoldable pub use Rattle.model.specs.Frame.{frames_in}
pub use Rattle.model.specs.Keepable.{AreKeepable, IsKeepable}
pub use Rattle.model.specs.Machine.{touched_count, touching}
unfoldable pub use Rattle.model.specs.Machine.{untouched}
pub use Rattle.model.specs.Object.{is_page, role_of, with_slot_in, with_word_in, words_in}
pub use Rattle.model.specs.Revoke.{is_member}
pub use Rattle.model.specs.Sound.{object_count}
pub use Rattle.model.specs.declared.answer.Refusal.{Refusal}
pub use Rattle.model.specs.declared.capability.Cap.{Cap}
pub use Rattle.model.specs.declared.frame.Frame.{Frame}
pub use Rattle.model.specs.declared.frame.ObjectHeader.{ObjectHeader}
pub use Rattle.model.specs.declared.object.Content.{Content}
pub use Rattle.model.specs.declared.object.Role.{Role}
pub use Rattle.std.proofs.Common.{Bool, Err, IfOk, IsSome, List, None, Ok, OnErr, Option, Result, Some, [], ap, arith, cond, eqb, false, get_or, inl, inr}
pub use Rattle.std.proofs.Common.{is_some, length, length-set, map, nat_lt, option_map, refl, replicate, rules, set, subst, suc, sym, take, true, true≢false}
pub use Rattle.std.proofs.Common.{zero, ℕ}
pub use Rattle.std.proofs.Math.ListN.{get_or-map}
pub use Rattle.std.proofs.Math.Seq.{map-set_same}
pub use Rattle.std.proofs.lemmas.Bool.{cases_eq, cases_lt, eq-eqb, eqb-false, eqb-true, ne_eqb}
pub use Rattle.std.proofs.lemmas.Bool.Decides.{nat_tests}
pub use Rattle.std.proofs.lemmas.List.{ext_get_or, get_or-replicate, get_or-set_other, get_or-set_same, get_or_append_left, get_or_at, get_or_default}
pub use Rattle.std.proofs.lemmas.List.{get_or_past, length-append, length-map, length-replicate, length-take, map-set, same_lists, set-get_or, set_past}
pub use Rattle.std.proofs.lemmas.List.{take-take, take_all, take_more}
pub use Rattle.std.proofs.lemmas.List.Elements.{All-contains}
pub use Rattle.std.proofs.lemmas.List.Folds.{sum_by-replicate}
pub use Rattle.std.proofs.lemmas.List.FromFn.{get_or-map-range_with_len, length-map-range_with_len}
pub use Rattle.std.proofs.lemmas.List.Sums.{sum_by-cons, sum_by-set}
pub use Rattle.std.proofs.lemmas.Map.Views.{list_any-from_Contains}
pub use Rattle.std.proofs.lemmas.Option.{none-some, same_Some}
pub use Rattle.std.proofs.lemmas.Result.{err_from_is_err_and, on_err_weaker, on_ok_weaker}
pub use Rattle.std.specs.Cmp.{nat_eq_equiv}
pub use Rattle.std.specs.List.{All, Contains, list_any, range_with_len, slice_get}
pub use Rattle.std.specs.Prelude.{IfErr, IsErrAnd, IsErrOf, OnOk, count_by, is_err, slice_index_or}
pub use Rattle.object_cache.specs.Journaled.{JournalsPage, MaySave, SavesPage, entry_body, held_now, is_saved_page}
pub use Rattle.object_cache.specs.Laws.{continues_same, continues_twice, goes_on_same, goes_on_twice}
pub use Rattle.object_cache.specs.Memory.{Apart, FrozenState, Held, Memory, Nothing, Shared, apart_body, below_body, content_at, frozen_at, frozen_body}
pub use Rattle.object_cache.specs.Memory.{frozen_frame, frozen_state_by, frozen_state_in_memory, frozen_state_of, held_behind, in_staging, mark_at, masked}
pub use Rattle.object_cache.specs.Memory.{memory_of, newest_body, own_body, own_body_of, own_frame, present_at, present_body, put_body, released}
unfoldable pub use Rattle.object_cache.specs.Memory.{contents_in, frozen_in, frozen_states_in}
pub use Rattle.object_cache.specs.StoreState.{AreAll, AreFrozen, AreInserted, AreKeepableIn, AreTaken, ContinuesIn, GoesOnIn, HaveRoom, HoldBodies}
pub use Rattle.object_cache.specs.StoreState.{IsAnnouncedIn, IsBounded, IsCache, IsFetchedIn, IsJustOpened, IsKeepableIn, IsOpenOver, IsUnkept, MayPutFrozen}
pub use Rattle.object_cache.specs.StoreState.{Moves, PutsBy, StoreState, TakenState, all_of, bodies_of, cache_of, cached_at, frozen_seen, frozen_state_at}
pub use Rattle.object_cache.specs.StoreState.{is_kept, on_device, on_device_frozen, on_device_with, parts_of, pending_count, readied, snapshots_of, view_of}
pub use Rattle.object_cache.specs.StoreState.{with_body, with_cached, with_content_in, without_cached}
unfoldable pub use Rattle.object_cache.specs.StoreState.{cached_in}
