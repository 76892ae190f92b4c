-- The names that the proofs here cite: of other crates, and of the definitions of this one.
pub use Rattle.capability.proofs.FrameLists.{content_there, length_objects, owner_read}
pub use Rattle.capability.proofs.Keeping.{keepable_at, keepable_count, keepable_later, keepable_roles}
pub use Rattle.capability.proofs.KindNumbers.{bank_number, root_number}
pub use Rattle.capability.proofs.Mapped.{mapped}
pub use Rattle.capability.proofs.Roles.{role_free, role_read, role_used}
pub use Rattle.capability.proofs.SnapshotLaws.{keeps_twice}
pub use Rattle.capability.specs.Changes.{bank_changed, reply_of_code}
pub use Rattle.capability.specs.Parts.{AreGivenUp, FreshFits, HaveTheirRoles, IsFreshAt, IsOnce, KeepsRest, Parts, Renews, frames_of}
pub use Rattle.capability.specs.Parts.{fresh_content, objects_in}
pub use Rattle.capability.specs.declared.order.BankChange.{BankChange}
pub use Rattle.capability.specs.declared.order.BankChange.TheVariants.{GiveUp, MakeProcess}
pub use Rattle.capability.specs.declared.order.OrderPlan.{OrderPlan}
pub use Rattle.capability.specs.declared.present.Fresh.{Fresh}
pub use Rattle.collections.specs.Marks.{HasNoneMarked, IsNextMarked, is_marked}
pub use Rattle.model.specs.Bank.{chain_within, is_under}
unfoldable pub use Rattle.model.specs.Bank.{chain, usage}
pub use Rattle.model.specs.Banking.{are_free, freed, freed_by, least, left_of, new_annex, new_root, transferred}
unfoldable pub use Rattle.model.specs.Banking.{free_nodes, free_pages, has_quota, inherited, on_bank, owned_by, remaining, under, with_new}
pub use Rattle.model.specs.Frame.{content_behind, conveyed, given_up, header_at, held_at}
pub use Rattle.model.specs.Keepable.{AreCurrent, AreKeepable, world_at}
pub use Rattle.model.specs.Object.{free, is_bank, is_free, is_root, limit_in, map_content, role_of, root_in}
pub use Rattle.model.specs.OrderOutcome.{made, refused, replying_three}
pub use Rattle.model.specs.Revoke.{is_member, names_member, void_where, without}
unfoldable pub use Rattle.model.specs.Revoke.{rescind}
pub use Rattle.model.specs.Sound.{HasShape, MayBeHeld, NamesItsKind, object_count}
pub use Rattle.model.specs.World.{content_at, object_at, owner_at}
pub use Rattle.model.specs.contracts.object.Role.{the_type}
pub use Rattle.model.specs.declared.capability.Cap.{Cap}
pub use Rattle.model.specs.declared.capability.Capability.{Capability}
pub use Rattle.model.specs.declared.capability.Capability.TheVariants.{Process, Void}
pub use Rattle.model.specs.declared.frame.ObjectHeader.{ObjectHeader}
pub use Rattle.model.specs.declared.geometry.Geometry.{Geometry}
pub use Rattle.model.specs.declared.object.Content.{Content}
pub use Rattle.model.specs.declared.object.ContentRef.{ContentRef}
pub use Rattle.model.specs.declared.object.Object.{Object}
pub use Rattle.model.specs.declared.object.Role.{Role}
pub use Rattle.model.specs.declared.order.Arguments.{Arguments}
pub use Rattle.model.specs.declared.order.BankOrder.{BankOrder}
pub use Rattle.model.specs.declared.order.ResultCode.{ResultCode}
pub use Rattle.model_laws.proofs.BankFreed.{destroyed_fits, freed_fits, freed_set, owned_found, under_found, under_given_up, under_once, usage_destroyed}
pub use Rattle.model_laws.proofs.BankFreed.{usage_freed}
pub use Rattle.model_laws.proofs.BankRescind.{used_where}
pub use Rattle.model_laws.proofs.BankReturn.{returned_fits, usage_returned}
pub use Rattle.model_laws.proofs.BankTree.{IsTree, at_new, at_other, chain_banks, chain_itself, chain_length, chain_longer, chain_new, chain_nonempty}
pub use Rattle.model_laws.proofs.BankTree.{chain_once, chain_prime, chain_shorter, chain_unfolds, chain_zero, length_new, member_head, member_tail}
pub use Rattle.model_laws.proofs.BankTree.{new_bank_kept, owner_bank, tree_new, tree_of}
pub use Rattle.model_laws.proofs.BankUsage.{freed_alike, nodes_alike, owned_alike, pages_alike, remaining_alike, room_alike, under_alike, usage_new}
pub use Rattle.model_laws.proofs.BankUsage.{usage_new_bank}
pub use Rattle.model_laws.proofs.GivenUp.{free_rescinded, new_used, rescinded_given_up}
pub use Rattle.model_laws.proofs.Mapped.{IsMapped, at_map, without_mapped}
pub use Rattle.model_laws.proofs.NumberLists.{AllDiffer, all_members, filter_once, found_in, only_member, stands_in}
pub use Rattle.model_laws.proofs.Revoking.{at_rescind}
pub use Rattle.model_laws.proofs.SoundBanks.{member_passes}
pub use Rattle.model_laws.proofs.SoundOrders.{IsNow}
pub use Rattle.model_laws.proofs.SoundParts.{IsFramed, nearly_from}
pub use Rattle.model_laws.proofs.Usage.{SameFrame, chain_same, tests_at, usage_same}
pub use Rattle.std.proofs.Common.{Bool, Global, List, None, Some, Vec, [], add-one, ap, append_assoc, arith, cond, drop, false, get_or, inl, inr, length, map}
pub use Rattle.std.proofs.Common.{min, nat_eq, not, refl, rules, subst, suc, sym, take, true, vec_len, zero, zero-add, ℕ, ⊎_elim}
pub use Rattle.std.proofs.Math.Bool.{and-false}
pub use Rattle.std.proofs.lemmas.Bool.{cases_eq, cases_lt, eq-eqb, false_from_ne_true, false≢true, le-leb, lt-leb, ne_eqb, or_cases}
pub use Rattle.std.proofs.lemmas.Bool.Decides.{nat_tests}
pub use Rattle.std.proofs.lemmas.Grind.{common_steps}
pub use Rattle.std.proofs.lemmas.List.{append-nil, ext_get_or, get_or-append_right, get_or-set_other, get_or-set_same, get_or_append_left, get_or_past}
pub use Rattle.std.proofs.lemmas.List.{length-append, length-drop, length-map, length-set, length-take, set-append_left, set-append_right, take_all, take_rest}
pub use Rattle.std.proofs.lemmas.List.{with_items_is}
pub use Rattle.std.proofs.lemmas.List.Folds.{list_any_at, list_any_more}
pub use Rattle.std.proofs.lemmas.List.FromFn.{get_or-enumerate_from, get_or-map-range_with_len, length-enumerate_from, length-map-range_with_len}
pub use Rattle.std.proofs.lemmas.List.FromFn.{map-range_with_len_more}
pub use Rattle.std.proofs.lemmas.List.Sums.{count_by-le-length, count_by_more_no, count_by_more_yes}
pub use Rattle.std.specs.List.{All, count_by, enumerate_from, filter, list_all, list_any, range_with_len}
pub use Rattle.std.specs.Option.{SomeIff}
pub use Rattle.std.specs.Prelude.{IsTrue, nat_le, nat_lt, slice_index, slice_index_or, slice_set}
pub use Rattle.std.specs.Vec.{vec_capacity}
pub use Rattle.space_bank.specs.Allocating.{allocated_by, allocating, count_of, given_by, is_deep, made_for, new_at, new_of, numbers_of, process_at}
pub use Rattle.space_bank.specs.Banks.{AreCounted, BanksState, KeepsObjects, MayServe}
pub use Rattle.space_bank.specs.Carrying.{AreTransferred, CarriesOut, Frees, IsMade, IsMadeUnder, IsPlanned, MakesOne, MakesTwo, MayFree, MayMake, PlansAs}
pub use Rattle.space_bank.specs.Carrying.{Transfers, marks_of}
pub use Rattle.space_bank.specs.Chains.{IsRaised, IsShifted, MayShift}
pub use Rattle.space_bank.specs.Counting.{AreKept, AreMarked, kept_number}
pub use Rattle.space_bank.specs.Planning.{AreFree, HasLeft, HasNoneUsed, IsNextUsed, annex_among, annex_of, is_listed, listed_by}
pub use Rattle.space_bank.specs.declared.planning_new.New.{New}
