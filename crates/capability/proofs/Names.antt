-- The names that the proofs here cite: of other crates, and of the definitions of this one.
pub use Rattle.model.specs.Frame.{blank_frame, blank_header, called, claimed, content_behind, conveyed, current_count, frame_at, given_up, header_at, headers}
pub use Rattle.model.specs.Frame.{held_at, object_of, owned_by, void_held}
unfoldable pub use Rattle.model.specs.Frame.{frames_in, objects_of}
pub use Rattle.model.specs.Keepable.{AreCurrent, AreKeepable, AreKeptSlots, AreKeptWords, Follows, IsCount, IsCurrent, IsKeepable, IsKeptCap, MayBeKept}
pub use Rattle.model.specs.Keepable.{caps_in}
pub use Rattle.model.specs.Machine.{touched_count}
unfoldable pub use Rattle.model.specs.Machine.{untouched}
pub use Rattle.model.specs.Object.{free, is_annex, is_bank, is_free, is_node, is_page, is_root, limit_in, map_content, role_of, root_in, slots_in, with_slot_in}
pub use Rattle.model.specs.Object.{with_word_in, words_in}
unfoldable pub use Rattle.model.specs.Object.{all_slots, zero_words}
pub use Rattle.model.specs.Order.{with_root_word, with_space}
pub use Rattle.model.specs.Revoke.{is_member, names_member, resumes, void_where, without}
unfoldable pub use Rattle.model.specs.Revoke.{consume, rescind}
pub use Rattle.model.specs.Sound.{IsOfKind, IsSound, IsSpace, object_count}
pub use Rattle.model.specs.World.{content_at, is_process, object_at, owner_at, root_at, slot_at, with_slots_from, word_at}
unfoldable pub use Rattle.model.specs.World.{with_content, with_root, with_slot, with_state, with_word}
pub use Rattle.model.specs.declared.frame.Frame.{Frame}
pub use Rattle.model.specs.declared.frame.ObjectHeader.{ObjectHeader}
pub use Rattle.model.specs.declared.geometry.Geometry.{Geometry}
pub use Rattle.model.specs.declared.object.Content.{Content}
pub use Rattle.model.specs.declared.object.ContentRef.{ContentRef}
pub use Rattle.model.specs.declared.object.Object.{Object}
pub use Rattle.model.specs.declared.object.Role.{Role}
pub use Rattle.model.specs.declared.object.Root.{Root}
pub use Rattle.model.specs.declared.object.State.{State}
pub use Rattle.model.specs.declared.object.State.TheVariants.{Running}
pub use Rattle.std.proofs.Common.{Bool, Bor, List, [], ap, arith, cond, false, get_or, inl, inr, length, map, nat_lt, refl, replicate, rules, slice_index}
pub use Rattle.std.proofs.Common.{slice_index_or, slice_set, subst, suc, sym, take, true, zero, zero-add, ℕ, ⊎_elim}
pub use Rattle.std.proofs.Math.ListN.{get_or-map}
pub use Rattle.std.proofs.Math.Seq.{map-set_same}
pub use Rattle.std.proofs.lemmas.Bool.{cases_lt}
pub use Rattle.std.proofs.lemmas.Bool.Decides.{nat_tests}
pub use Rattle.std.proofs.lemmas.List.{ext_get_or, get_or-set_other, get_or-set_same, get_or_past, length-map, length-set, map-set, set-get_or, set-set}
pub use Rattle.std.proofs.lemmas.List.{set_past, take_all}
pub use Rattle.std.proofs.lemmas.List.Elements.{All-replicate, All-set, All-weaker}
pub use Rattle.std.proofs.lemmas.List.FromFn.{get_or-enumerate_from, length-enumerate_from}
pub use Rattle.std.proofs.lemmas.List.Sums.{sum_by-cons}
pub use Rattle.std.specs.List.{All, enumerate_from}
pub use Rattle.std.specs.Prelude.{IsTrue}
pub use Rattle.capability.specs.Laws.{ConsumeKeepsSoundFrames, RescindKeepsSoundFrames}
pub use Rattle.capability.specs.Objects.{changed_root, live_cap, with_root_in, with_slots_in}
pub use Rattle.capability.specs.Parts.{AreGivenUp, Becomes, Edits, FreshFits, HaveTheirRoles, IsFreshAt, KeepsRest, OnlyFetches, Parts, frames_of}
pub use Rattle.capability.specs.Parts.{fresh_content, objects_in, with_both, with_header, with_held}
pub use Rattle.capability.specs.declared.present.Fresh.{Fresh}
pub use Rattle.model.specs.declared.capability.Cap.{Cap}
pub use Rattle.model.specs.declared.capability.Capability.{Capability}
pub use Rattle.model.specs.declared.capability.Capability.TheVariants.{Bank, Discrim, Node, Number, Page, Process, Resume, Space, Start, Void}
