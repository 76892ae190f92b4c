-- The names that the proofs here import: from other crates, and from the definitions of this one.
pub use Rattle.capability.proofs.FrameLists.{length_objects}
pub use Rattle.capability.specs.Parts.{objects_in}
pub use Rattle.collections.specs.Marks.{is_marked}
pub use Rattle.confinement.proofs.TrustedRuns.{run_confined}
pub use Rattle.confinement.specs.Trusted.{IsClosedBut, IsConfinedBut, StartsOne, StaysBut}
pub use Rattle.json_lines.specs.Objects.{number_line}
pub use Rattle.model.specs.Capability.{named}
pub use Rattle.model.specs.Object.{free, is_bank, is_free, is_root, root_in, slots_in}
pub use Rattle.model.specs.Revoke.{is_member}
pub use Rattle.model.specs.Text.{line_of}
pub use Rattle.model.specs.World.{annex_at, content_at, is_process, object_at, owner_at, root_at, slot_at}
pub use Rattle.model.specs.declared.capability.Capability.{Capability}
pub use Rattle.model.specs.declared.capability.Capability.TheVariants.{Bank, Node, Page, Process, Resume, Space, Start, Void}
pub use Rattle.model.specs.declared.object.Content.{Content}
pub use Rattle.model.specs.declared.object.Object.{Object}
pub use Rattle.model.specs.declared.object.Root.{Root}
pub use Rattle.model_laws.specs.Confinement.{AreBy, with_free}
pub use Rattle.script.proofs.Fronts.{text_fails, writes_after, writes_fail, wrote_trans}
pub use Rattle.script.proofs.NumberedLines.{lines_all, lines_more, lines_split}
pub use Rattle.script.specs.Writing.{Wrote}
pub use Rattle.std.proofs.Common.{Bool, List, None, Option, Some, [], add-one, ap, append-nil, arith, codes, drop, false, get_or, inl, inr, is_some, length}
pub use Rattle.std.proofs.Common.{length-set, max, not, option_and_then, refl, replicate, reverse, rules, slice_index_or, slice_set, subst, suc, sym, take}
pub use Rattle.std.proofs.Common.{true, zero, ℕ, ⊎_elim}
pub use Rattle.std.proofs.Math.Seq.{take-suc}
pub use Rattle.std.proofs.lemmas.Bool.{cases_eq, cases_lt}
pub use Rattle.std.proofs.lemmas.Bool.Decides.{nat_tests}
pub use Rattle.std.proofs.lemmas.Grind.{common_steps, flat_map-append}
pub use Rattle.std.proofs.lemmas.List.{get_or-set_other, get_or-set_same, get_or_default, length-replicate, length-reverse, length_push, reverse-append}
pub use Rattle.std.proofs.lemmas.List.{take-append-drop, take_all, take_more}
pub use Rattle.std.proofs.lemmas.List.Elements.{Contains-append_left, Contains-push, Contains-push_cases}
pub use Rattle.std.proofs.lemmas.Option.{same_Some}
pub use Rattle.std.proofs.lemmas.Result.{err_from_is_err_and}
pub use Rattle.std.specs.List.{All, Contains, count_by, enumerate_from, find, flat_map}
pub use Rattle.std.specs.Prelude.{IsTrue}
pub use Rattle.reach.specs.Backward.{AddsOwners, AllChange, ConveysInto, Grows, HasOwners, IsClosedAt, LeadsInto, Widens, others, unmarked}
pub use Rattle.reach.specs.Chain.{Conveys, IsChain, IsFollowed, IsPath, IsShortest, IsStep, IsWay, held_by}
pub use Rattle.reach.specs.ChainLines.{step_line}
unfoldable pub use Rattle.reach.specs.ChainLines.{chain_text}
pub use Rattle.reach.specs.Laws.{ClosedSetsAre, ReachIsChange, StepsAreAuthority}
pub use Rattle.reach.specs.Levels.{Begins, FindsBy, IsAfter, IsAt, IsBy, IsFirst, IsFoundBy, IsFoundIn, IsFrom, IsFromLevel, IsHeldIn, IsOwnedBelow, IsSearched}
pub use Rattle.reach.specs.Levels.{IsTheStep, NamesWithin, found_at, has_level}
pub use Rattle.reach.specs.Lines.{counted_text, member_line, member_pulls, object_text, pull_line}
unfoldable pub use Rattle.reach.specs.Lines.{reach_text}
pub use Rattle.reach.specs.Links.{IsClosedFor, Links, StaysAs, StaysFor, links}
pub use Rattle.reach.specs.Missing.{missing}
pub use Rattle.reach.specs.Reached.{AreChangers, AreSoundObjects, BoundsRuns, CanChange, IsReach}
pub use Rattle.reach.specs.declared.authority.Purpose.{Purpose}
pub use Rattle.reach.specs.declared.levels.Found.{Found}
pub use Rattle.reach.specs.declared.levels.Levels.{Levels}
pub use Rattle.reach.specs.declared.step.Step.{Step}
pub use Rattle.reach.specs.declared.step.Way.{Way}
