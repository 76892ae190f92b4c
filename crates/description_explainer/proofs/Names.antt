-- The names that the proofs here import: from other crates, and from the definitions of this one.
pub use Rattle.capability.specs.Consistency.{AreNamed, IsNamed, NamesItsRole}
pub use Rattle.capability.specs.Plain.{fresh_cap}
pub use Rattle.description.proofs.DescribedOnce.{described_once}
pub use Rattle.description.proofs.BrokenLimits.{limit_refuted}
pub use Rattle.description.proofs.FieldFlaws.{field_refuted}
pub use Rattle.description.proofs.NamedCapabilities.{all_named, kind_broken, role_broken, target_refuted}
pub use Rattle.description.proofs.NumberPlaces.{number_refuted}
pub use Rattle.description.proofs.Rules.{field_broken, limits_broken, number_broken, owner_broken, target_broken}
pub use Rattle.description.proofs.ShapeFaults.{shape_refuted}
pub use Rattle.description.specs.Broken.{AllHave, BreaksLimit, BreaksNumber, BreaksTarget, BreaksWorld, FirstLacks, number_at}
pub use Rattle.description.specs.Described.{HasFields, HasNumbers, IsDescribed}
pub use Rattle.description.specs.Faults.{fault_number}
pub use Rattle.description.specs.FieldFlaws.{BreaksField}
pub use Rattle.description.specs.Outcomes.{Misses}
pub use Rattle.description.specs.Reading.{IsDescription}
pub use Rattle.description.specs.Rules.{IsFirstBroken, IsWithinLimits, Refuses}
pub use Rattle.description.specs.Shapes.{BreaksShape, key_name}
pub use Rattle.description.specs.declared.entry.Description.{Description}
pub use Rattle.description.specs.declared.fault.BuildFault.{BuildFault}
pub use Rattle.description.specs.declared.flaw.Held.{Held}
pub use Rattle.description.specs.declared.flaw.Limit.{Limit}
pub use Rattle.description.specs.declared.flaw.Misnumbered.{Misnumbered}
pub use Rattle.description.specs.declared.flaw.Named.{Named}
pub use Rattle.description.specs.declared.flaw.Part.{Part}
pub use Rattle.description.specs.declared.flaw.WorldFault.{WorldFault}
pub use Rattle.description.specs.declared.place.Flaw.{Flaw}
pub use Rattle.description.specs.declared.place.Key.{Key}
pub use Rattle.description.specs.declared.place.Misread.{Misread}
pub use Rattle.description.specs.declared.place.ShapePlace.{ShapePlace}
pub use Rattle.description.specs.declared.place.TableName.{TableName}
pub use Rattle.model.specs.Frame.{frame_at}
pub use Rattle.model.specs.Keepable.{IsTarget, caps_in}
pub use Rattle.model.specs.Sound.{object_count}
pub use Rattle.model.specs.declared.capability.Cap.{Cap}
pub use Rattle.model.specs.declared.capability.Capability.{Capability}
pub use Rattle.model.specs.declared.capability.Capability.TheVariants.{Void}
pub use Rattle.model.specs.declared.frame.Frame.{Frame}
pub use Rattle.model.specs.declared.geometry.Geometry.{Geometry}
pub use Rattle.recovery.proofs.BankFaults.{unbanked_refuted}
pub use Rattle.recovery.specs.Consistency.{IsUnbanked}
pub use Rattle.recovery.specs.declared.consistency.reason.Unbanked.{Unbanked}
pub use Rattle.script.specs.Lines.{IsOneLine}
pub use Rattle.std.proofs.Common.{Bool, Global, IsSomeAnd, List, None, Option, Some, String, [], ap, arith, codes, decimal, drop, get_or, inl, inr, length, map}
pub use Rattle.std.proofs.Common.{option_map, refl, slice_get, string_bytes, subst, suc, sym, take, unwrap_or, zero, ℕ}
pub use Rattle.std.proofs.lemmas.Bool.{cases_eq, false≢true, true≢false}
pub use Rattle.std.proofs.lemmas.Bool.Decides.{nat_tests}
pub use Rattle.std.proofs.lemmas.Grind.{common_steps}
pub use Rattle.std.proofs.lemmas.List.{drop_more, get_or_default, length-append, length-map, take_more}
pub use Rattle.std.proofs.lemmas.List.Elements.{All-cons, All-contains, All-head, All-more, All-tail}
pub use Rattle.std.proofs.lemmas.Option.{get_or_from_slice_get, gets, none-some, same_Some, slice_get-get_or, slice_get-map}
pub use Rattle.std.proofs.lemmas.Result.{IfOk-weaker}
pub use Rattle.std.specs.Borrow.{Bor}
pub use Rattle.std.specs.Fmt.{debug_escape_letter, debug_str, digit_glyph, digits_onto}
pub use Rattle.std.specs.List.{All, flat_map, list_any}
pub use Rattle.std.specs.Prelude.{IfNone, IfSome, IsTrue, MatchOption, false, position}
pub use Rattle.std.specs.Slice.{IsItemAt}
pub use Rattle.toml.specs.Data.{Members}
pub use Rattle.toml.specs.View.{table_view}
pub use Rattle.description_explainer.specs.Explained.{ExplainsDescription}
pub use Rattle.description_explainer.specs.Places.{Explains, rule_fault}
pub use Rattle.description_explainer.specs.Text.{IsExplanation, IsFlawText, IsPlaceText, IsShapeText, entry_text, field_text, indexed_entry, item_text}
pub use Rattle.description_explainer.specs.Text.{limit_text, listed_number, misnumbered_text, named_text, node_text, object_text, owner_text, page_text}
pub use Rattle.description_explainer.specs.Text.{part_text, process_text, rule_text, slot_entry, table_text, target_text}
pub use Rattle.description_explainer.specs.declared.place.Place.{Place}
pub use Rattle.description_explainer.specs.declared.place.Rule.{Rule}
