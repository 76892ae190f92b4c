-- No reason of inconsistency holds for sound frames.
use Rattle.recovery.proofs.Names.{nat_tests, ℕ, List, Option, Some, map, slice_index_or, sym, ap, subst, arith, IsTrue, All, get_or-map, All-from_get_or, Cap}
use Rattle.recovery.proofs.Names.{Capability, Void, Frame, Geometry, Content, conveyed, current_count, frame_at, headers, objects_of, void_held, IsSoundFrames}
use Rattle.recovery.proofs.Names.{caps_in, is_annex, map_content, root_in, slots_in, MayBeHeld, content_at, owner_at, HaveTheirRoles, keepable_roles}
use Rattle.recovery.proofs.Names.{BadCapability, BadProcess, BadBank, AreBanked, AreNamed, AreWholeProcesses, IsNamed, InconsistentIsUnsound}
use Rattle.std.proofs.Common.{◌≡◌, ◌≤◌, ◌∙◌}
use Rattle.model.specs.declared.object.Content.TheVariants as content
use Rattle.recovery.proofs.Standing.{annex_role, bank_role, content_is, free_role, limit_is, names_role, owner_is, process_of, role_annex, role_bank}
use Rattle.recovery.proofs.Standing.{root_of}

module _ (g : Geometry) (age : ℕ) (fs : List Frame) (h : IsSoundFrames g age fs) where
  roles : HaveTheirRoles fs
  roles = keepable_roles g age fs h.keepable

  named_from : (c : Cap) → c.count ≤ current_count (headers fs) c.what → MayBeHeld (objects_of fs) (conveyed (headers fs) c) → IsNamed fs c
  named_from c current may = grind (arith, nat_tests, names_role, roles)

  each_named : (slots : List Cap) → All (λ c. c.count ≤ current_count (headers fs) c.what) slots →
      ((i : ℕ) → MayBeHeld (objects_of fs) (slice_index_or (map (conveyed (headers fs)) slots) i Void)) → All (IsNamed fs) slots
  each_named slots current may = All-from_get_or (IsNamed fs) slots void_held (λ i inside.
      named_from (slice_index_or slots i void_held) (current i void_held inside)
      (subst (λ (w : Capability). MayBeHeld (objects_of fs) w) (get_or-map (conveyed (headers fs)) slots i void_held) (may i)))

  content_named : (c : Content Cap) → All (λ d. d.count ≤ current_count (headers fs) d.what) (caps_in c) →
      ((i : ℕ) → MayBeHeld (objects_of fs) (slice_index_or (slots_in (map_content (conveyed (headers fs)) c)) i Void)) →
      MayBeHeld (objects_of fs) (root_in (map_content (conveyed (headers fs)) c)).space → All (IsNamed fs) (caps_in c)
  content_named content.Free current slots space = λ i d inside. absurd (omega arith)
  content_named (content.Page words) current slots space = λ i d inside. absurd (omega arith)
  content_named (content.Node held) current slots space = each_named held current slots
  content_named (content.Root r) current slots space = grind (arith, nat_tests, named_from)
  content_named (content.Annex registers) current slots space = each_named registers current slots
  content_named (content.Bank limit) current slots space = λ i d inside. absurd (omega arith)

  pub sound_named : AreNamed fs
  sound_named n =
      let is = content_is fs n in
      content_named (frame_at fs n).content (h.current n)
      (λ i. subst (λ (c : Content Capability). MayBeHeld (objects_of fs) (slice_index_or (slots_in c) i Void)) is (h.sound.slots n i))
      (subst (λ (c : Content Capability). MayBeHeld (objects_of fs) (root_in c).space) is (h.sound.spaces n).0)

  pub sound_whole : AreWholeProcesses fs
  sound_whole = record {
    annexes = λ p a root.
        let process = process_of fs p a root in
        let known = h.sound.annexes p process.0 in (
          annex_role fs roles a (subst (λ (m : ℕ). IsTrue (is_annex (content_at (objects_of fs) m))) process.1 known.0),
          sym (owner_is fs a) ∙ subst (λ (m : ℕ). owner_at (objects_of fs) m ≡ owner_at (objects_of fs) p) process.1 known.1
              ∙ owner_is fs p,
        );
    one_root = grind (arith, nat_tests, process_of);
    some_root = λ a annex.
        let found = h.sound.some_root a (role_annex fs roles a annex) in
        (found.0, root_of fs found.0 found.1 ∙ ap (λ (m : ℕ). let x : Option ℕ = Some m in x) found.2);
  }

  pub sound_banked : AreBanked fs
  sound_banked = grind (arith, nat_tests, bank_role, roles, owner_is, free_role, role_bank, limit_is)

pub inconsistent_is_unsound : InconsistentIsUnsound
inconsistent_is_unsound g age fs BadCapability why h = why (sound_named g age fs h)
inconsistent_is_unsound g age fs BadProcess why h = why.1 (sound_whole g age fs h)
inconsistent_is_unsound g age fs BadBank why h = why.2 (sound_banked g age fs h)
inconsistent_is_unsound g age fs _ why h = absurd why
