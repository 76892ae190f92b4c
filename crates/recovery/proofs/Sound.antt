-- Consistent frames are sound: the proof, part by part.
use Rattle.recovery.proofs.Names.{nat_tests, ℕ, inl, inr, Bool, List, map, length, slice_index, slice_index_or, sym, ap, subst, arith, nat_lt, All, get_or-map}
use Rattle.recovery.proofs.Names.{cases_lt, get_or_past, length-map, Cap, Capability, Void, Frame, Geometry, Content, IsWellFormed, conveyed, current_count}
use Rattle.recovery.proofs.Names.{frame_at, headers, objects_of, void_held, AreKeepable, Follows, IsKeepable, IsKeptCap, MayBeKept, caps_in, map_content}
use Rattle.recovery.proofs.Names.{IsSpace, MayBeHeld, annex_at, IsFilled, IsFramed, IsHeld, Waits, held_from, held_void, nearly_to, HaveTheirRoles}
use Rattle.recovery.proofs.Names.{keepable_roles, AreBanked, AreWholeProcesses, IsNamed, ConsistentIsSound, kind_map}
use Rattle.std.proofs.Common.{◌^◌, ◌<◌, ◌∙◌}
use Rattle.std.specs.Prelude.{if◌then◌else◌}
use Rattle.model.specs.declared.object.Content.TheVariants as content
use Rattle.recovery.proofs.Standing.{annex_role, bank_role, content_is, free_role, length_is, limit_is, names_kind, owner_is, process_of, role_annex}
use Rattle.recovery.proofs.Standing.{role_bank, role_free, root_of}

-- a capability that may be kept is well formed
follows_formed : (g : Geometry) (age count : ℕ) (c : Capability) → Follows g age count c → IsWellFormed c
follows_formed g age count c f = grind (arith, nat_tests)

-- the frame at each number may be kept; numbers without a frame count as free
pub kept_at : (g : Geometry) (age : ℕ) (fs : List Frame) → AreKeepable g age fs → (n : ℕ) → IsKeepable g age n (frame_at fs n)
kept_at g age fs k n = grind (arith, nat_tests, get_or_past)

module _ (g : Geometry) (age : ℕ) (fs : List Frame) (k : AreKeepable g age fs) where
  roles : HaveTheirRoles fs
  roles = keepable_roles g age fs k

  held : (c : Cap) → Follows g age c.count c.what → IsNamed fs c → MayBeHeld (objects_of fs) (conveyed (headers fs) c)
  held c f named = grind (arith, nat_tests, follows_formed, names_kind, roles)

  held_each : (slots : List Cap) → All (IsKeptCap g age) slots → All (IsNamed fs) slots → (i : ℕ) →
      IsHeld (objects_of fs) (Waits (objects_of fs)) (slice_index_or (map (conveyed (headers fs)) slots) i Void)
  held_each slots kept named i =
      subst (λ (c : Capability). IsHeld (objects_of fs) (Waits (objects_of fs)) c)
      (sym (get_or-map (conveyed (headers fs)) slots i void_held))
      (elim (cases_lt i (length slots)) [
        | inl inside ↦ grind (arith, nat_tests, held_from, held)
        | inr past ↦ grind (arith, nat_tests, get_or_past, held_void)
      ])

  space_by : (c : Capability) (b : Bool) → IsSpace c → IsSpace (if b then Void else c)
  space_by c b is = grind (arith, nat_tests)

  words_fit : (words : List ℕ) → All (λ w. w < 2 ^ 64) words → (i : ℕ) → slice_index words i < 2 ^ 64
  words_fit words each i = grind (arith, nat_tests, get_or_past)

  -- a content is filled if its capabilities may be kept and satisfy `IsNamed`
  filled : (c : Content Cap) → MayBeKept g age c → All (IsNamed fs) (caps_in c) →
      IsFilled (objects_of fs) (Waits (objects_of fs)) (map_content (conveyed (headers fs)) c)
  filled content.Free kept named = grind (arith, nat_tests, held_void)
  filled (content.Page words) kept named = grind (arith, nat_tests, words_fit, held_void)
  filled (content.Node slots) kept named = grind (arith, nat_tests, length-map, held_each, held_void)
  filled (content.Root r) kept named = record {
    shape = (kept.0.count_is, words_fit r.words kept.0.each, kept.1);
    words = λ i. omega arith;
    slots = λ i. held_void (objects_of fs) (Waits (objects_of fs));
    register_0 = λ annex. cc;
    space = held_from (objects_of fs) (conveyed (headers fs) r.space) (held r.space kept.3 (named 0 void_held (omega arith)));
    is_space = space_by r.space.what (nat_lt r.space.count (current_count (headers fs) r.space.what)) kept.4;
  }
  filled (content.Annex registers) kept named = record {
    shape = length-map registers (conveyed (headers fs)) ∙ kept.0.count;
    words = λ i. omega arith;
    slots = held_each registers kept.0.each named;
    register_0 = λ annex. get_or-map (conveyed (headers fs)) registers 0 void_held ∙ ap (conveyed (headers fs)) kept.1;
    space = held_void (objects_of fs) (Waits (objects_of fs));
    is_space = tt;
  }
  filled (content.Bank limit) kept named = grind (arith, nat_tests, held_void)

  framed : AreWholeProcesses fs → AreBanked fs → IsFramed g (objects_of fs)
  framed whole banked = record {
    size = length_is fs ∙ k.count;
    kinds = λ n. rw (content_is fs n) (kind_map g n (conveyed (headers fs)) (frame_at fs n).content (kept_at g age fs k n).kind);
    annexes = λ p process.
        let a = annex_at (objects_of fs) p in
        let known = whole.annexes p a (root_of fs p process) in
        (role_annex fs roles a known.0, owner_is fs a ∙ known.1 ∙ sym (owner_is fs p));
    one_root = λ p q one other same.
        whole.one_root p q (annex_at (objects_of fs) q) (rw (sym same) (root_of fs p one)) (root_of fs q other);
    some_root = λ a annex.
        let found = whole.some_root a (annex_role fs roles a annex) in
        let process = process_of fs found.0 a found.1 in
        (found.0, process.0, process.1);
    unowned = λ n free. owner_is fs n ∙ (kept_at g age fs k n).kept.unowned (free_role fs roles n free);
    owners = grind (arith, nat_tests, owner_is, role_bank, roles, role_free);
    prime = (role_bank fs roles 0 banked.owned.prime.0, owner_is fs 0 ∙ banked.owned.prime.1);
    chains = λ b bank. banked.owned.chains b (bank_role fs roles b bank);
    limits = λ b bank. rw (limit_is fs b) (banked.limited b (bank_role fs roles b bank));
  }

pub consistent_is_sound : ConsistentIsSound
consistent_is_sound g age fs k most named whole banked = record {
  keepable = k;
  current = λ n i d inside. (named n i d inside).current;
  sound = nearly_to g (objects_of fs) age (record {
    frame = framed g age fs k whole banked;
    filled = λ n. rw (content_is fs n) (filled g age fs k (frame_at fs n).content (kept_at g age fs k n).kept.content (named n));
  }) most;
}
