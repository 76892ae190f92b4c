-- Slots that are void.
use Rattle.cache_entries.proofs.Names.{ℕ, List, Cap, length, replicate, get_or, ap, sym, arith, AreVoidFrom, void_held, get_or-replicate, length-replicate}
use Rattle.cache_entries.proofs.Names.{same_lists, get_or_default, AreEnds, slots_at, item_at, IsSome, Some, None, Option, get_or_past, length-set, set}
use Rattle.cache_entries.proofs.Names.{cases_eq, inl, inr, same_Some, get_or-set_same, get_or-set_other, subst, refl, none-some, unwrap_or, is_some, true}
use Rattle.cache_entries.proofs.Names.{true≢false, [], cases_lt}
use Rattle.std.proofs.Common.{◌≡◌, ◌<◌, ◌≤◌, ◌∙◌}
use Rattle.cache_entries.proofs.Stored.{some_within}

-- 32 void slots are void from index 0 on
pub void_from_start : (slots : List Cap) → slots ≡ replicate 32 void_held → AreVoidFrom 0 slots
void_from_start slots are = (
  omega arith,
  λ i from within. ap (λ (it : List Cap). get_or it i void_held) are
      ∙ get_or-replicate 32 i void_held void_held within,
)

-- 32 slots are void if those before `index` are, and those from `end` on, where `end` is at most `index`
pub all_void : (slots : List Cap) (end index : ℕ) → length slots ≡ 32 → end ≤ index →
    ((i : ℕ) → i < index → get_or slots i void_held ≡ void_held) → AreVoidFrom end slots → slots ≡ replicate 32 void_held
all_void slots end index count past before from =
    same_lists slots (replicate 32 void_held) (count ∙ sym (length-replicate {A = Cap} 32 void_held)) (λ k d within.
    let void : get_or slots k void_held ≡ void_held = grind (arith, before k, from.1 k) in
    get_or_default slots k d void_held within ∙ void ∙ sym (get_or-replicate 32 k void_held d (omega (arith, count, within))))

-- ---- the slots at a place

some_unwrapped : (o : Option (List Cap)) → is_some o ≡ true → o ≡ Some (unwrap_or o [])
some_unwrapped None is = absurd (true≢false (sym is))
some_unwrapped (Some slots) is = refl

pub slots_are : (ns : List (Option (List Cap))) (k : ℕ) → IsSome (item_at ns k) → item_at ns k ≡ Some (slots_at ns k)
slots_are ns k there = some_unwrapped (item_at ns k) there

some_place : (ns : List (Option (List Cap))) (k : ℕ) → IsSome (item_at ns k) → k < length ns
some_place ns k there = some_within ns k there

module _ {ns : List (Option (List Cap))} {ends : List ℕ} (are : AreEnds ns ends) where
  pub end_within : (k : ℕ) → IsSome (item_at ns k) → k < length ends
  end_within k there = omega (arith, are.count, some_place ns k there)

  -- if the slots at a place, and the end for them, are replaced by others for which `AreVoidFrom` holds, `AreEnds` holds
  pub ends_put : (k e : ℕ) (slots : List Cap) → k < length ns → AreVoidFrom e slots → AreEnds (set ns k (Some slots)) (set ends k e)
  ends_put k e slots below void = record {
    count = omega (arith, are.count, length-set ends k e, length-set ns k (Some slots));
    void = λ m s at. elim (cases_eq m k) [
      | inl same ↦
          let here : s ≡ slots = same_Some s slots (sym at ∙ ap (item_at (set ns k (Some slots))) same
          ∙ get_or-set_same ns k (Some slots) None below) in
          let end : get_or (set ends k e) m 0 ≡ e = ap (λ (i : ℕ). get_or (set ends k e) i 0) same
          ∙ get_or-set_same ends k e 0 (omega (arith, below, are.count)) in
          subst (λ (i : ℕ). AreVoidFrom i s) (sym end) (subst (AreVoidFrom e) (sym here) void)
      | inr other ↦ subst (λ (i : ℕ). AreVoidFrom i s) (sym (get_or-set_other ends k m e 0 other))
          (are.void m s (sym (get_or-set_other ns k m (Some slots) None other) ∙ at))
    ];
  }

  pub all_put : (k : ℕ) (slots : List Cap) → k < length ns → AreEnds (set ns k (Some slots)) (set ends k 32)
  all_put k slots below = ends_put k 32 slots below (omega arith, λ i from past. absurd (omega (arith, from, past)))

  pub all_cleared : (k : ℕ) → k < length ns → AreEnds (set ns k (Some (replicate 32 void_held))) (set ends k 0)
  all_cleared k below = ends_put k 0 (replicate 32 void_held) below (void_from_start (replicate 32 void_held) refl)

  -- setting a slot before the new end keeps all ends right
  pub one_put : (k i e : ℕ) (c : Cap) → IsSome (item_at ns k) → i < 32 → get_or ends k 0 ≤ e → i < e → e ≤ 32 →
      AreEnds (set ns k (Some (set (slots_at ns k) i c))) (set ends k e)
  one_put k i e c there within old new few =
      let before = are.void k (slots_at ns k) (slots_are ns k there) in
      ends_put k e (set (slots_at ns k) i c) (some_place ns k there) (
        few,
        λ j from past.
            get_or-set_other (slots_at ns k) i j c void_held (λ same. omega (arith, same, from, new))
            ∙ before.1 j (omega (arith, from, old)) past,
      )

none_there : (most k : ℕ) → item_at {T = List Cap} (replicate most None) k ≡ None
none_there most k = elim (cases_lt k most) [
  | inl below ↦ get_or-replicate most k None None below
  | inr past ↦ get_or_past (replicate most None) k None (omega (arith, past, length-replicate {A = Option (List Cap)} most None))
]

pub no_ends : (ns : List (Option (List Cap))) (most : ℕ) (ends : List ℕ) → ns ≡ replicate most None → ends ≡ replicate most 0 →
    AreEnds ns ends
no_ends ns most ends none is = record {
  count = ap length is ∙ length-replicate {A = ℕ} most 0 ∙ sym (ap length none ∙ length-replicate {A = Option (List Cap)} most None);
  void = λ k s at. absurd (none-some s (sym (ap (λ (xs : List (Option (List Cap))). item_at xs k) none ∙ none_there most k) ∙ at));
}
