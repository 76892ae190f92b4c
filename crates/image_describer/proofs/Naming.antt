-- Making entries for the items of a list that differ from the default, item by item.
use Rattle.image_describer.proofs.Names.{nat_tests, ℕ, inl, inr, List, [], map, length, slice_index_or, Option, None, Some, option_to_list, sym, subst, arith}
use Rattle.image_describer.proofs.Names.{All, Contains, cases_lt, get_or_past, All-contains, All-head, All-map, All-push, All-tail, All-weaker, first_named}
use Rattle.image_describer.proofs.Names.{first_beyond, first_none, first_of, first_there, map_both, AreRising, Names, MayName}
use Rattle.std.proofs.Common.{◌≡◌, ◌≢◌, ◌+◌, ◌<◌, ◌≤◌, ◌∷◌, ◌++◌, ◌∙◌}
use Rattle.std.proofs.lemmas.List.{append-nil}
use Rattle.image_describer.proofs.Rising.{rising_distinct, rising_more}

module _ {E V : Type 0} (index : E → ℕ) (value : E → V) (default : V) where
  -- an entry at the end changes no other index
  first_before : (es : List E) (e : E) (i : ℕ) → index e ≢ i → first_named index value default (es ++ e ∷ []) i
      ≡ first_named index value default es i
  first_before [] e i differ = first_beyond index value default e [] i differ
  first_before (f ∷ es) e i differ = grind (arith, nat_tests, first_before es e i differ, first_there, first_beyond)

  -- if no earlier entry has its index, an entry at the end gives its index its value
  first_last : (es : List E) (e : E) (i : ℕ) → All (λ f. index f < i) es → index e ≡ i →
      first_named index value default (es ++ e ∷ []) i ≡ value e
  first_last [] e i below is = first_there index value default e [] i is
  first_last (f ∷ es) e i below is =
      let under : index f < i = All-head (λ f. index f < i) f es below in
      first_beyond index value default f (es ++ e ∷ []) i (λ same. absurd (omega (arith, under, same)))
      ∙ first_last es e i (All-tail (λ f. index f < i) f es below) is

  -- if the index is above those of all entries, it has the default
  first_above : (es : List E) (i : ℕ) → All (λ f. index f < i) es → (j : ℕ) → i ≤ j → first_named index value default es j ≡ default
  first_above es i below j le = first_none index value _ es j (λ there.
      let under : j < i = All-contains (λ n. n < i) _ j (All-map (λ n. n < i) index es below) there in
      absurd (omega (arith, under, le)))

  -- the first i items have their entries
  pub record NamesBefore (xs : List V) (i : ℕ) (es : List E) : Type 0 where
    pub each : (j : ℕ) → j < i → first_named index value default es j ≡ slice_index_or xs j default
    pub some : All (λ e. value e ≢ default) es
    pub below : All (λ e. index e < i) es
    pub within : All (λ e. index e < length xs) es
    pub rising : AreRising (map index es)

  -- if the next item is the default, it needs no entry
  pub names_less : (xs : List V) (i : ℕ) (es : List E) → NamesBefore xs i es → slice_index_or xs i default ≡ default →
      NamesBefore xs (i + 1) es
  names_less xs i es names is = grind (arith, nat_tests, first_above, All-weaker)

  -- if the next item isn't the default, adding its entry extends the entries to i + 1 items
  pub names_more : (xs : List V) (i : ℕ) (es : List E) (e : E) → NamesBefore xs i es → i < length xs → index e ≡ i →
      value e ≡ slice_index_or xs i default → value e ≢ default
      → NamesBefore xs (i + 1) (es ++ e ∷ [])
  names_more xs i es e names inside at is some = record {
    each = λ j under. elim (cases_lt j i) [
      | inl before ↦ first_before es e j (λ same. absurd (omega (arith, same, at, before))) ∙ names.each j before
      | inr past ↦
          let same : i ≡ j = omega (arith, under, past) in
          subst (λ k. first_named index value default (es ++ e ∷ []) k ≡ slice_index_or xs k default) same
          (first_last es e i names.below at ∙ is)
    ];
    some = All-push (λ f. value f ≢ default) es e names.some some;
    below = All-push (λ f. index f < i + 1) es e (All-weaker (λ f. index f < i) (λ f. index f < i + 1) (λ f under. omega (arith, under)) es
        names.below)
        (omega (arith, at));
    within = All-push (λ f. index f < length xs) es e names.within (omega (arith, at, inside));
    rising = subst AreRising (sym (map_both index es _)) (rising_more _ _ names.rising
        (All-map (λ n. n < index e) index es (All-weaker (λ f. index f < i) (λ f. index f < index e) (λ f under. omega (arith, under, at))
        es names.below)));
  }

  -- if the next item has its entry, or needs none, the entries extend to it
  pub names_next : (xs : List V) (i : ℕ) (es next : List E) (o : Option E) (x : V) → NamesBefore xs i es → i < length xs →
      x ≡ slice_index_or xs i default → MayName index value default i x o
      → next ≡ es ++ option_to_list o → NamesBefore xs (i + 1) next
  names_next xs i es next None x names inside is may made = rw (made ∙ append-nil es) (names_less xs i es names (sym is ∙ may))
  names_next xs i es next (Some e) x names inside is may made = rw made (names_more xs i es e names inside may.0 (may.1 ∙ is)
      (λ at. may.2 (sym may.1 ∙ at)))

  -- if the first i items are all items, the entries name the list
  pub names_all : (xs : List V) (i : ℕ) (es : List E) → length xs ≤ i → NamesBefore xs i es → Names index value default xs es
  names_all xs i es done names = grind (arith, nat_tests, first_above, get_or_past)

  -- the value of an entry is the item at its index
  pub named_is : (xs : List V) (es : List E) (e : E) → Names index value default xs es → Contains es e →
      value e ≡ slice_index_or xs (index e) default
  named_is xs es e names there = sym (first_of index value default es e (rising_distinct (map index es) names.rising) there)
      ∙ names.each (index e)
