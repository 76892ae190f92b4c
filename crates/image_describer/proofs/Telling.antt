-- Making entries for all objects of a kind, number by number.
use Rattle.image_describer.proofs.Names.{nat_tests, ℕ, inl, inr, List, [], map, length, Option, None, Some, option_to_list, sym, ap, subst, arith, All}
use Rattle.image_describer.proofs.Names.{Contains, cases_lt, All-map, All-push, All-weaker, Contains-append_left, Contains-append_right, ObjectHeader, Object}
use Rattle.image_describer.proofs.Names.{Role, role_of, content_at, Parts, objects_in, object_past, contains_here, map_both, AreRising, MayTell, TellAll}
use Rattle.std.proofs.Common.{◌≡◌, ◌≢◌, ◌+◌, ◌<◌, ◌≤◌, ◌∷◌, ◌++◌, ◌∙◌}
use Rattle.std.proofs.lemmas.List.{append-nil}
use Rattle.model.specs.declared.object.Role.TheVariants as role
use Rattle.image_describer.proofs.Rising.{rising_more}

module _ {E : Type 0} (number : E → ℕ) (Tells : E → Type 0) (kind : Role) (os : List Object) where
  -- the objects of this kind below `count` have their entries
  pub record TellBelow (count : ℕ) (es : List E) : Type 0 where
    pub each : All Tells es
    pub whole : (n : ℕ) → n < count → role_of (content_at os n) ≡ kind → Contains (map number es) n
    pub below : All (λ e. number e < count) es
    pub rising : AreRising (map number es)

  pub tell_none : TellBelow 0 []
  tell_none = grind (arith, nat_tests)

  -- if the next number is of another kind, it needs no entry
  pub tell_less : (count : ℕ) (es : List E) → TellBelow count es → role_of (content_at os count) ≢ kind → TellBelow (count + 1) es
  tell_less count es tell other = grind (arith, nat_tests, All-weaker)

  -- if the next number is of this kind, adding its entry extends the entries to it
  pub tell_more : (count : ℕ) (es : List E) (e : E) → TellBelow count es → number e ≡ count → Tells e → TellBelow (count + 1) (es ++ e ∷ [])
  tell_more count es e tell at entry_of = record {
    each = All-push Tells es e tell.each entry_of;
    whole = λ n under is. rw (map_both number es (e ∷ [])) (elim (cases_lt n count) [
      | inl before ↦ Contains-append_left (map number es) (number e ∷ []) n (tell.whole n before is)
      | inr past ↦
          let same : number e ≡ n = omega (arith, under, past, at) in
          Contains-append_right (map number es) (number e ∷ []) n (rw (← same) (contains_here (number e) []))
    ]);
    below = All-push (λ f. number f < count + 1) es e
        (All-weaker (λ f. number f < count) (λ f. number f < count + 1) (λ f under. omega (arith, under)) es tell.below)
        (omega (arith, at));
    rising = rw (map_both number es (e ∷ [])) (rising_more (map number es) (number e) tell.rising (All-map (λ n. n < number e) number es
        (All-weaker (λ f. number f < count) (λ f. number f < number e) (λ f under. omega (arith, under, at)) es tell.below)));
  }

  -- if the next number has its entry, or needs none, the entries extend to it
  pub tell_next : (count : ℕ) (es next : List E) (o : Option E) → TellBelow count es → MayTell number Tells kind os count o →
      next ≡ es ++ option_to_list o → TellBelow (count + 1) next
  tell_next count es next None tell may made = subst (TellBelow (count + 1)) (sym (made ∙ append-nil es)) (tell_less count es tell may)
  tell_next count es next (Some e) tell may made = subst (TellBelow (count + 1)) (sym made) (tell_more count es e tell may.0 may.1)

  -- if every further number is free, the entries are those of all objects of this kind
  pub tell_all : (count : ℕ) (es : List E) → TellBelow count es → kind ≢ role.Free →
      ((n : ℕ) → count ≤ n → role_of (content_at os n) ≡ role.Free) → TellAll number Tells kind os es
  tell_all count es tell some free = grind (arith, nat_tests)

-- numbers without a header are free
pub role_past : (p : Parts) (hs : List ObjectHeader) (count : ℕ) → hs ≡ p.headers → length hs ≤ count → (n : ℕ) → count ≤ n →
    role_of (content_at (objects_in p) n) ≡ role.Free
role_past p hs count same all n past =
    let total : length hs ≡ length p.headers = ap (λ (ks : List ObjectHeader). length ks) same in
    let over : length p.headers ≤ n = omega (arith, all, past, total) in
    ap (λ (o : Object). role_of o.content) (object_past p.headers p.contents n over)
