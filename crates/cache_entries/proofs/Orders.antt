-- Numbers in the order of their last use, stored as the keys of a cache of pairs.
use Rattle.cache_entries.proofs.Names.{nat_tests, IsFilled, inl, inr, ℕ, nat_eq, Bool, true, false, cond, true≢false, List, [], length, take, Option, Some}
use Rattle.cache_entries.proofs.Names.{None, is_some, refl, sym, ap, arith, keys_of, lookup_entry, remove_entry, option_map_or, eqb-true, eq-eqb, ne_eqb}
use Rattle.cache_entries.proofs.Names.{take_all, LruCache, promoted, demoted, put_entries, Contains-lookup_entry, is_member, AllDiffer, without, or_right}
use Rattle.cache_entries.proofs.Names.{or_cases, or_parts, false_from_ne_true, any_passes_from_place, list_any-append, take-append-drop, slice_get, drop}
use Rattle.cache_entries.proofs.Names.{get_or, get_or-drop, length-drop, slice_get-get_or, subst}
use Rattle.std.proofs.Common.{◌≡◌, ◌≢◌, ◌+◌, ◌-◌, ◌<◌, ◌||◌, ◌∷◌, ◌++◌, ◌∙◌, ◌⊎◌}

-- ---- the keys of pairs

module _ (n : ℕ) where
  pub without_keys : (es : List (ℕ × Unit {0})) → keys_of (remove_entry (nat_eq n) es) ≡ without n (keys_of es)
  without_keys [] = refl
  without_keys (e ∷ es) = go (nat_eq n e.0) (without_keys es)
    where
      go : (t : Bool) → keys_of (remove_entry (nat_eq n) es) ≡ without n (keys_of es) →
          keys_of (cond t es (e ∷ remove_entry (nat_eq n) es)) ≡ cond t (keys_of es) (e.0 ∷ without n (keys_of es))
      go true later = refl
      go false later = ap (λ (ns : List ℕ). e.0 ∷ ns) later

  entry_found : (t : Bool) (e : ℕ × Unit {0}) (o : Option (ℕ × Unit {0})) (b : Bool) → is_some o ≡ b →
      is_some (cond t (Some e) o) ≡ (t || b)
  entry_found t e o b same = grind (arith, nat_tests)

  member_entries : (es : List (ℕ × Unit {0})) → is_some (lookup_entry (nat_eq n) es) ≡ is_member (keys_of es) n
  member_entries [] = refl
  member_entries (e ∷ es) = entry_found (nat_eq n e.0) e (lookup_entry (nat_eq n) es) (is_member (keys_of es) n) (member_entries es)

  pub used_keys : (es : List (ℕ × Unit {0})) → is_member (keys_of es) n ≡ true →
      keys_of (promoted (nat_eq n) es) ≡ n ∷ without n (keys_of es)
  used_keys es is = go (lookup_entry (nat_eq n) es) refl (member_entries es ∙ is)
    where
      go : (o : Option (ℕ × Unit {0})) → lookup_entry (nat_eq n) es ≡ o → is_some o ≡ true →
          keys_of (option_map_or (λ (e : ℕ × Unit {0}). e ∷ remove_entry (nat_eq n) es) o es) ≡ n ∷ without n (keys_of es)
      go None at some = absurd (true≢false (sym some))
      go (Some e) at some =
          ap (λ (m : ℕ). m ∷ keys_of (remove_entry (nat_eq n) es)) (sym (eqb-true n e.0 (Contains-lookup_entry (nat_eq n) es e at).1))
          ∙ ap (λ (ns : List ℕ). n ∷ ns) (without_keys es)

  pub unused_keys : (es : List (ℕ × Unit {0})) → is_member (keys_of es) n ≡ false → keys_of (promoted (nat_eq n) es) ≡ keys_of es
  unused_keys es none = go (lookup_entry (nat_eq n) es) (member_entries es ∙ none)
    where
      go : (o : Option (ℕ × Unit {0})) → is_some o ≡ false → keys_of (option_map_or (λ (e : ℕ × Unit {0}). e ∷ remove_entry (nat_eq n) es) o
          es) ≡ keys_of es
      go None is = refl
      go (Some e) is = absurd (true≢false is)

  pub demoted_keys : (es : List (ℕ × Unit {0})) → is_member (keys_of es) n ≡ true →
      keys_of (demoted (nat_eq n) es) ≡ without n (keys_of es) ++ n ∷ []
  demoted_keys es is = go (lookup_entry (nat_eq n) es) refl (member_entries es ∙ is)
    where
      keys_end : (es : List (ℕ × Unit {0})) (e : ℕ × Unit {0}) → keys_of (es ++ e ∷ []) ≡ keys_of es ++ e.0 ∷ []
      keys_end [] e = refl
      keys_end (f ∷ es) e = ap (λ (ns : List ℕ). f.0 ∷ ns) (keys_end es e)

      go : (o : Option (ℕ × Unit {0})) → lookup_entry (nat_eq n) es ≡ o → is_some o ≡ true →
          keys_of (option_map_or (λ (e : ℕ × Unit {0}). remove_entry (nat_eq n) es ++ e ∷ []) o es) ≡ without n (keys_of es) ++ n ∷ []
      go None at some = absurd (true≢false (sym some))
      go (Some e) at some =
          keys_end (remove_entry (nat_eq n) es) e
          ∙ ap (λ (m : ℕ). keys_of (remove_entry (nat_eq n) es) ++ m ∷ []) (sym
          (eqb-true n e.0 (Contains-lookup_entry (nat_eq n) es e at).1))
          ∙ ap (λ (ns : List ℕ). ns ++ n ∷ []) (without_keys es)

  pub new_keys : (c : LruCache ℕ (Unit {0})) → is_member (keys_of c.entries) n ≡ false → length c.entries < c.cap →
      keys_of (put_entries nat_eq c n tt) ≡ n ∷ keys_of c.entries
  new_keys c none short = go (lookup_entry (nat_eq n) c.entries) (member_entries c.entries ∙ none)
    where
      go : (o : Option (ℕ × Unit {0})) → is_some o ≡ false →
          keys_of (option_map_or (λ (e : ℕ × Unit {0}). (e.0, tt) ∷ remove_entry (nat_eq n) c.entries) o
          ((n, tt) ∷ take (c.cap - 1) c.entries)) ≡ n ∷
          keys_of c.entries
      go None is = ap (λ (es : List (ℕ × Unit {0})). n ∷ keys_of es) (take_all (c.cap - 1) c.entries (omega (arith, short)))
      go (Some e) is = absurd (true≢false is)

-- ---- members

pub member_tail : (n m : ℕ) (ms : List ℕ) → m ≢ n → is_member (m ∷ ms) n ≡ is_member ms n
member_tail n m ms other = ap (λ (t : Bool). t || is_member ms n) (ne_eqb n m (λ same. other (sym same)))

pub member_head : (n m : ℕ) (ms : List ℕ) → n ≡ m → is_member (m ∷ ms) n ≡ true
member_head n m ms same = ap (λ (t : Bool). t || is_member ms n) (eq-eqb n m same)

pub in_tail : (m : ℕ) (ms : List ℕ) (n : ℕ) → is_member ms n ≡ true → is_member (m ∷ ms) n ≡ true
in_tail m ms n is = or_right (nat_eq n m) (is_member ms n) is

pub either_of : (m : ℕ) (ms : List ℕ) (n : ℕ) → is_member (m ∷ ms) n ≡ true → (n ≡ m) ⊎ (is_member ms n ≡ true)
either_of m ms n is = elim (or_cases (nat_eq n m) (is_member ms n) is) [ inl same ↦ inl (eqb-true n m same) | inr later ↦ inr later ]

pub not_here : (m : ℕ) (ms : List ℕ) (n : ℕ) → is_member (m ∷ ms) n ≡ false → (n ≢ m) × (is_member ms n ≡ false)
not_here m ms n none = (λ same. true≢false (sym (member_head n m ms same) ∙ none), (or_parts (nat_eq n m) (is_member ms n) none).1)

-- a number at an index of a list is a member
pub listed_member : (ns : List ℕ) (i n : ℕ) → slice_get ns i ≡ Some n → is_member ns n ≡ true
listed_member ns i n at = any_passes_from_place (nat_eq n) ns i n at (eq-eqb n n refl)

pub member_at : (ns : List ℕ) (i : ℕ) → i < length ns → is_member ns (get_or ns i 0) ≡ true
member_at ns i below = listed_member ns i (get_or ns i 0) (slice_get-get_or ns i 0 below)

pub member_behind : (ns : List ℕ) (i j : ℕ) → i < j → j < length ns → is_member (drop (i + 1) ns) (get_or ns j 0) ≡ true
member_behind ns i j after below =
    let k = j - (i + 1) in
    let same : (i + 1) + k ≡ j = omega (arith, after) in
    subst (λ (n : ℕ). is_member (drop (i + 1) ns) n ≡ true) (get_or-drop (i + 1) ns k 0 ∙ ap (λ (m : ℕ). get_or ns m 0) same)
    (member_at (drop (i + 1) ns) k (omega (arith, after, below, length-drop (i + 1) ns)))

pub in_behind : (front ns : List ℕ) (n : ℕ) → is_member ns n ≡ true → is_member (front ++ ns) n ≡ true
in_behind front ns n is = list_any-append (nat_eq n) front ns ∙ or_right (is_member front n) (is_member ns n) is

pub in_front : (k : ℕ) (ns : List ℕ) (n : ℕ) → is_member (take k ns) n ≡ true → is_member ns n ≡ true
in_front k ns n is = cc (take-append-drop k ns, list_any-append (nat_eq n) (take k ns) (drop k ns))

-- a list with a number added at its end has the same members as with the number added in front
pub member_end : (ns : List ℕ) (n m : ℕ) → is_member (ns ++ n ∷ []) m ≡ is_member (n ∷ ns) m
member_end [] n m = refl
member_end (k ∷ ns) n m = ap (λ (t : Bool). nat_eq m k || t) (member_end ns n m) ∙ swapped (nat_eq m k) (nat_eq m n)
  where
    swapped : (s t : Bool) → (s || (t || is_member ns m)) ≡ (t || (s || is_member ns m))
    swapped true true = refl
    swapped true false = refl
    swapped false t = refl

pub without_here : (n m : ℕ) (ms : List ℕ) → n ≡ m → without n (m ∷ ms) ≡ ms
without_here n m ms same = ap (λ (t : Bool). cond t ms (m ∷ without n ms)) (eq-eqb n m same)

pub without_tail : (n m : ℕ) (ms : List ℕ) → n ≢ m → without n (m ∷ ms) ≡ m ∷ without n ms
without_tail n m ms other = ap (λ (t : Bool). cond t ms (m ∷ without n ms)) (ne_eqb n m other)

-- removing a member shortens a list by one
pub length_without : (n : ℕ) (ns : List ℕ) → is_member ns n ≡ true → length (without n ns) + 1 ≡ length ns
length_without n [] is = absurd (true≢false (sym is))
length_without n (m ∷ ms) is = go (nat_eq n m) is (length_without n ms)
  where
    go : (t : Bool) → (t || is_member ms n) ≡ true → (is_member ms n ≡ true → length (without n ms) + 1 ≡ length ms) → length
        (cond t ms (m ∷ without n ms)) + 1 ≡ length (m ∷ ms)
    go true is later = omega arith
    go false is later = omega (arith, later is)

pub gone : (n : ℕ) (ns : List ℕ) → AllDiffer ns → is_member (without n ns) n ≡ false
gone n [] once = refl
gone n (m ∷ ms) once = grind (arith, nat_tests, member_tail, gone n ms once.1)

pub still : (n : ℕ) (ns : List ℕ) (k : ℕ) → k ≢ n → is_member (without n ns) k ≡ is_member ns k
still n [] k other = refl
still n (m ∷ ms) k other = grind (arith, nat_tests, member_tail, still n ms k other)

pub differ_without : (n : ℕ) (ns : List ℕ) → AllDiffer ns → AllDiffer (without n ns)
differ_without n [] once = tt
differ_without n (m ∷ ms) once = grind (arith, nat_tests, still, differ_without n ms once.1)

pub not_yet : (keys : List ℕ) (k : ℕ) → ((p : ℕ) → is_member keys p ≡ true → p < k) → is_member keys k ≡ false
not_yet keys k known = false_from_ne_true (is_member keys k) (λ is. omega (arith, known k is))

-- adding place k to all places below k gives all places below k + 1
pub filled_more : (keys : List ℕ) (k : ℕ) → IsFilled keys k → IsFilled (k ∷ keys) (k + 1)
filled_more keys k is = grind (arith, nat_tests, not_yet, member_tail)
