-- Changes of objects that keep everything outside a set. A capability stays inside a set if it
-- names a member, is weak, names no object, or starts a trusted process.
use Rattle.confinement.proofs.Names.{arith, nat_tests, inl, ℕ, suc, Bool, true, false, Option, None, Some, List, [], map, refl, sym, ap, subst, IsTrue}
use Rattle.confinement.proofs.Names.{slice_index_or, Capability, Void, Content, Object, Root, State, named, free, is_bank, is_free, is_root, map_content}
use Rattle.confinement.proofs.Names.{root_in, slots_in, with_slot_in, with_word_in, consume, is_member, names_member, rescind, resumes, void_where, without}
use Rattle.confinement.proofs.Names.{content_at, is_process, object_at, owner_at, root_at, with_content, with_root, with_slot, with_slots_from, with_state}
use Rattle.confinement.proofs.Names.{with_word, annex_at, IsKept, NamesInside, chosen, one_of, at_rescind, void_void, without_mapped, at_content, at_set}
use Rattle.confinement.proofs.Names.{object_consume}
use Rattle.std.proofs.Common.{◌≡◌, ◌+◌, ◌||◌, if◌then◌else◌, ◌∷◌, ◌∙◌}
use Rattle.confinement.proofs.Zones.{Encloses, IsReceiver, MayChange, Stays, StaysWithin, Zone}
use Rattle.model.specs.declared.object.Content.TheVariants as content

-- a content that may replace that of object n: it is free only if n is a member, and a bank only if n was one
pub record MayStand (z : Zone) (os : List Object) (n : ℕ) (c : Content Capability) : Type 0 where
  pub free : is_free c ≡ true → IsTrue (z.members n)
  pub bank : is_bank c ≡ true → is_bank (content_at os n) ≡ true
  pub annex : IsTrue (z.members n) → is_root c ≡ true → IsTrue (z.members (root_in c).annex)
  pub receives : IsTrue (z.trusted n) → is_root c ≡ true → IsReceiver z n (root_in c).annex
  pub slots : IsTrue (z.members n) → (i : ℕ) → Stays z (slice_index_or (slots_in c) i Void)
  pub space : IsTrue (z.members n) → Stays z (root_in c).space

-- ---- voiding capabilities, in lists and contents

map_same : (cs : List Capability) → cs ≡ map (void_where (λ c. false)) cs
map_same [] = refl
map_same (c ∷ cs) = ap (λ ds. c ∷ ds) (map_same cs)

content_same : (c : Content Capability) → c ≡ map_content (void_where (λ c. false)) c
content_same c = grind (arith, nat_tests, map_same)

-- whether a capability passes either test
abbrev either : (Capability → Bool) → (Capability → Bool) → Capability → Bool
either first second c = first c || second c

twice : (first second : Capability → Bool) (c : Capability) → void_where second (void_where first c) ≡ void_where (either first second) c
twice first second c = grind (arith, nat_tests)

map_twice : (first second : Capability → Bool) (cs : List Capability)
    → map (void_where second) (map (void_where first) cs) ≡ map (void_where (either first second)) cs
map_twice first second [] = refl
map_twice first second (c ∷ cs) = rw (twice first second c, map_twice first second cs) refl

content_twice : (first second : Capability → Bool) (c : Content Capability)
    → map_content (void_where second) (map_content (void_where first) c) ≡ map_content (void_where (either first second)) c
content_twice first second c = grind (arith, nat_tests, map_twice, twice)

-- an unchanged object counts as kept
pub kept_refl : (inside : ℕ → Bool) (o : Object) → IsKept inside o o
kept_refl inside o = (
  (λ c. false),
  (λ c e. cc),
  ap (λ (c : Content Capability). record { owner = o.owner; content = c })
      (content_same o.content),
)

-- an object that two changes keep is kept by both together
kept_trans : (inside : ℕ → Bool) (o p q : Object) → IsKept inside o p → IsKept inside p q → IsKept inside o q
kept_trans inside o p q a b = grind (arith, nat_tests, content_twice)

-- if nothing changes, everything stays within the set
pub stays_refl : (z : Zone) (os : List Object) → Encloses z os → StaysWithin z os os
stays_refl z os h = record { encloses = h; kept = λ n out apart. kept_refl z.members (object_at os n) }

-- two changes within a set, one after the other, are a change within the set
pub stays_trans : (z : Zone) (os us vs : List Object) → StaysWithin z os us → StaysWithin z us vs → StaysWithin z os vs
stays_trans z os us vs a b = record {
  encloses = b.encloses;
  kept = λ n out apart. kept_trans z.members (object_at os n) (object_at us n) (object_at vs n) (a.kept n out apart) (b.kept n out apart);
}

-- an object that a member bank owns is one that may change
owned_here : (z : Zone) (os : List Object) (n b : ℕ) → Encloses z os → IsTrue (z.members b) → IsTrue (is_bank (content_at os b)) →
    owner_at os n ≡ b → IsTrue (z.members n)
owned_here z os n b h in_b bank own = go (is_free (content_at os n)) refl
  where
    go : (gone : Bool) → is_free (content_at os n) ≡ gone → IsTrue (z.members n)
    go true e = h.free n e
    go false e = h.closed.owned b n in_b bank e own

owned_content : (z : Zone) (os : List Object) (n : ℕ) (c : Content Capability) → Encloses z os
    → MayStand z os n c → (b m : ℕ) → IsTrue (z.members b) → IsTrue (is_bank (content_at (with_content os n c) b))
    → is_free (content_at (with_content os n c) m) ≡ false → owner_at (with_content os n c) m ≡ b → IsTrue (z.members m)
unfolding with_content
owned_content z os n c h may b m in_b is =
    let was = at_content (λ k d. is_bank d ≡ true → is_bank (content_at os k) ≡ true) os n b c may.bank (λ e. e) is in
    at_set (λ k (o : Object). is_free o.content ≡ false → o.owner ≡ b → IsTrue (z.members k)) os n m
    (record { owner = owner_at os n; content = c }) free (λ e own. owned_here z os n b h in_b was own) (h.closed.owned b m in_b was)

-- a number whose object may change is a member or a port
changes : (z : Zone) (n : ℕ) → MayChange z n → z.members n ≡ false → z.ports n ≡ false → ⊥
changes z n may out apart = grind (arith, nat_tests)

kept_content : (z : Zone) (os : List Object) (n : ℕ) (c : Content Capability) → MayChange z n
    → (m : ℕ) → z.members m ≡ false → z.ports m ≡ false → IsKept z.members (object_at os m) (object_at (with_content os n c) m)
unfolding with_content
kept_content z os n c change m =
    at_set (λ k o. z.members k ≡ false → z.ports k ≡ false → IsKept z.members (object_at os k) o) os n m
    (record { owner = owner_at os n; content = c }) free
    (λ out apart. absurd (changes z n change out apart)) (λ out apart. kept_refl z.members (object_at os m))

-- replacing a content by one that may stand there stays within the set
pub stays_content : (z : Zone) (os : List Object) (n : ℕ) (c : Content Capability) → Encloses z os → MayChange z n
    → MayStand z os n c → StaysWithin z os (with_content os n c)
stays_content z os n c h change may = record {
  encloses = record {
    closed = record {
      annexes = λ p in_p is.
          at_content (λ m d. IsTrue (z.members m) → IsTrue (is_root d) → IsTrue (z.members (root_in d).annex)) os n p c
          may.annex (h.closed.annexes p) in_p is;
      owned = λ b m in_b is live own. owned_content z os n c h may b m in_b is live own;
      slots = λ m i in_m.
          at_content (λ k d. IsTrue (z.members k) → Stays z (slice_index_or (slots_in d) i Void)) os n m c
          (λ j. may.slots j i) (h.closed.slots m i) in_m;
      spaces = λ p in_p.
          at_content (λ k d. IsTrue (z.members k) → Stays z (root_in d).space) os n p c may.space (h.closed.spaces p) in_p;
    };
    free = λ m. at_content (λ k d. is_free d ≡ true → IsTrue (z.members k)) os n m c may.free (h.free m);
    receives = λ m trusts is.
        at_content (λ k d. IsTrue (z.trusted k) → IsTrue (is_root d) → IsReceiver z k (root_in d).annex) os n m c
        may.receives (h.receives m) trusts is;
  };
  kept = λ m out apart. kept_content z os n c change m out apart;
}

-- the content of an object may stand where it is
may_stay : (z : Zone) (os : List Object) (n : ℕ) → Encloses z os → MayStand z os n (content_at os n)
may_stay z os n h = record {
  free = h.free n;
  bank = λ e. e;
  annex = h.closed.annexes n;
  receives = h.receives n;
  slots = λ in_n i. h.closed.slots n i in_n;
  space = h.closed.spaces n;
}

word_may : (z : Zone) (os : List Object) (n i w : ℕ) (c : Content Capability) → MayStand z os n c → MayStand z os n (with_word_in c i w)
word_may z os n i w c h = grind (arith, nat_tests)

-- setting a word of a member stays within the set
pub stays_word : (z : Zone) (os : List Object) (n i w : ℕ) → Encloses z os → IsTrue (z.members n) → StaysWithin z os (with_word os n i w)
unfolding with_word
stays_word z os n i w h in_n =
    stays_content z os n (with_word_in (content_at os n) i w) h (inl in_n) (word_may z os n i w (content_at os n) (may_stay z os n h))

slot_may : (z : Zone) (os : List Object) (n i : ℕ) (k : Capability) (c : Content Capability) → Stays z k
    → MayStand z os n c → MayStand z os n (with_slot_in c i k)
slot_may z os n i k (content.Node slots) stays h = record {
  free = h.free;
  bank = h.bank;
  annex = h.annex;
  receives = h.receives;
  slots = λ in_n j. at_set (λ m c. Stays z c) slots i j k Void stays (h.slots in_n j);
  space = h.space;
}
slot_may z os n i k (content.Annex slots) stays h = record {
  free = h.free;
  bank = h.bank;
  annex = h.annex;
  receives = h.receives;
  slots = λ in_n j. at_set (λ m c. Stays z c) slots i j k Void stays (h.slots in_n j);
  space = h.space;
}
slot_may z os n i k c stays h = h

-- setting a slot of an object that may change stays within the set, if the capability stays inside
pub stays_slot : (z : Zone) (os : List Object) (n i : ℕ) (c : Capability) → Encloses z os → MayChange z n → Stays z c
    → StaysWithin z os (with_slot os n i c)
unfolding with_slot
stays_slot z os n i c h change stays =
    stays_content z os n (with_slot_in (content_at os n) i c) h change (slot_may z os n i c (content_at os n) stays (may_stay z os n h))

-- setting several slots of an object that may change stays within the set, if the capabilities stay inside
pub stays_slots : (z : Zone) (os : List Object) (n i : ℕ) (cs : List Capability) → Encloses z os → MayChange z n
    → ((j : ℕ) → Stays z (slice_index_or cs j Void)) → StaysWithin z os (with_slots_from os n i cs)
stays_slots z os n i [] h change stays = stays_refl z os h
stays_slots z os n i (c ∷ cs) h change stays =
    let us = with_slot os n i c in
    let one = stays_slot z os n i c h change (stays 0) in
    stays_trans z os us (with_slots_from us n (i + 1) cs) one (stays_slots z us n (i + 1) cs one.encloses change (λ j. stays (suc j)))

-- replacing a root by one with the same annex stays within the set
pub stays_root : (z : Zone) (os : List Object) (p : ℕ) (r : Root Capability) → Encloses z os → MayChange z p → IsTrue (is_process os p)
    → r.annex ≡ annex_at os p → (IsTrue (z.members p) → Stays z r.space) → StaysWithin z os (with_root os p r)
unfolding with_root
stays_root z os p r h change is same space = stays_content z os p (content.Root r) h change (record {
  free = λ e. cc;
  bank = λ e. cc;
  annex = λ in_p e. subst (λ a. IsTrue (z.members a)) (sym same) (h.closed.annexes p in_p is);
  receives = λ trusts e. subst (λ a. IsReceiver z p a) (sym same) (h.receives p trusts is);
  slots = λ in_p i. inl (inl tt);
  space = space;
})

-- changing the state of a member process stays within the set
pub stays_state : (z : Zone) (os : List Object) (p : ℕ) (s : State) → Encloses z os → IsTrue (z.members p)
    → IsTrue (is_process os p) → StaysWithin z os (with_state os p s)
unfolding with_state
stays_state z os p s h in_p is = stays_root z os p (record (root_at os p) { state = s }) h (inl in_p) is refl (h.closed.spaces p)

-- ---- voiding capabilities

stays_void : (z : Zone) (goes : Capability → Bool) (c : Capability) → Stays z c → Stays z (void_where goes c)
stays_void z goes c stays = one_of (Stays z) (goes c) Void c (inl (inl tt)) stays

annex_without : (z : Zone) (goes : Capability → Bool) (o : Object) → (IsTrue (is_root o.content) →
    IsTrue (z.members (root_in o.content).annex)) → IsTrue (is_root (without goes o).content) →
    IsTrue (z.members (root_in (without goes o).content).annex)
annex_without z goes o h is = grind (arith, nat_tests)

receives_without : (z : Zone) (goes : Capability → Bool) (p : ℕ) (o : Object) →
    (IsTrue (is_root o.content) → IsReceiver z p (root_in o.content).annex) → IsTrue (is_root (without goes o).content) →
    IsReceiver z p (root_in (without goes o).content).annex
receives_without z goes p o h is = grind (arith, nat_tests)

-- freeing members, and voiding capabilities that name members, stays within the set
pub stays_without : (z : Zone) (os us : List Object) (goes : Capability → Bool) (set : List ℕ) → Encloses z os
    → ((n : ℕ) → is_member set n ≡ true → IsTrue (z.members n)) → ((c : Capability) → goes c ≡ true → NamesInside z.members c)
    → ((n : ℕ) → object_at us n ≡ (if is_member set n then free else without goes (object_at os n))) → StaysWithin z os us
stays_without z os us goes set h members names at = record {
  encloses = record {
    closed = record {
      annexes = λ p in_p.
          at_us (λ o. IsTrue (is_root o.content) → IsTrue (z.members (root_in o.content).annex)) p (λ m e. cc)
          (annex_without z goes (object_at os p) (h.closed.annexes p in_p));
      owned = λ b n in_b is.
          at_us (λ o. is_free o.content ≡ false → o.owner ≡ b → IsTrue (z.members n)) n (λ m e f. members n m)
          (λ e f. h.closed.owned b n in_b (was_bank b is) (sym (without_mapped goes (object_at os n)).free ∙ e) f);
      slots = λ n i in_n.
          at_us (λ o. Stays z (slice_index_or (slots_in o.content) i Void)) n (λ m. inl (inl tt))
          (rw ((without_mapped goes (object_at os n)).slot (void_void goes) i)
          (stays_void z goes (slice_index_or (slots_in (content_at os n)) i Void) (h.closed.slots n i in_n)));
      spaces = λ p in_p.
          at_us (λ o. Stays z (root_in o.content).space) p (λ m. inl (inl tt))
          (rw ((without_mapped goes (object_at os p)).space (void_void goes))
          (stays_void z goes (root_at os p).space (h.closed.spaces p in_p)));
    };
    free = λ n.
        at_us (λ o. is_free o.content ≡ true → IsTrue (z.members n)) n (λ m e. members n m)
        (λ e. h.free n (sym (without_mapped goes (object_at os n)).free ∙ e));
    receives = λ p trusts.
        at_us (λ o. IsTrue (is_root o.content) → IsReceiver z p (root_in o.content).annex) p (λ m e. cc)
        (receives_without z goes p (object_at os p) (h.receives p trusts));
  };
  kept = λ n out apart. kept_without n out;
}
  where
    at_us : (P : Object → Type 0) (n : ℕ) → (is_member set n ≡ true → P free) → P (without goes (object_at os n)) → P (object_at us n)
    at_us P n on_member old = subst P (sym (at n)) (chosen P (is_member set n) free _ on_member (λ _. old))

    kept_without : (n : ℕ) → z.members n ≡ false → IsKept z.members (object_at os n) (object_at us n)
    kept_without n out = grind (arith, nat_tests)

    was_bank : (b : ℕ) → IsTrue (is_bank (content_at us b)) → IsTrue (is_bank (content_at os b))
    was_bank b is = grind (arith, nat_tests, at_us, without_mapped)

-- consuming the resume capabilities of a member stays within the set
pub stays_consume : (z : Zone) (os : List Object) (p : ℕ) → Encloses z os → IsTrue (z.members p) → StaysWithin z os (consume p os)
stays_consume z os p h in_p = stays_without z os (consume p os) (resumes p) [] h (λ n m. cc) names (object_consume p os)
  where
    names : (c : Capability) → resumes p c ≡ true → NamesInside z.members c
    names c e = grind (arith, nat_tests)

-- the number is there, and is a member
abbrev IsSomeInside : Zone → Option ℕ → Type 0
IsSomeInside z o = elim o [ None ↦ ⊥ | Some n ↦ IsTrue (z.members n) ]

-- rescinding members stays within the set
pub stays_rescind : (z : Zone) (os : List Object) (set : List ℕ) → Encloses z os
    → ((n : ℕ) → is_member set n ≡ true → IsTrue (z.members n)) → StaysWithin z os (rescind set os)
stays_rescind z os set h members =
    stays_without z os (rescind set os) (names_member set) set h members (λ c. names (named c)) (at_rescind set os)
  where
    names : (o : Option ℕ) → (elim o [ None ↦ false | Some n ↦ is_member set n ]) ≡ true → IsSomeInside z o
    names o e = grind (arith, nat_tests)
