-- Changes of objects that keep everything outside a set. A capability stays inside a set if it names a member, is weak, or names no object.
use Rattle.model_laws.proofs.Names.{arith, nat_tests, inl, ℕ, suc, Bool, true, false, Option, None, Some, List, [], map, refl, sym, ap, subst, IsTrue}
use Rattle.model_laws.proofs.Names.{slice_index_or, Capability, Void, Content, Object, Root, State, named, StaysInside, free, is_bank, is_free, is_root}
use Rattle.model_laws.proofs.Names.{map_content, root_in, slots_in, with_slot_in, with_word_in, consume, is_member, names_member, rescind, resumes, void_where}
use Rattle.model_laws.proofs.Names.{without, content_at, is_process, object_at, owner_at, root_at, with_content, with_root, with_slot, with_slots_from}
use Rattle.model_laws.proofs.Names.{with_state, with_word, Encloses, IsKept, NamesInside, StaysWithin}
use Rattle.std.proofs.Common.{◌≡◌, ◌⊎◌, ◌+◌, ◌||◌, if◌then◌else◌, ◌∷◌, ◌∙◌}
use Rattle.model_laws.proofs.Cases.{chosen, one_of}
use Rattle.model_laws.proofs.Revoking.{at_rescind}
use Rattle.model_laws.proofs.Mapped.{void_void, without_mapped}
use Rattle.model_laws.proofs.SoundEdits.{at_content, at_set}
use Rattle.model_laws.proofs.SoundEdits.{object_consume}
use Rattle.model.specs.declared.object.Content.TheVariants as content

-- a content that may be put at a member of a set: it is not a bank unless a bank was there
pub record MayStand (inside : ℕ → Bool) (os : List Object) (n : ℕ) (c : Content Capability) : Type 0 where
  pub annex : is_root c ≡ true → IsTrue (inside (root_in c).annex)
  pub bank : is_bank c ≡ true → is_bank (content_at os n) ≡ true
  pub slots : (i : ℕ) → StaysInside inside (slice_index_or (slots_in c) i Void)
  pub space : StaysInside inside (root_in c).space

-- if no capability is made void, a list is unchanged

map_same : (cs : List Capability) → cs ≡ map (void_where (λ c. false)) cs
map_same [] = refl
map_same (c ∷ cs) = ap (λ ds. c ∷ ds) (map_same cs)

content_same : (c : Content Capability) → c ≡ map_content (void_where (λ c. false)) c
content_same c = grind (arith, nat_tests, map_same)

-- a test that either of two tests makes true
abbrev either : (Capability → Bool) → (Capability → Bool) → Capability → Bool
either first second c = first c || second c

twice : (first second : Capability → Bool) (c : Capability) → void_where second (void_where first c) ≡ void_where (either first second) c
twice first second c = grind (arith, nat_tests)

map_twice : (first second : Capability → Bool) (cs : List Capability)
    → map (void_where second) (map (void_where first) cs) ≡ map (void_where (either first second)) cs
map_twice first second [] = refl
map_twice first second (c ∷ cs) = rw (twice first second c, map_twice first second cs) refl

content_twice : (first second : Capability → Bool) (c : Content Capability)
    → map_content (void_where second) (map_content (void_where first) c) ≡ map_content (void_where (either first second)) c
content_twice first second c = grind (arith, nat_tests, map_twice, twice)

-- an unchanged object is kept
pub kept_refl : (inside : ℕ → Bool) (o : Object) → IsKept inside o o
kept_refl inside o = (
  (λ c. false),
  (λ c e. cc),
  ap (λ (c : Content Capability). record { owner = o.owner; content = c })
      (content_same o.content),
)

-- an object that two changes in a row keep is kept by both together
pub kept_trans : (inside : ℕ → Bool) (o p q : Object) → IsKept inside o p → IsKept inside p q → IsKept inside o q
kept_trans inside o p q a b = grind (arith, nat_tests, content_twice)

-- a list of objects stays within the set if nothing changes
pub stays_refl : (inside : ℕ → Bool) (os : List Object) → Encloses inside os → StaysWithin inside os os
stays_refl inside os h = record { encloses = h; kept = λ n out. kept_refl inside (object_at os n) }

-- two changes within a set, one after the other, are a change within the set
pub stays_trans : (inside : ℕ → Bool) (os us vs : List Object) → StaysWithin inside os us → StaysWithin inside us vs →
    StaysWithin inside os vs
stays_trans inside os us vs a b = record {
  encloses = b.encloses;
  kept = λ n out. kept_trans inside (object_at os n) (object_at us n) (object_at vs n) (a.kept n out) (b.kept n out);
}

owned_content : (inside : ℕ → Bool) (os : List Object) (n : ℕ) (c : Content Capability) → Encloses inside os → IsTrue (inside n)
    → MayStand inside os n c → (b m : ℕ) → IsTrue (inside b) → IsTrue (is_bank (content_at (with_content os n c) b))
    → is_free (content_at (with_content os n c) m) ≡ false → owner_at (with_content os n c) m ≡ b → IsTrue (inside m)
unfolding with_content
owned_content inside os n c h in_n may b m in_b is =
    let was = at_content (λ k d. is_bank d ≡ true → is_bank (content_at os k) ≡ true) os n b c may.bank (λ e. e) is in
    at_set (λ k (o : Object). is_free o.content ≡ false → o.owner ≡ b → IsTrue (inside k)) os n m
    (record { owner = owner_at os n; content = c }) free (λ e f. in_n) (h.closed.owned b m in_b was)

kept_content : (inside : ℕ → Bool) (os : List Object) (n : ℕ) (c : Content Capability) → IsTrue (inside n)
    → (m : ℕ) → inside m ≡ false → IsKept inside (object_at os m) (object_at (with_content os n c) m)
unfolding with_content
kept_content inside os n c in_n m =
    at_set (λ k o. inside k ≡ false → IsKept inside (object_at os k) o) os n m (record { owner = owner_at os n; content = c }) free
    (λ out. absurd (let both : false ≡ true = sym out ∙ in_n in cc)) (λ out. kept_refl inside (object_at os m))

-- replacing the content of a member by one that `MayStand` there changes objects only within the set
pub stays_content : (inside : ℕ → Bool) (os : List Object) (n : ℕ) (c : Content Capability) → Encloses inside os → IsTrue (inside n)
    → MayStand inside os n c → StaysWithin inside os (with_content os n c)
stays_content inside os n c h in_n may = record {
  encloses = record {
    closed = record {
      annexes = λ p in_p is.
          at_content (λ m d. IsTrue (inside m) → IsTrue (is_root d) → IsTrue (inside (root_in d).annex)) os n p c
          (λ i e. may.annex e) (h.closed.annexes p) in_p is;
      owned = λ b m in_b is live own. owned_content inside os n c h in_n may b m in_b is live own;
      slots = λ m i in_m.
          at_content (λ k d. IsTrue (inside k) → StaysInside inside (slice_index_or (slots_in d) i Void)) os n m c
          (λ j. may.slots i) (h.closed.slots m i) in_m;
      spaces = λ p in_p.
          at_content (λ k d. IsTrue (inside k) → StaysInside inside (root_in d).space) os n p c (λ j. may.space) (h.closed.spaces p) in_p;
    };
    free = λ m. at_content (λ k d. is_free d ≡ true → IsTrue (inside k)) os n m c (λ e. in_n) (h.free m);
  };
  kept = λ m out. kept_content inside os n c in_n m out;
}

-- the present content of a member `MayStand` there
may_stay : (inside : ℕ → Bool) (os : List Object) (n : ℕ) → Encloses inside os → IsTrue (inside n) → MayStand inside os n (content_at os n)
may_stay inside os n h in_n = grind (arith, nat_tests)

word_may : (inside : ℕ → Bool) (os : List Object) (n i w : ℕ) (c : Content Capability) → MayStand inside os n c →
    MayStand inside os n (with_word_in c i w)
word_may inside os n i w c h = grind (arith, nat_tests)

-- setting a word of a member changes objects only within the set
pub stays_word : (inside : ℕ → Bool) (os : List Object) (n i w : ℕ) → Encloses inside os → IsTrue (inside n) →
    StaysWithin inside os (with_word os n i w)
unfolding with_word
stays_word inside os n i w h in_n = search (arith, nat_tests, stays_content, word_may, may_stay)

slot_may : (inside : ℕ → Bool) (os : List Object) (n i : ℕ) (k : Capability) (c : Content Capability) → StaysInside inside k
    → MayStand inside os n c → MayStand inside os n (with_slot_in c i k)
slot_may inside os n i k (content.Node slots) stays h = record {
  annex = h.annex;
  bank = h.bank;
  slots = λ j. at_set (λ m c. StaysInside inside c) slots i j k Void stays (h.slots j);
  space = h.space;
}
slot_may inside os n i k (content.Annex slots) stays h = record {
  annex = h.annex;
  bank = h.bank;
  slots = λ j. at_set (λ m c. StaysInside inside c) slots i j k Void stays (h.slots j);
  space = h.space;
}
slot_may inside os n i k c stays h = h

-- setting a slot of a member changes objects only within the set
pub stays_slot : (inside : ℕ → Bool) (os : List Object) (n i : ℕ) (c : Capability) → Encloses inside os → IsTrue (inside n) →
    StaysInside inside c → StaysWithin inside os (with_slot os n i c)
unfolding with_slot
stays_slot inside os n i c h in_n stays = search (arith, nat_tests, stays_content, slot_may, may_stay)

-- setting slots of a member changes objects only within the set
pub stays_slots : (inside : ℕ → Bool) (os : List Object) (n i : ℕ) (cs : List Capability) → Encloses inside os → IsTrue (inside n)
    → ((j : ℕ) → StaysInside inside (slice_index_or cs j Void)) → StaysWithin inside os (with_slots_from os n i cs)
stays_slots inside os n i [] h in_n stays = stays_refl inside os h
stays_slots inside os n i (c ∷ cs) h in_n stays =
    let us = with_slot os n i c in
    let one = stays_slot inside os n i c h in_n (stays 0) in
    stays_trans inside os us (with_slots_from us n (i + 1) cs) one (stays_slots inside us n (i + 1) cs one.encloses in_n
    (λ j. stays (suc j)))

-- replacing the root of a member changes objects only within the set
pub stays_root : (inside : ℕ → Bool) (os : List Object) (p : ℕ) (r : Root Capability) → Encloses inside os → IsTrue (inside p)
    → IsTrue (inside r.annex) → StaysInside inside r.space → StaysWithin inside os (with_root os p r)
unfolding with_root
stays_root inside os p r h in_p in_annex space = stays_content inside os p (content.Root r) h in_p (record {
  annex = λ e. in_annex;
  bank = λ e. cc;
  slots = λ i. inl tt;
  space = space;
})

-- changing the state of a member process changes objects only within the set
pub stays_state : (inside : ℕ → Bool) (os : List Object) (p : ℕ) (s : State) → Encloses inside os → IsTrue (inside p)
    → IsTrue (is_process os p) → StaysWithin inside os (with_state os p s)
unfolding with_state
stays_state inside os p s h in_p is =
    stays_root inside os p (record (root_at os p) { state = s }) h in_p (h.closed.annexes p in_p is) (h.closed.spaces p in_p)

-- a capability that stays inside still does if it may become void

stays_void : (inside : ℕ → Bool) (goes : Capability → Bool) (c : Capability) → StaysInside inside c → StaysInside inside (void_where goes c)
stays_void inside goes c stays = one_of (StaysInside inside) (goes c) Void c (inl tt) stays

annex_without : (inside : ℕ → Bool) (goes : Capability → Bool) (o : Object) →
    (IsTrue (is_root o.content) → IsTrue (inside (root_in o.content).annex)) → IsTrue (is_root (without goes o).content) →
    IsTrue (inside (root_in (without goes o).content).annex)
annex_without inside goes o h is = grind (arith, nat_tests)

-- freeing members, and voiding capabilities that name members, changes objects only within the set
pub stays_without : (inside : ℕ → Bool) (os us : List Object) (goes : Capability → Bool) (set : List ℕ) → Encloses inside os
    → ((n : ℕ) → is_member set n ≡ true → IsTrue (inside n)) → ((c : Capability) → goes c ≡ true → NamesInside inside c)
    → ((n : ℕ) → object_at us n ≡ (if is_member set n then free else without goes (object_at os n))) → StaysWithin inside os us
stays_without inside os us goes set h members names at = record {
  encloses = record {
    closed = record {
      annexes = λ p in_p.
          at_us (λ o. IsTrue (is_root o.content) → IsTrue (inside (root_in o.content).annex)) p (λ m e. cc)
          (annex_without inside goes (object_at os p) (h.closed.annexes p in_p));
      owned = λ b n in_b is.
          at_us (λ o. is_free o.content ≡ false → o.owner ≡ b → IsTrue (inside n)) n (λ m e f. members n m)
          (λ e f. h.closed.owned b n in_b (was_bank b is) (sym (without_mapped goes (object_at os n)).free ∙ e) f);
      slots = λ n i in_n.
          at_us (λ o. StaysInside inside (slice_index_or (slots_in o.content) i Void)) n (λ m. inl tt)
          (rw ((without_mapped goes (object_at os n)).slot (void_void goes) i)
          (stays_void inside goes (slice_index_or (slots_in (content_at os n)) i Void) (h.closed.slots n i in_n)));
      spaces = λ p in_p.
          at_us (λ o. StaysInside inside (root_in o.content).space) p (λ m. inl tt)
          (rw ((without_mapped goes (object_at os p)).space (void_void goes))
          (stays_void inside goes (root_at os p).space (h.closed.spaces p in_p)));
    };
    free = λ n.
        at_us (λ o. is_free o.content ≡ true → IsTrue (inside n)) n (λ m e. members n m)
        (λ e. h.free n (sym (without_mapped goes (object_at os n)).free ∙ e));
  };
  kept = grind (arith, nat_tests);
}
  where
    at_us : (P : Object → Type 0) (n : ℕ) → (is_member set n ≡ true → P free) → P (without goes (object_at os n)) → P (object_at us n)
    at_us P n on_member old = subst P (sym (at n)) (chosen P (is_member set n) free _ on_member (λ _. old))

    was_bank : (b : ℕ) → IsTrue (is_bank (content_at us b)) → IsTrue (is_bank (content_at os b))
    was_bank b is = grind (arith, nat_tests, at_us, without_mapped)

-- consuming the resume capabilities of a member changes objects only within the set
pub stays_consume : (inside : ℕ → Bool) (os : List Object) (p : ℕ) → Encloses inside os → IsTrue (inside p) →
    StaysWithin inside os (consume p os)
stays_consume inside os p h in_p = stays_without inside os (consume p os) (resumes p) [] h (λ n m. cc) names (object_consume p os)
  where
    names : (c : Capability) → resumes p c ≡ true → NamesInside inside c
    names c e = grind (arith, nat_tests)

-- whether an optional number is a member
abbrev IsSomeInside : (ℕ → Bool) → Option ℕ → Type 0
IsSomeInside inside o = elim o [ None ↦ ⊥ | Some n ↦ IsTrue (inside n) ]

-- rescinding members changes objects only within the set
pub stays_rescind : (inside : ℕ → Bool) (os : List Object) (set : List ℕ) → Encloses inside os
    → ((n : ℕ) → is_member set n ≡ true → IsTrue (inside n)) → StaysWithin inside os (rescind set os)
stays_rescind inside os set h members =
    stays_without inside os (rescind set os) (names_member set) set h members (λ c. names (named c)) (at_rescind set os)
  where
    names : (o : Option ℕ) → (elim o [ None ↦ false | Some n ↦ is_member set n ]) ≡ true → IsSomeInside inside o
    names o e = grind (arith, nat_tests)
