-- Changes that keep two lists of objects linked: they agree on a set that is closed for reading in both.
use Rattle.noninterference.proofs.Names.{nat_tests, inl, ℕ, zero, suc, Bool, true, false, List, [], length, refl, sym, ap, subst, arith, IsTrue}
use Rattle.noninterference.proofs.Names.{slice_index_or, Capability, Void, Content, Object, Root, State, free, is_bank, is_free, is_root, root_in, slots_in}
use Rattle.noninterference.proofs.Names.{with_slot_in, with_word_in, consume, is_member, rescind, resumes, names_member, void_where, without}
use Rattle.noninterference.proofs.Names.{content_at, is_process, object_at, owner_at, root_at, with_content, with_root, with_slot, with_slots_from}
use Rattle.noninterference.proofs.Names.{with_state, with_word, HaveSame, IsReadClosedBut, NamesBut, one_of, at_content, at_set}
use Rattle.noninterference.proofs.Names.{object_consume, at_rescind, void_void, without_mapped, get_or, set, length-set, length-map}
use Rattle.noninterference.proofs.Names.{enumerate_from, length-enumerate_from}
use Rattle.std.proofs.Common.{◌≡◌, ◌+◌, ◌∷◌, ◌∙◌, if◌then◌else◌}
use Rattle.model.specs.declared.object.Content.TheVariants as content

-- two lists of objects are equal on a set that is closed for reading in both
pub record Link (trusted inside : ℕ → Bool) (os us : List Object) : Type 0 where
  pub size : length us ≡ length os
  pub same : HaveSame inside os us
  pub left : IsReadClosedBut trusted os inside
  pub right : IsReadClosedBut trusted us inside

-- a content that may replace a member's: it is a bank only if the old one was, and all that it names stays in the set
pub record MayStand (trusted inside : ℕ → Bool) (old c : Content Capability) : Type 0 where
  pub annex : is_root c ≡ true → IsTrue (inside (root_in c).annex)
  pub bank : is_bank c ≡ true → is_bank old ≡ true
  pub slots : (i : ℕ) → NamesBut trusted inside (slice_index_or (slots_in c) i Void)
  pub space : NamesBut trusted inside (root_in c).space

module _ (trusted inside : ℕ → Bool) where
  pub void_names : NamesBut trusted inside Void
  void_names = inl tt

  -- ---- replacing the content of a member

  owned_content : (os : List Object) (n : ℕ) (c : Content Capability) → IsReadClosedBut trusted os inside → IsTrue (inside n)
      → MayStand trusted inside (content_at os n) c → (b m : ℕ) → IsTrue (inside b) → IsTrue (is_bank (content_at (with_content os n c) b))
      → is_free (content_at (with_content os n c) m) ≡ false → owner_at (with_content os n c) m ≡ b → IsTrue (inside m)
  unfolding with_content
  owned_content os n c h in_n may b m in_b is =
      let was = at_content (λ k d. is_bank d ≡ true → is_bank (content_at os k) ≡ true) os n b c may.bank (λ e. e) is in
      at_set (λ k (o : Object). is_free o.content ≡ false → o.owner ≡ b → IsTrue (inside k)) os n m
      (record { owner = owner_at os n; content = c }) free (λ e f. in_n) (h.owned b m in_b was)

  closed_content : (os : List Object) (n : ℕ) (c : Content Capability) → IsReadClosedBut trusted os inside → IsTrue (inside n)
      → MayStand trusted inside (content_at os n) c → IsReadClosedBut trusted (with_content os n c) inside
  closed_content os n c h in_n may = record {
    annexes = λ p in_p is.
        at_content (λ m d. IsTrue (inside m) → IsTrue (is_root d) → IsTrue (inside (root_in d).annex)) os n p c
        (λ i e. may.annex e) (h.annexes p) in_p is;
    owned = owned_content os n c h in_n may;
    slots = λ m i in_m.
        at_content (λ k d. IsTrue (inside k) → NamesBut trusted inside (slice_index_or (slots_in d) i Void)) os n m c
        (λ j. may.slots i) (h.slots m i) in_m;
    spaces = λ p in_p.
        at_content (λ k d. IsTrue (inside k) → NamesBut trusted inside (root_in d).space) os n p c (λ j. may.space) (h.spaces p) in_p;
  }

  at_both : (os us : List Object) (n m : ℕ) (x : Object) → length us ≡ length os → get_or us m free ≡ get_or os m free
      → get_or (set us n x) m free ≡ get_or (set os n x) m free
  at_both [] [] n m x size same = same
  at_both [] (u ∷ us) n m x size same = absurd (omega (arith, size))
  at_both (o ∷ os) [] n m x size same = absurd (omega (arith, size))
  at_both (o ∷ os) (u ∷ us) zero zero x size same = refl
  at_both (o ∷ os) (u ∷ us) zero (suc m) x size same = same
  at_both (o ∷ os) (u ∷ us) (suc n) zero x size same = same
  at_both (o ∷ os) (u ∷ us) (suc n) (suc m) x size same = at_both os us n m x (omega (arith, size)) same

  same_content : (os us : List Object) (n : ℕ) (c : Content Capability) → Link trusted inside os us → IsTrue (inside n)
      → HaveSame inside (with_content os n c) (with_content us n c)
  unfolding with_content
  same_content os us n c h in_n m in_m =
      subst (λ b. object_at (set us n (record { owner = b; content = c })) m
      ≡ object_at (set os n (record { owner = owner_at os n; content = c })) m)
      (sym (ap (λ (o : Object). o.owner) (h.same n in_n)))
      (at_both os us n m (record { owner = owner_at os n; content = c }) h.size (h.same m in_m))

  size_content : (os : List Object) (n : ℕ) (c : Content Capability) → length (with_content os n c) ≡ length os
  unfolding with_content
  size_content os n c = length-set os n (record { owner = owner_at os n; content = c })

  pub link_content : (os us : List Object) (n : ℕ) (c : Content Capability) → Link trusted inside os us → IsTrue (inside n)
      → MayStand trusted inside (content_at os n) c → Link trusted inside (with_content os n c) (with_content us n c)
  link_content os us n c h in_n may = record {
    size = size_content us n c ∙ h.size ∙ sym (size_content os n c);
    same = same_content os us n c h in_n;
    left = closed_content os n c h.left in_n may;
    right = closed_content us n c h.right in_n
        (subst (λ (o : Object). MayStand trusted inside o.content c) (sym (h.same n in_n)) may);
  }

  -- if a function is applied to a member's content in both lists, the lists stay linked
  module _ (os us : List Object) (n : ℕ) (h : Link trusted inside os us) (in_n : IsTrue (inside n)) where
    link_made : (f : Content Capability → Content Capability) → MayStand trusted inside (content_at os n) (f (content_at os n))
        → Link trusted inside (with_content os n (f (content_at os n))) (with_content us n (f (content_at us n)))
    link_made f may =
        subst (λ (o : Object). Link trusted inside (with_content os n (f (content_at os n))) (with_content us n (f o.content)))
        (sym (h.same n in_n))
        (link_content os us n (f (content_at os n)) h in_n may)

    may_stay : MayStand trusted inside (content_at os n) (content_at os n)
    may_stay = record { annex = h.left.annexes n in_n; bank = λ e. e; slots = λ i. h.left.slots n i in_n; space = h.left.spaces n in_n }

    word_may : (i w : ℕ) (c : Content Capability) → MayStand trusted inside (content_at os n) c
        → MayStand trusted inside (content_at os n) (with_word_in c i w)
    word_may i w (content.Page words) may = record { annex = may.annex; bank = may.bank; slots = may.slots; space = may.space }
    word_may i w c may = may

    pub link_word : (i w : ℕ) → Link trusted inside (with_word os n i w) (with_word us n i w)
    unfolding with_word
    link_word i w = link_made (λ c. with_word_in c i w) (word_may i w (content_at os n) may_stay)

    slot_may : (i : ℕ) (k : Capability) (c : Content Capability) → NamesBut trusted inside k → MayStand trusted inside (content_at os n) c
        → MayStand trusted inside (content_at os n) (with_slot_in c i k)
    slot_may i k (content.Node slots) stays may = record {
      annex = may.annex;
      bank = may.bank;
      slots = λ j. at_set (λ m c. NamesBut trusted inside c) slots i j k Void stays (may.slots j);
      space = may.space;
    }
    slot_may i k (content.Annex slots) stays may = record {
      annex = may.annex;
      bank = may.bank;
      slots = λ j. at_set (λ m c. NamesBut trusted inside c) slots i j k Void stays (may.slots j);
      space = may.space;
    }
    slot_may i k c stays may = may

    pub link_slot : (i : ℕ) (k : Capability) → NamesBut trusted inside k → Link trusted inside (with_slot os n i k) (with_slot us n i k)
    unfolding with_slot
    link_slot i k stays = link_made (λ c. with_slot_in c i k) (slot_may i k (content_at os n) stays may_stay)

    -- if a member gets the same root in both lists, the lists stay linked
    pub link_root : (r : Root Capability) → IsTrue (inside r.annex) → NamesBut trusted inside r.space
        → Link trusted inside (with_root os n r) (with_root us n r)
    unfolding with_root
    link_root r in_annex space = link_content os us n (content.Root r) h in_n
        (record { annex = λ e. in_annex; bank = λ e. cc; slots = λ i. void_names; space = space })

    -- if a function is applied to a member's root in both lists, the lists stay linked
    pub link_of_root : (f : Root Capability → Root Capability) → IsTrue (inside (f (root_at os n)).annex)
        → NamesBut trusted inside (f (root_at os n)).space → Link trusted inside (with_root os n (f (root_at os n)))
        (with_root us n (f (root_at us n)))
    link_of_root f in_annex space =
        subst (λ (o : Object). Link trusted inside (with_root os n (f (root_at os n))) (with_root us n (f (root_in o.content))))
        (sym (h.same n in_n))
        (link_root (f (root_at os n)) in_annex space)

    pub link_state : (s : State) → IsTrue (is_process os n) → Link trusted inside (with_state os n s) (with_state us n s)
    unfolding with_state
    link_state s is = link_of_root (λ r. record r { state = s }) (h.left.annexes n in_n is) (h.left.spaces n in_n)

  pub link_slots : (os us : List Object) (n i : ℕ) (cs : List Capability) → Link trusted inside os us → IsTrue (inside n)
      → ((j : ℕ) → NamesBut trusted inside (slice_index_or cs j Void)) → Link trusted inside (with_slots_from os n i cs)
      (with_slots_from us n i cs)
  link_slots os us n i [] h in_n stays = h
  link_slots os us n i (c ∷ cs) h in_n stays =
      link_slots (with_slot os n i c) (with_slot us n i c) n (i + 1) cs (link_slot os us n h in_n i c (stays 0)) in_n (λ j. stays (suc j))

  -- ---- voiding capabilities, and freeing objects

  void_stays : (goes : Capability → Bool) (c : Capability) → NamesBut trusted inside c → NamesBut trusted inside (void_where goes c)
  void_stays goes c stays = one_of (NamesBut trusted inside) (goes c) Void c void_names stays

  annex_without : (goes : Capability → Bool) (o : Object) → (IsTrue (is_root o.content) → IsTrue (inside (root_in o.content).annex))
      → IsTrue (is_root (without goes o).content) → IsTrue (inside (root_in (without goes o).content).annex)
  annex_without goes o h is = grind (arith, nat_tests)

  -- `us` is `os` with some objects freed, and capabilities that pass a test voided
  abbrev IsWithout : (Capability → Bool) → List ℕ → List Object → List Object → Type 0
  IsWithout goes gone os us = (n : ℕ) → object_at us n ≡ (if is_member gone n then free else without goes (object_at os n))

  module _ (goes : Capability → Bool) (gone : List ℕ) (os us : List Object) (at : IsWithout goes gone os us) where
    at_us : (P : Object → Type 0) (n : ℕ) → P free → P (without goes (object_at os n)) → P (object_at us n)
    at_us P n freed old = subst P (sym (at n)) (one_of P (is_member gone n) free _ freed old)

    was_bank : (b : ℕ) → IsTrue (is_bank (content_at us b)) → IsTrue (is_bank (content_at os b))
    was_bank b =
        at_us (λ o. IsTrue (is_bank o.content) → IsTrue (is_bank (content_at os b))) b (λ is. cc)
        (λ is. sym (without_mapped goes (object_at os b)).bank ∙ is)

    closed_without : IsReadClosedBut trusted os inside → IsReadClosedBut trusted us inside
    closed_without h = record {
      annexes = λ p in_p.
          at_us (λ o. IsTrue (is_root o.content) → IsTrue (inside (root_in o.content).annex)) p (λ e. cc)
          (annex_without goes (object_at os p) (h.annexes p in_p));
      owned = λ b n in_b is.
          at_us (λ o. is_free o.content ≡ false → o.owner ≡ b → IsTrue (inside n)) n (λ e f. cc)
          (λ e f. h.owned b n in_b (was_bank b is) (sym (without_mapped goes (object_at os n)).free ∙ e) f);
      slots = λ n i in_n.
          at_us (λ o. NamesBut trusted inside (slice_index_or (slots_in o.content) i Void)) n void_names
          (rw ((without_mapped goes (object_at os n)).slot (void_void goes) i)
          (void_stays goes (slice_index_or (slots_in (content_at os n)) i Void) (h.slots n i in_n)));
      spaces = λ p in_p.
          at_us (λ o. NamesBut trusted inside (root_in o.content).space) p void_names
          (rw ((without_mapped goes (object_at os p)).space (void_void goes)) (void_stays goes (root_at os p).space (h.spaces p in_p)));
    }

  link_without : (goes : Capability → Bool) (gone : List ℕ) (os us vs ws : List Object) → Link trusted inside os us →
      IsWithout goes gone os vs → IsWithout goes gone us ws → length vs ≡ length os → length ws ≡ length us → Link trusted inside vs ws
  link_without goes gone os us vs ws h first second size_first size_second = record {
    size = size_second ∙ h.size ∙ sym size_first;
    same = λ n in_n.
        second n ∙ ap (λ (o : Object). if is_member gone n then free else without goes o) (h.same n in_n) ∙ sym (first n);
    left = closed_without goes gone os vs first h.left;
    right = closed_without goes gone us ws second h.right;
  }

  size_consume : (p : ℕ) (os : List Object) → length (consume p os) ≡ length os
  unfolding consume
  size_consume p os = length-map os (without (resumes p))

  pub link_consume : (os us : List Object) (p : ℕ) → Link trusted inside os us → Link trusted inside (consume p os) (consume p us)
  link_consume os us p h = link_without (resumes p) [] os us (consume p os) (consume p us) h (object_consume p os) (object_consume p us)
      (size_consume p os) (size_consume p us)

  size_rescind : (gone : List ℕ) (os : List Object) → length (rescind gone os) ≡ length os
  unfolding rescind
  size_rescind gone os = length-map (enumerate_from 0 os) _ ∙ length-enumerate_from 0 os

  pub link_rescind : (os us : List Object) (gone : List ℕ) → Link trusted inside os us →
      Link trusted inside (rescind gone os) (rescind gone us)
  link_rescind os us gone h = link_without (names_member gone) gone os us (rescind gone os) (rescind gone us) h (at_rescind gone os)
      (at_rescind gone us)
      (size_rescind gone os) (size_rescind gone us)
