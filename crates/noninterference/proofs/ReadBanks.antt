-- Linked lists of objects agree on a set that is closed for reading in both. An order on a member bank, unless it depends on free numbers,
-- has the same outcome in both.
use Rattle.noninterference.proofs.Names.{nat_tests, inl, inr, ℕ, nat_eq, true, false, not, List, [], length, refl, sym, ap, subst, arith, IsTrue, Bool}
use Rattle.noninterference.proofs.Names.{range_with_len, false≢true, and_parts, or_cases, or_right, eqb-true, eqb-false, Capability, Void, Object}
use Rattle.noninterference.proofs.Names.{Arguments, BankOrder, ResultCode, chain, is_under, freed, freed_by, inherited, on_bank, under, owned_by, is_bank}
use Rattle.noninterference.proofs.Names.{is_free, is_root, root_in, slots_in, OrderOutcome, refused, is_member, rescind, content_at, object_at, owner_at}
use Rattle.noninterference.proofs.Names.{transferred, tree_induction, inherited_content, inherited_object, IsTree, chain_unfolds, chain_zero}
use Rattle.noninterference.proofs.Names.{member_cases, only_member, IsReadClosedBut, NamesBut, Geometry, Page, Node, Process, depends_on_supply}
use Rattle.noninterference.proofs.Names.{slice_index_or, filter, not-true, given, made, replying, wrote, chain_itself, length_inherited}
use Rattle.std.proofs.Common.{◌≡◌, ◌≢◌, ◌⊎◌, ◌==◌, ◌∷◌, ◌∙◌, ◌&&◌, ◌||◌, if◌then◌else◌}
use Rattle.model.specs.declared.order.BankOrder.TheVariants as bank
use Rattle.model.specs.declared.order.ResultCode.TheVariants as code
use Rattle.noninterference.proofs.ReadEdits.{Link, link_rescind, void_names}

-- two outcomes have the same reply and written numbers, and their objects are linked
pub record OutcomesLink (trusted inside : ℕ → Bool) (o p : OrderOutcome) : Type 0 where
  pub code : p.code ≡ o.code
  pub words : p.words ≡ o.words
  pub capability : p.capability ≡ o.capability
  pub written : p.written ≡ o.written
  pub stays : NamesBut trusted inside o.capability
  pub objects : Link trusted inside o.objects p.objects

-- if two tests agree, a property of both pairs of branches holds of the chosen ones
pub both_chosen : {X : Type 0} (P : X → X → Type 0) (a b : Bool) (w x y z : X) → b ≡ a → (a ≡ true → P w y) → (a ≡ false → P x z)
    → P (if a then w else x) (if b then y else z)
both_chosen {X} P a b w x y z same p q = subst (λ c. P (if a then w else x) (if c then y else z)) (sym same) (go a p q)
  where
    go : (c : Bool) → (c ≡ true → P w y) → (c ≡ false → P x z) → P (if c then w else x) (if c then y else z)
    go true p q = p refl
    go false p q = q refl

-- two tests that imply each other are equal
same_tests : (a b : Bool) → (a ≡ true → b ≡ true) → (b ≡ true → a ≡ true) → b ≡ a
same_tests true b to from = to refl
same_tests false true to from = sym (from refl)
same_tests false false to from = refl

pub link_sym : (trusted inside : ℕ → Bool) (os us : List Object) → Link trusted inside os us → Link trusted inside us os
link_sym trusted inside os us h = record { size = sym h.size; same = λ n in_n. sym (h.same n in_n); left = h.right; right = h.left }

-- outcomes over linked objects; the parameters: two linked lists
module _ (trusted inside : ℕ → Bool) (os us : List Object) (h : Link trusted inside os us) where
  pub refused_link : (why : ResultCode) → OutcomesLink trusted inside (refused os why) (refused us why)
  refused_link why =
      record { code = refl; words = refl; capability = refl; written = refl; stays = void_names trusted inside; objects = h }

  pub given_link : (c d : Capability) → d ≡ c → NamesBut trusted inside c → OutcomesLink trusted inside (given os c) (given us d)
  given_link c d same stays = record { code = refl; words = refl; capability = same; written = refl; stays = stays; objects = h }

  pub replying_link : (a b c d : ℕ) → c ≡ a → d ≡ b → OutcomesLink trusted inside (replying os a b) (replying us c d)
  replying_link a b c d first second = record {
    code = refl;
    words = ap (λ x. x ∷ d ∷ 0 ∷ []) first ∙ ap (λ x. a ∷ x ∷ 0 ∷ []) second;
    capability = refl;
    written = refl;
    stays = void_names trusted inside;
    objects = h;
  }

  pub wrote_link : (n m : ℕ) → m ≡ n → OutcomesLink trusted inside (wrote os n) (wrote us m)
  wrote_link n m same = record {
    code = refl;
    words = refl;
    capability = refl;
    written = ap (λ x. x ∷ []) same;
    stays = void_names trusted inside;
    objects = h;
  }

  -- an outcome that only frees objects is linked to one that frees the same
  pub gone_link : (ns ms : List ℕ) → ms ≡ ns → OutcomesLink trusted inside (made os ns Void) (made us ms Void)
  gone_link ns ms same =
      record { code = refl; words = refl; capability = refl; written = same; stays = void_names trusted inside; objects = h }

-- ---- the objects that a member bank owns, and those below it

module _ (trusted inside : ℕ → Bool) (os : List Object) (t : IsTree os) (k : IsReadClosedBut trusted os inside) where
  owner_inside : (n : ℕ) → is_free (content_at os n) ≡ false → IsTrue (inside (owner_at os n)) → IsTrue (inside n)
  owner_inside n used is = k.owned (owner_at os n) n is (t.owners n (λ gone. false≢true (sym used ∙ gone))) used refl

  bank_used : (c : ℕ) → IsTrue (is_bank (content_at os c)) → is_free (content_at os c) ≡ false
  bank_used c bank = grind (arith, nat_tests)

  -- if the chain of a bank contains a member, the bank is a member
  above_inside : (b : ℕ) → IsTrue (inside b) → (c : ℕ) → IsTrue (is_bank (content_at os c)) → is_member (chain os c) b ≡ true →
      IsTrue (inside c)
  above_inside b is =
      tree_induction os t (λ c. is_member (chain os c) b ≡ true → IsTrue (inside c))
      (λ e. ap inside (sym (only_member 0 b (ap (λ xs. is_member xs b) (sym (chain_zero os 0 refl)) ∙ e))) ∙ is)
      (λ c bank far above e.
      elim (member_cases c (chain os (owner_at os c)) b (ap (λ xs. is_member xs b) (sym (chain_unfolds os t c bank far)) ∙ e)) [
        | inl same ↦ ap inside (sym same) ∙ is
        | inr later ↦ owner_inside c (bank_used c bank) (above later)
      ])

  below_parts : (b n : ℕ) → is_under os b (object_at os n) ≡ true → (is_free (content_at os n) ≡ false)
      × (is_member (chain os (owner_at os n)) b ≡ true)
  below_parts b n below = grind (arith, nat_tests, and_parts)

  owner_bank : (n : ℕ) → is_free (content_at os n) ≡ false → IsTrue (is_bank (content_at os (owner_at os n)))
  owner_bank n used = t.owners n (λ gone. false≢true (sym used ∙ gone))

  under_inside : (b n : ℕ) → IsTrue (inside b) → ((n == b) || is_under os b (object_at os n)) ≡ true → IsTrue (inside n)
  under_inside b n is e = elim (or_cases (n == b) (is_under os b (object_at os n)) e) [
    | inl same ↦ ap inside (eqb-true n b same) ∙ is
    | inr below ↦
        let parts = below_parts b n below in
        owner_inside n parts.0 (above_inside b is (owner_at os n) (owner_bank n parts.0) parts.1)
  ]

module _ (trusted inside : ℕ → Bool) (os us : List Object) (t : IsTree os) (v : IsTree us) (h : Link trusted inside os us) (b : ℕ)
    (is : IsTrue (inside b)) (kind : IsTrue (is_bank (content_at os b))) where
  kind_there : IsTrue (is_bank (content_at us b))
  kind_there = ap (λ (o : Object). is_bank o.content) (h.same b is) ∙ kind

  -- if a bank's chain passes through b in the first list, it does so in the second
  chain_carried : (c : ℕ) → IsTrue (is_bank (content_at os c)) → is_member (chain os c) b ≡ true → is_member (chain us c) b ≡ true
  chain_carried =
      tree_induction os t (λ c. is_member (chain os c) b ≡ true → is_member (chain us c) b ≡ true)
      (λ e. ap (λ xs. is_member xs b) (chain_zero us 0 refl) ∙ (ap (λ xs. is_member xs b) (sym (chain_zero os 0 refl)) ∙ e)) step
    where
      step : (c : ℕ) → IsTrue (is_bank (content_at os c)) → c ≢ 0
          → (is_member (chain os (owner_at os c)) b ≡ true → is_member (chain us (owner_at os c)) b ≡ true)
          → is_member (chain os c) b ≡ true → is_member (chain us c) b ≡ true
      step c bank far above e =
          let here = h.same c (above_inside trusted inside os t h.left b is c bank e) in
          let bank_there : IsTrue (is_bank (content_at us c)) = ap (λ (o : Object). is_bank o.content) here ∙ bank in
          elim (member_cases c (chain os (owner_at os c)) b (ap (λ xs. is_member xs b) (sym (chain_unfolds os t c bank far)) ∙ e)) [
            | inl same ↦ subst (λ k. is_member (chain us k) b ≡ true) same (chain_itself us v b kind_there)
            | inr later ↦
                let above_there : is_member (chain us (owner_at us c)) b ≡ true = ap (λ (o : Object). is_member (chain us o.owner) b) here
                ∙ above later in
                ap (λ xs. is_member xs b) (chain_unfolds us v c bank_there far)
                ∙ or_right (nat_eq b c) (is_member (chain us (owner_at us c)) b) above_there
          ]

  under_carried : (n : ℕ) → ((n == b) || is_under os b (object_at os n)) ≡ true → ((n == b) || is_under us b (object_at us n)) ≡ true
  under_carried n e =
      let here = h.same n (under_inside trusted inside os t h.left b n is e) in
      subst (λ (o : Object). ((n == b) || is_under us b o) ≡ true) (sym here)
      (elim (or_cases (n == b) (is_under os b (object_at os n)) e) [
        | inl same ↦ rw same refl
        | inr below ↦
            let parts = below_parts trusted inside os t h.left b n below in
            let carried = chain_carried (owner_at os n) (owner_bank trusted inside os t h.left n parts.0) parts.1 in
            or_right (n == b) (is_under us b (object_at os n)) (rw (parts.0, carried) refl)
      ])

  owned_carried : (n : ℕ) → (not (is_free (content_at os n)) && (owner_at os n == b)) ≡ true
      → (not (is_free (content_at us n)) && (owner_at us n == b)) ≡ true
  owned_carried n e =
      subst (λ (o : Object). (not (is_free o.content) && (o.owner == b)) ≡ true) (sym (h.same n in_n)) e
    where
      in_n : IsTrue (inside n)
      in_n =
          let parts = and_parts (not (is_free (content_at os n))) (owner_at os n == b) e in
          h.left.owned b n is kind (not-true (is_free (content_at os n)) parts.0) (eqb-true (owner_at os n) b parts.1)

-- the parameters: two linked lists, and a member bank b, which owns the same objects in both
module _ (trusted inside : ℕ → Bool) (os us : List Object) (t : IsTree os) (v : IsTree us) (h : Link trusted inside os us) (b : ℕ)
    (is : IsTrue (inside b)) (kind : IsTrue (is_bank (content_at os b))) where
  back : Link trusted inside us os
  back = link_sym trusted inside os us h

  kind_back : IsTrue (is_bank (content_at us b))
  kind_back = kind_there trusted inside os us t v h b is kind

  filters_same : (f k : ℕ → Bool) → ((n : ℕ) → f n ≡ k n) → filter f (range_with_len 0 (length us))
      ≡ filter k (range_with_len 0 (length os))
  filters_same f k same = (λ j. filter (λ n. same n j) (range_with_len 0 (length us))) ∙ ap (λ l. filter k (range_with_len 0 l)) h.size

  under_same : under us b ≡ under os b
  unfolding under
  under_same = filters_same (λ n. (n == b) || is_under us b (object_at us n)) (λ n. (n == b) || is_under os b (object_at os n)) (λ n.
      same_tests ((n == b) || is_under os b (object_at os n)) ((n == b) || is_under us b (object_at us n))
      (under_carried trusted inside os us t v h b is kind n) (under_carried trusted inside us os v t back b is kind_back n))

  owned_same : owned_by us b ≡ owned_by os b
  unfolding owned_by
  owned_same = filters_same (λ n. not (is_free (content_at us n)) && (owner_at us n == b))
      (λ n. not (is_free (content_at os n)) && (owner_at os n == b)) (λ n.
      same_tests (not (is_free (content_at os n)) && (owner_at os n == b)) (not (is_free (content_at us n)) && (owner_at us n == b))
      (owned_carried trusted inside os us t v h b is kind n) (owned_carried trusted inside us os v t back b is kind_back n))

-- transferring a bank's objects to its owner; b is a member bank other than bank 0
module _ (trusted inside : ℕ → Bool) (os : List Object) (t : IsTree os) (k : IsReadClosedBut trusted os inside) (b : ℕ)
    (is : IsTrue (inside b))
    (kind : IsTrue (is_bank (content_at os b))) (on : b ≢ 0) where
  content_kept : (n : ℕ) → content_at (inherited os b) n ≡ content_at os n
  content_kept n = inherited_content os t b kind on n

  heir_cases : (parent : ℕ) (o : Object) (c : ℕ) → (transferred b parent o).owner ≡ c → is_free o.content ≡ false →
      (o.owner ≡ b) ⊎ (o.owner ≡ c)
  heir_cases parent o c own used = grind (arith, nat_tests)

  closed_inherited : IsReadClosedBut trusted (inherited os b) inside
  closed_inherited = record {
    annexes = λ p in_p root.
        subst (λ c. IsTrue (inside (root_in c).annex)) (sym (content_kept p))
        (k.annexes p in_p (ap (λ c. is_root c) (sym (content_kept p)) ∙ root));
    owned = λ c n in_c bank used own.
        let used_before = ap (λ c. is_free c) (sym (content_kept n)) ∙ used in
        elim (heir_cases (owner_at os b) (object_at os n) c (ap (λ (o : Object). o.owner) (sym (inherited_object os t b kind on n)) ∙ own)
        used_before) [
          | inl by_bank ↦ k.owned b n is kind used_before by_bank
          | inr by_other ↦ k.owned c n in_c (ap (λ c. is_bank c) (sym (content_kept c)) ∙ bank) used_before by_other
        ];
    slots = λ n i in_n.
        subst (λ c. NamesBut trusted inside (slice_index_or (slots_in c) i Void)) (sym (content_kept n)) (k.slots n i in_n);
    spaces = λ p in_p. subst (λ c. NamesBut trusted inside (root_in c).space) (sym (content_kept p)) (k.spaces p in_p);
  }

module _ (trusted inside : ℕ → Bool) (os us : List Object) (t : IsTree os) (v : IsTree us) (h : Link trusted inside os us) (b : ℕ)
    (is : IsTrue (inside b)) (kind : IsTrue (is_bank (content_at os b))) where
  module _ (on : b ≢ 0) where
    link_inherited : Link trusted inside (inherited os b) (inherited us b)
    link_inherited =
        let there = kind_there trusted inside os us t v h b is kind in
        let parent : owner_at us b ≡ owner_at os b = ap (λ (o : Object). o.owner) (h.same b is) in
        record {
          size = length_inherited us v b there on ∙ h.size ∙ sym (length_inherited os t b kind on);
          same = λ n in_n.
              inherited_object us v b there on n ∙ ap (λ p. transferred b p (object_at us n)) parent
              ∙ ap (λ o. transferred b (owner_at os b) o) (h.same n in_n) ∙ sym (inherited_object os t b kind on n);
          left = closed_inherited trusted inside os t h.left b is kind on;
          right = closed_inherited trusted inside us v h.right b is there on;
        }

  destroyed_link : (g : Geometry) (args : Arguments) → OutcomesLink trusted inside (on_bank g os b bank.Destroy args)
      (on_bank g us b bank.Destroy args)
  unfolding on_bank
  destroyed_link g args = both_chosen (OutcomesLink trusted inside) (b == 0) (b == 0) _ _ _ _ refl
      (λ e. refused_link trusted inside os us h code.PrimeBank) (λ e.
      subst (λ gone. OutcomesLink trusted inside (made (rescind (under os b) os) (under os b) Void) (made (rescind gone us) gone Void))
      (sym (under_same trusted inside os us t v h b is kind))
      (gone_link trusted inside (rescind (under os b) os) (rescind (under os b) us) (link_rescind trusted inside os us (under os b) h)
      (under os b) (under os b) refl))

  returned_link : (g : Geometry) (args : Arguments)
      → OutcomesLink trusted inside (on_bank g os b bank.ReturnToParent args) (on_bank g us b bank.ReturnToParent args)
  unfolding on_bank
  returned_link g args = both_chosen (OutcomesLink trusted inside) (b == 0) (b == 0) _ _ _ _ refl
      (λ e. refused_link trusted inside os us h code.PrimeBank) (λ e.
      gone_link trusted inside (rescind (b ∷ []) (inherited os b)) (rescind (b ∷ []) (inherited us b))
      (link_rescind trusted inside (inherited os b) (inherited us b) (b ∷ []) (link_inherited (eqb-false b 0 e)))
      (b ∷ owned_by os b) (b ∷ owned_by us b) (ap (λ ns. b ∷ ns) (owned_same trusted inside os us t v h b is kind)))

  freed_link : (ns : List ℕ) → ((n : ℕ) (ms : List ℕ) → ns ≡ n ∷ ms → IsTrue (inside n))
      → OutcomesLink trusted inside (freed os b ns) (freed us b ns)
  freed_link [] members = refused_link trusted inside os us h code.BadCapability
  freed_link (n ∷ ns) members = both_chosen (OutcomesLink trusted inside) (owner_at os n == b) (owner_at us n == b) _ _ _ _
      (ap (λ (o : Object). o.owner == b) (h.same n (members n ns refl)))
      (λ e. gone_link trusted inside (rescind (n ∷ ns) os) (rescind (n ∷ ns) us) (link_rescind trusted inside os us (n ∷ ns) h) (n ∷ ns)
      (n ∷ ns) refl)
      (λ e. refused_link trusted inside os us h code.NotFromThisBank)

  -- a capability that a member holds frees the same objects in both lists
  freed_same : (c : Capability) → NamesBut trusted inside c → freed_by us c ≡ freed_by os c
  freed_same (Process p) stays = ap (λ (o : Object). p ∷ (root_in o.content).annex ∷ []) (h.same p (grind (arith, nat_tests)))
  freed_same (Page o a) stays = refl
  freed_same (Node o a) stays = refl
  freed_same c stays = refl

  freed_first : (c : Capability) → NamesBut trusted inside c → (n : ℕ) (ms : List ℕ) → freed_by os c ≡ n ∷ ms → IsTrue (inside n)
  freed_first c stays n ms e = grind (arith, nat_tests)

  -- unless it depends on free numbers, an order on a member bank has linked outcomes
  pub bank_link : (g : Geometry) (requested : BankOrder) (args : Arguments) → depends_on_supply requested ≡ false
      → NamesBut trusted inside args.capability → OutcomesLink trusted inside (on_bank g os b requested args)
      (on_bank g us b requested args)
  unfolding on_bank
  bank_link g bank.Free args looks stays =
      subst (λ ns. OutcomesLink trusted inside (freed os b (freed_by os args.capability)) (freed us b ns))
      (sym (freed_same args.capability stays))
      (freed_link (freed_by os args.capability) (freed_first args.capability stays))
  bank_link g bank.Destroy args looks stays = destroyed_link g args
  bank_link g bank.ReturnToParent args looks stays = returned_link g args
  bank_link g which args looks stays = cc
