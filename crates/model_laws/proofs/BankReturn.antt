-- A bank that is returned to its parent; objects stay sound when banks give objects up.
use Rattle.model_laws.proofs.Names.{nat_tests, inl, inr, ℕ, zero, suc, nat_eq, Bool, true, false, not, List, [], length, refl, sym, ap, subst, arith, IsTrue}
use Rattle.model_laws.proofs.Names.{false≢true, cases_eq, and_right, or_right, eq-eqb, ne_eqb, eqb-true, eqb-false, length-map, Contains-from_any, Capability}
use Rattle.model_laws.proofs.Names.{Void, Geometry, Content, Object, Arguments, free, is_free, is_root, is_annex, is_bank, role_of, root_in, made, object_at}
use Rattle.model_laws.proofs.Names.{content_at, owner_at, slot_at, root_at, annex_at, chain, chain_within, is_under, usage, freed_by, under, transferred}
use Rattle.model_laws.proofs.Names.{inherited, freed, on_bank, is_member, rescind, IsOfKind}
use Rattle.std.proofs.Common.{◌≡◌, ◌≢◌, ◌+◌, ◌-◌, ◌==◌, ◌≤◌, ◌&&◌, ◌||◌, ◌∷◌, ◌∙◌}
use Rattle.std.specs.Prelude.{if◌then◌else◌}
use Rattle.model.specs.declared.order.BankOrder.TheVariants as bank
use Rattle.model_laws.proofs.SoundParts.{IsHeld, IsFilled, IsFramed, Waits, held_to}
use Rattle.model_laws.proofs.Mapped.{at_map}
use Rattle.model_laws.proofs.SoundOrders.{IsNow, IsOutcome, AreArguments, refused_keeps}
use Rattle.model_laws.proofs.Cases.{chosen, one_of}
use Rattle.model_laws.proofs.Counts.{count_alike, count_none}
use Rattle.model_laws.proofs.BankTree.{IsTree, tree_of, member_tail, chain_prime, chain_unfolds, chain_longer, chain_once, chain_itself, chain_nonempty}
use Rattle.model_laws.proofs.BankTree.{chain_length, chain_owner_length, owner_bank}
use Rattle.model_laws.proofs.NumberLists.{no_member, only_member}
use Rattle.model_laws.proofs.BankRescind.{held_as_before, rescinded_now, used_owner, used_where}
use Rattle.model_laws.proofs.BankFreed.{IsGivenUp, differ_where, freed_set, tree_induction, under_given_up, under_owner}
use Rattle.model_laws.proofs.BankFreed.{usage_given_up}

-- the owner, after the transfer, of an object that n owned: the parent if n is the returned bank
abbrev pub heir : ℕ → ℕ → ℕ → ℕ
heir b parent n = if n == b then parent else n

heir_of : (b parent n : ℕ) → n ≡ b → heir b parent n ≡ parent
heir_of b parent n e = rw (eq-eqb n b e) refl

heir_other : (b parent n : ℕ) → n ≢ b → heir b parent n ≡ n
heir_other b parent n e = rw (ne_eqb n b e) refl

pub transferred_content : (b parent : ℕ) (o : Object) → (transferred b parent o).content ≡ o.content
transferred_content b parent o = one_of (λ x. x.content ≡ o.content) (not (is_free o.content) && (o.owner == b)) _ o refl refl

transferred_owner : (b parent : ℕ) (o : Object) → b ≢ 0 → (is_free o.content ≡ true → o.owner ≡ 0) →
    (transferred b parent o).owner ≡ heir b parent o.owner
transferred_owner b parent o on unowned = grind (arith, nat_tests)

-- the objects after a bank's are transferred
module _ (os : List Object) (t : IsTree os) (b : ℕ) (is : IsTrue (is_bank (content_at os b))) (on : b ≢ 0) where
  pub inherited_object : (n : ℕ) → object_at (inherited os b) n ≡ transferred b (owner_at os b) (object_at os n)
  unfolding inherited
  inherited_object n = at_map (transferred b (owner_at os b)) os n free refl

  pub inherited_content : (n : ℕ) → content_at (inherited os b) n ≡ content_at os n
  inherited_content n = ap (λ (o : Object). o.content) (inherited_object n) ∙ transferred_content b (owner_at os b) (object_at os n)

  pub inherited_owner : (n : ℕ) → owner_at (inherited os b) n ≡ heir b (owner_at os b) (owner_at os n)
  inherited_owner n = ap (λ (o : Object). o.owner) (inherited_object n) ∙ transferred_owner b (owner_at os b) (object_at os n) on
      (t.unowned n)

  pub length_inherited : length (inherited os b) ≡ length os
  unfolding inherited
  length_inherited = length-map os (transferred b (owner_at os b))

  -- a bank doesn't own itself
  parent_other : owner_at os b ≢ b
  parent_other e =
      false≢true (sym (chain_once os t b is on) ∙ (ap (λ (k : ℕ). is_member (chain os k) b) e ∙ chain_itself os t b is))

  heir_differs : (n : ℕ) → heir b (owner_at os b) n ≢ b
  heir_differs n e = grind (arith, nat_tests, parent_other, heir_of, heir_other)

  -- after the transfer no other bank's chain contains the bank
  no_heir_within : (k n : ℕ) → is_member (chain_within k (inherited os b) (heir b (owner_at os b) n)) b ≡ false
  no_heir_within zero n = refl
  no_heir_within (suc k) n = elim (cases_eq (heir b (owner_at os b) n) 0) [
    | inl end ↦ rw (end, ne_eqb b 0 on) refl
    | inr far ↦
        rw (ne_eqb (heir b (owner_at os b) n) 0 far, inherited_owner (heir b (owner_at os b) n))
        (member_tail b (heir b (owner_at os b) n) _ (λ e. heir_differs n (sym e))
        ∙ no_heir_within k (owner_at os (heir b (owner_at os b) n)))
  ]

  -- after the transfer each chain contains the same banks as before, apart from this bank
  heir_within : (x : ℕ) → x ≢ b → (c : ℕ) → IsTrue (is_bank (content_at os c)) → (k : ℕ) → length (chain os c) ≤ k
      → is_member (chain_within k (inherited os b) (heir b (owner_at os b) c)) x ≡ is_member (chain os c) x
  heir_within x differ =
      tree_induction os t
      (λ c. (k : ℕ) → length (chain os c) ≤ k → is_member (chain_within k (inherited os b) (heir b (owner_at os b) c)) x
      ≡ is_member (chain os c) x)
      base step
    where
      base : (k : ℕ) → length (chain os 0) ≤ k → is_member (chain_within k (inherited os b) (heir b (owner_at os b) 0)) x
          ≡ is_member (chain os 0) x
      base zero short = absurd (omega (arith, short, chain_nonempty os t 0 t.prime.0))
      base (suc k) short = rw (heir_other b (owner_at os b) 0 (λ e. on (sym e)), chain_prime os) refl

      step : (c : ℕ) → IsTrue (is_bank (content_at os c)) → c ≢ 0
          → ((k : ℕ) → length (chain os (owner_at os c)) ≤ k → is_member (chain_within k (inherited os b)
          (heir b (owner_at os b) (owner_at os c))) x ≡
          is_member (chain os (owner_at os c)) x)
          → (k : ℕ) → length (chain os c) ≤ k → is_member (chain_within k (inherited os b) (heir b (owner_at os b) c)) x
          ≡ is_member (chain os c) x
      step c bank far above zero short = absurd (omega (arith, short, chain_nonempty os t c bank))
      step c bank far above (suc k) short = elim (cases_eq c b) [
        | inl same ↦
            ap (λ (n : ℕ). is_member (chain_within (suc k) (inherited os b) n) x)
            (heir_of b (owner_at os b) c same ∙ (ap (λ (n : ℕ). owner_at os n) (sym same)
            ∙ sym (heir_other b (owner_at os b) (owner_at os c) (λ e. parent_other (ap (λ (n : ℕ). owner_at os n) (sym same) ∙ e)))))
            ∙ (above (suc k) (omega (arith, short, chain_longer os t c bank far))
            ∙ sym (ap (λ xs. is_member xs x) (chain_unfolds os t c bank far)
            ∙ member_tail x c (chain os (owner_at os c)) (λ e. differ (e ∙ same))))
        | inr other ↦
            rw (heir_other b (owner_at os b) c other, ne_eqb c 0 far, inherited_owner c, chain_unfolds os t c bank far)
            (ap (λ (rest : Bool). nat_eq x c || rest) (above k (omega (arith, short, chain_longer os t c bank far))))
      ]

  chain_heir : (x c : ℕ) → x ≢ b → IsTrue (is_bank (content_at os c)) → is_member (chain (inherited os b) (heir b (owner_at os b) c)) x
      ≡ is_member (chain os c) x
  unfolding chain
  chain_heir x c differ bank = heir_within x differ c bank 16 (chain_length os c)

  no_heir : (n : ℕ) → is_member (chain (inherited os b) (heir b (owner_at os b) n)) b ≡ false
  unfolding chain
  no_heir n = no_heir_within 16 n

  has_prime : (c : ℕ) → IsTrue (is_bank (content_at os c)) → is_member (chain os c) 0 ≡ true
  has_prime =
      tree_induction os t (λ c. is_member (chain os c) 0 ≡ true) (rw (chain_prime os) refl)
      (λ c bank far above. rw (chain_unfolds os t c bank far) (or_right (nat_eq 0 c) (is_member (chain os (owner_at os c)) 0) above))

  -- the bank's own chain still ends in the prime bank
  own_chain : is_member (chain (inherited os b) b) 0 ≡ true
  unfolding chain
  own_chain =
      rw (ne_eqb b 0 on, inherited_owner b)
      (or_right (nat_eq 0 b) _
      (heir_within 0 (λ e. on (sym e)) (owner_at os b) (owner_bank os t b is) 15 (omega (arith, chain_owner_length os t b is on)) ∙
      has_prime (owner_at os b) (owner_bank os t b is)))

  inherited_chain : (c : ℕ) → IsTrue (is_bank (content_at os c)) → is_member (chain (inherited os b) c) 0 ≡ true
  inherited_chain c bank = elim (cases_eq c b) [
    | inl same ↦ subst (λ n. is_member (chain (inherited os b) n) 0 ≡ true) (sym same) own_chain
    | inr other ↦
        subst (λ n. is_member (chain (inherited os b) n) 0 ≡ true) (heir_other b (owner_at os b) c other)
        (chain_heir 0 c (λ e. on (sym e)) bank ∙ has_prime c bank)
  ]

  -- after the transfer an object is under another bank exactly if it was before
  under_heir : (x n : ℕ) → x ≢ b → is_under (inherited os b) x (object_at (inherited os b) n) ≡ is_under os x (object_at os n)
  under_heir x n differ = grind (arith, nat_tests, inherited_content, inherited_owner, chain_heir, used_owner)

  no_under : (n : ℕ) → is_under (inherited os b) b (object_at (inherited os b) n) ≡ false
  no_under n = rw (inherited_owner n) (and_right (not (is_free (content_at (inherited os b) n))) _ (no_heir (owner_at os n)))

  pub usage_inherited : (x : ℕ) → x ≢ b → usage (inherited os b) x ≡ usage os x
  unfolding usage
  usage_inherited x differ =
      count_alike (λ p. not (p.0 == x) && is_under (inherited os b) x p.1) (λ p. not (p.0 == x) && is_under os x p.1) os (inherited os b)
      free length_inherited
      (λ i. ap (λ (u : Bool). not (i == x) && u) (under_heir x i differ))

  usage_none : usage (inherited os b) b ≡ 0
  unfolding usage
  usage_none =
      count_none (λ p. not (p.0 == b) && is_under (inherited os b) b p.1) (inherited os b) free
      (λ i. and_right (not (i == b)) _ (no_under i))

-- objects satisfy `IsFramed` after a transfer of a bank's objects if they did before
pub framed_inherited : (g : Geometry) (os : List Object) (b : ℕ) → IsFramed g os → IsTrue (is_bank (content_at os b)) → b ≢ 0 →
    IsFramed g (inherited os b)
framed_inherited g os b h is on =
    let t = tree_of g os h in
    let same = inherited_content os t b is on in
    let owner = inherited_owner os t b is on in
    let annex = λ (p : ℕ). ap (λ (c : Content Capability). (root_in c).annex) (same p) in
    record {
      size = length_inherited os t b is on ∙ h.size;
      kinds = λ n. subst (λ c. IsOfKind g n c) (sym (same n)) (h.kinds n);
      annexes = λ p process.
          let known = h.annexes p (ap is_root (sym (same p)) ∙ process) in
          rw (annex p) (
            ap is_annex (same (annex_at os p)) ∙ known.0,
            owner (annex_at os p) ∙ (ap (λ (k : ℕ). heir b (owner_at os b) k) known.1 ∙ sym (owner p)),
          );
      one_root = grind (arith, nat_tests);
      some_root = grind (arith, nat_tests);
      unowned = grind (arith, nat_tests, heir_other);
      owners = grind (arith, nat_tests);
      prime = grind (arith, nat_tests, heir_other);
      chains = λ c bank.
          Contains-from_any (λ x y e. eqb-true x y e) 0 (chain (inherited os b) c)
          (inherited_chain os t b is on c (ap is_bank (sym (same c)) ∙ bank));
      limits = λ c bank. grind (arith, nat_tests, usage_none, usage_inherited);
    }

-- sound objects stay sound if a bank's objects are transferred
pub inherited_now : (g : Geometry) (os : List Object) (b : ℕ) → IsNow g os → IsTrue (is_bank (content_at os b)) → b ≢ 0 →
    IsNow g (inherited os b)
inherited_now g os b h is on =
    let same = inherited_content os (tree_of g os h.frame) b is on in
    let held = λ (c : Capability) (may : IsHeld os (Waits os) c).
    held_as_before os (inherited os b) c (λ n e. record {
      role = ap role_of (same n);
      state = ap (λ (c : Content Capability). (root_in c).state) (same n);
    }) may
    in
    record {
      frame = framed_inherited g os b h.frame is on;
      filled = λ n.
          subst (λ c. IsFilled (inherited os b) (Waits (inherited os b)) c) (sym (same n)) (record {
            shape = (h.filled n).shape;
            words = (h.filled n).words;
            slots = λ i. held (slot_at os n i) ((h.filled n).slots i);
            register_0 = (h.filled n).register_0;
            space = held (root_at os n).space (h.filled n).space;
            is_space = (h.filled n).is_space;
          });
    }

-- after the transfer the bank can be rescinded alone
alone_given_up : (g : Geometry) (os : List Object) (b : ℕ) → IsFramed g os → IsTrue (is_bank (content_at os b)) → b ≢ 0 →
    IsGivenUp (inherited os b) (b ∷ [])
alone_given_up g os b h is on =
    grind (
      arith,
      nat_tests,
      tree_of,
      framed_inherited,
      inherited_content,
      no_member,
      differ_where,
      heir_differs,
      inherited_owner,
      only_member,
      used_where,
    )

-- sound objects stay sound if a bank is returned
pub returned_now : (g : Geometry) (os : List Object) (b : ℕ) → IsNow g os → IsTrue (is_bank (content_at os b)) → b ≢ 0 →
    IsNow g (rescind (b ∷ []) (inherited os b))
returned_now g os b h is on = rescinded_now g (inherited os b) (b ∷ []) (inherited_now g os b h is on)
    (alone_given_up g os b h.frame is on).closed

usage_returned_both : (g : Geometry) (os : List Object) (b : ℕ) → IsNow g os → IsTrue (is_bank (content_at os b)) → b ≢ 0
    → (x : ℕ) → x ≢ b
    → usage (rescind (b ∷ []) (inherited os b)) x + (if is_member (chain os (owner_at os b)) x then 1 else 0) ≡ usage os x
usage_returned_both g os b h is on x differ =
    let t = tree_of g os h.frame in
    let alone = alone_given_up g os b h.frame is on in
    usage_given_up (inherited os b) (b ∷ []) (tree_of g (inherited os b) (framed_inherited g os b h.frame is on)) alone x
    (no_member b [] x differ refl) (is_member (chain os (owner_at os b)) x)
    (λ n e.
    under_owner (inherited os b) x n (alone.used n e)
    ∙ (ap (λ (k : ℕ). is_member (chain (inherited os b) (owner_at (inherited os b) k)) x) (only_member b n e)
    ∙ (ap (λ (k : ℕ). is_member (chain (inherited os b) k) x) (inherited_owner os t b is on b) ∙
    chain_heir os t b is on x (owner_at os b) differ (owner_bank os t b is))))
    ∙ usage_inherited os t b is on x differ

-- if a bank is returned to its parent, the usage of each bank above it falls by one; other usages stay
pub usage_returned : (g : Geometry) (os : List Object) (b : ℕ) → IsNow g os → IsTrue (is_bank (content_at os b)) → b ≢ 0
    → (x : ℕ) → x ≢ b
    → usage (rescind (b ∷ []) (inherited os b)) x ≡ usage os x - (if is_member (chain os (owner_at os b)) x then 1 else 0)
usage_returned g os b h is on x differ = omega (arith, usage_returned_both g os b h is on x differ)

-- a bank's usage is at least what it loses by the return
pub returned_fits : (g : Geometry) (os : List Object) (b : ℕ) → IsNow g os → IsTrue (is_bank (content_at os b)) → b ≢ 0
    → (x : ℕ) → x ≢ b → (if is_member (chain os (owner_at os b)) x then 1 else 0) ≤ usage os x
returned_fits g os b h is on x differ = omega (arith, usage_returned_both g os b h is on x differ)

-- ---- outcomes

-- an outcome with sound objects that gives no capability is valid
void_keeps : (g : Geometry) (os : List Object) (written : List ℕ) → IsNow g os → IsOutcome g (made os written Void)
void_keeps g os written h = grind (arith, nat_tests)

module _ (g : Geometry) (os : List Object) (b : ℕ) (args : Arguments) (h : IsNow g os) (is : IsTrue (is_bank (content_at os b)))
    (fits : AreArguments os args)
  where
    -- freeing an object keeps sound objects sound
    pub freed_keeps : IsOutcome g (on_bank g os b bank.Free args)
    unfolding on_bank
    freed_keeps = go (freed_by os args.capability) refl
      where
        go : (ns : List ℕ) → freed_by os args.capability ≡ ns → IsOutcome g (freed os b ns)
        go [] e = refused_keeps g os _ h
        go (n ∷ ns) e =
            chosen (IsOutcome g) (owner_at os n == b) _ _
            (λ own. void_keeps g _ _
            (rescinded_now g os (n ∷ ns) h (freed_set g os h.frame args.capability n ns (held_to os args.capability fits.held).1
            e).given_up.closed))
            (λ other. refused_keeps g os _ h)

    -- destroying a bank with all objects under it keeps objects sound
    pub destroyed_keeps : IsOutcome g (on_bank g os b bank.Destroy args)
    unfolding on_bank
    destroyed_keeps =
        chosen (IsOutcome g) (b == 0) _ _ (λ prime. refused_keeps g os _ h)
        (λ on. void_keeps g _ _ (rescinded_now g os (under os b) h (under_given_up g os h.frame b is (eqb-false b 0 on)).closed))

    -- returning a bank to its parent keeps objects sound
    pub returned_keeps : IsOutcome g (on_bank g os b bank.ReturnToParent args)
    unfolding on_bank
    returned_keeps =
        chosen (IsOutcome g) (b == 0) _ _ (λ prime. refused_keeps g os _ h)
        (λ on. void_keeps g _ _ (returned_now g os b h is (eqb-false b 0 on)))
