-- An order on a bank of a closed set stays within the set. A capability stays inside a set if it
-- names a member, is weak, names no object, or starts a trusted process.
use Rattle.confinement.proofs.Names.{nat_tests, inl, inr, ℕ, nat_eq, true, false, List, [], length, refl, sym, ap, subst, arith, IsTrue, slice_index_or}
use Rattle.confinement.proofs.Names.{range_with_len, false≢true, cases_eq, or_cases, or_right, eqb-true, eqb-false, Capability, Void, Bank, Geometry, Content}
use Rattle.confinement.proofs.Names.{Object, Arguments, BankOrder, ResultCode, chain, is_under, allocated, are_free, bank_allocated, free_nodes, free_pages}
use Rattle.confinement.proofs.Names.{freed, freed_by, has_quota, inherited, new_annex, new_node, new_page, new_root, on_bank, process_allocated, under}
use Rattle.confinement.proofs.Names.{with_new, is_bank, is_free, is_root, root_in, slots_in, OrderOutcome, refused, is_member, rescind, NamesItsKind}
use Rattle.confinement.proofs.Names.{content_at, object_at, owner_at, IsKept, chosen, tree_induction, under_found, used_where, inherited_content}
use Rattle.confinement.proofs.Names.{inherited_object, IsTree, at_new, at_other, chain_unfolds, chain_zero, length_new, member_head, tree_of, AllDiffer}
use Rattle.confinement.proofs.Names.{filter_once, found_in, member_cases, only_member, IsNow, holds_void}
use Rattle.std.proofs.Common.{◌≡◌, ◌≢◌, ◌⊎◌, ◌+◌, ◌==◌, ◌<◌, ◌≤◌, ◌∷◌, ◌∙◌, nat_lt}
use Rattle.confinement.proofs.Zones.{Encloses, IsReceiver, Stays, StaysWithin, Zone}
use Rattle.model.specs.declared.object.Content.TheVariants as content
use Rattle.model.specs.declared.order.BankOrder.TheVariants as bank
use Rattle.model.specs.declared.order.ResultCode.TheVariants as code
use Rattle.confinement.proofs.TrustedEdits.{kept_refl, stays_refl, stays_rescind, stays_trans}

-- an order's outcome stays within a set: its objects do, and so does the capability that it gives
abbrev pub OutcomeStays : Zone → List Object → OrderOutcome → Type 0
OutcomeStays z os o = StaysWithin z os o.objects × Stays z o.capability

-- all authority of this content stays in the set: its annex, the capabilities in its slots, and its space
record IsFresh (z : Zone) (c : Content Capability) : Type 0 where
  annex : is_root c ≡ true → IsTrue (z.members (root_in c).annex)
  slots : (i : ℕ) → Stays z (slice_index_or (slots_in c) i Void)
  space : Stays z (root_in c).space

-- a new page, node or bank has no capabilities
fresh_page : (z : Zone) → IsFresh z new_page
fresh_page z = record { annex = λ e. cc; slots = λ i. inl (inl tt); space = inl (inl tt) }

fresh_node : (z : Zone) → IsFresh z new_node
fresh_node z = record { annex = λ e. cc; slots = λ i. holds_void (λ c. Stays z c) (inl (inl tt)) i; space = inl (inl tt) }

fresh_annex : (z : Zone) → IsFresh z new_annex
fresh_annex z = record { annex = λ e. cc; slots = λ i. holds_void (λ c. Stays z c) (inl (inl tt)) i; space = inl (inl tt) }

fresh_root : (z : Zone) (a : ℕ) → IsTrue (z.members a) → IsFresh z (new_root a)
fresh_root z a is = record { annex = λ e. is; slots = λ i. inl (inl tt); space = inl (inl tt) }

fresh_bank : (z : Zone) (limit : ℕ) → IsFresh z (content.Bank limit)
fresh_bank z limit = record { annex = λ e. cc; slots = λ i. inl (inl tt); space = inl (inl tt) }

module _ (g : Geometry) (z : Zone) (os : List Object) (h : IsNow g os) (k : Encloses z os) where
  tree : IsTree os
  tree = tree_of g os h.frame

  refused_stays : (why : ResultCode) → OutcomeStays z os (refused os why)
  refused_stays why = (stays_refl z os k, inl (inl tt))

  -- an object that a member bank owns is a member
  owner_inside : (n : ℕ) → is_free (content_at os n) ≡ false → IsTrue (z.members (owner_at os n)) → IsTrue (z.members n)
  owner_inside n used is = k.closed.owned (owner_at os n) n is (tree.owners n (λ gone. false≢true (sym used ∙ gone))) used refl

  -- ---- allocation

  -- a change stays within the set if each changed object is a member and its new authority stays in the set
  changed_stays : (us : List Object) → ((n : ℕ) → (object_at us n ≡ object_at os n) ⊎ (IsTrue (z.members n) × IsFresh z (content_at us n)))
      → StaysWithin z os us
  changed_stays us each = record {
    encloses = record {
      closed = record {
        annexes = λ p is process. elim (each p) [
          | inl same ↦
              subst (λ (o : Object). IsTrue (z.members (root_in o.content).annex)) (sym same)
              (k.closed.annexes p is (ap (λ (o : Object). is_root o.content) (sym same) ∙ process))
          | inr new ↦ new.1.annex process
        ];
        owned = λ b n is bank used owner. elim (each n) [
          | inl same ↦
              owner_inside n (ap (λ (o : Object). is_free o.content) (sym same) ∙ used)
              (ap z.members (ap (λ (o : Object). o.owner) (sym same) ∙ owner) ∙ is)
          | inr new ↦ new.0
        ];
        slots = λ n i is. elim (each n) [
          | inl same ↦ subst (λ (o : Object). Stays z (slice_index_or (slots_in o.content) i Void)) (sym same) (k.closed.slots n i is)
          | inr new ↦ new.1.slots i
        ];
        spaces = λ p is. elim (each p) [
          | inl same ↦ subst (λ (o : Object). Stays z (root_in o.content).space) (sym same) (k.closed.spaces p is)
          | inr new ↦ new.1.space
        ];
      };
      free = λ n gone. elim (each n) [ inl same ↦ k.free n (ap (λ (o : Object). is_free o.content) (sym same) ∙ gone) | inr new ↦ new.0 ];
      receives = λ p trusts is. elim (each p) [
        | inl same ↦
            subst (λ (o : Object). IsReceiver z p (root_in o.content).annex) (sym same)
            (k.receives p trusts (ap (λ (o : Object). is_root o.content) (sym same) ∙ is))
        | inr new ↦ inl new.0
      ];
    };
    kept = λ n out apart. elim (each n) [
      | inl same ↦ subst (λ o. IsKept z.members (object_at os n) o) (sym same) (kept_refl z.members (object_at os n))
      | inr new ↦ absurd (false≢true (sym out ∙ new.0))
    ];
  }

  -- the number is free
  abbrev IsUnused : ℕ → Type 0
  IsUnused n = (n < length os) × IsTrue (is_free (content_at os n))

  -- each number of a range that `are_free` lists is free
  unused_at : (from count : ℕ) → from + count ≤ length os → (ns : List ℕ) → are_free os (range_with_len from count) ≡ ns → (n : ℕ) →
      is_member ns n ≡ true → IsUnused n
  unused_at from count fits ns e n member = grind (arith, nat_tests, found_in)

  -- making one new object with authority only in the set stays within the set
  new_stays : (n b : ℕ) (c : Content Capability) → IsUnused n → IsFresh z c → StaysWithin z os (with_new os n b c)
  new_stays n b c unused fresh = changed_stays (with_new os n b c) (λ x. elim (cases_eq x n) [
    | inl e ↦ rw e (inr (k.free n unused.1, subst (λ (o : Object). IsFresh z o.content) (sym (at_new os n b c unused.0)) fresh))
    | inr differ ↦ inl (at_other os n b c x differ)
  ])

  allocated_stays : (from count : ℕ) → from + count ≤ length os → (b : ℕ) (c : Content Capability) (named : ℕ → Capability) → IsFresh z c
      → ((n : ℕ) → IsTrue (z.members n) → Stays z (named n)) → (ns : List ℕ) → are_free os (range_with_len from count) ≡ ns
      → OutcomeStays z os (allocated os b ns c named)
  allocated_stays from count fits b c named fresh stays [] e = refused_stays code.NoFrame
  allocated_stays from count fits b c named fresh stays (n ∷ ns) e =
      let unused : IsUnused n = unused_at from count fits (n ∷ ns) e n (member_head n n ns refl) in
      (new_stays n b c unused fresh, stays n (k.free n unused.1))

  -- making a process, a root with its annex, stays within the set
  process_stays : (p a b : ℕ) → p ≢ a → IsUnused p → IsUnused a → StaysWithin z os (with_new (with_new os p b (new_root a)) a b new_annex)
  process_stays p a b apart root annex =
      let rooted = with_new os p b (new_root a) in
      let whole = with_new rooted a b new_annex in
      let root_there : object_at whole p ≡ record { owner = b; content = new_root a } = grind (arith, nat_tests, at_other, at_new) in
      let annex_there : object_at whole a ≡ record { owner = b; content = new_annex } = grind (arith, nat_tests, at_new, length_new) in
      changed_stays whole (λ x. elim (cases_eq x a) [
        | inl e ↦ rw e (inr (k.free a annex.1, subst (λ (o : Object). IsFresh z o.content) (sym annex_there) (fresh_annex z)))
        | inr no_annex ↦ grind (arith, nat_tests, fresh_root, at_other)
      ])

  -- ---- freeing the objects of a bank

  -- rescinding members stays within the set
  gone_stays : (set : List ℕ) → ((n : ℕ) → is_member set n ≡ true → IsTrue (z.members n)) → StaysWithin z os (rescind set os)
  gone_stays set within = stays_rescind z os set k within

  freed_stays : (b : ℕ) (ns : List ℕ) → ((n : ℕ) → is_member ns n ≡ true → IsTrue (z.members n)) → OutcomeStays z os (freed os b ns)
  freed_stays b [] within = refused_stays code.BadCapability
  freed_stays b (n ∷ ns) within = chosen (OutcomeStays z os) (owner_at os n == b) _ _ (λ _. (gone_stays (n ∷ ns) within, inl (inl tt)))
      (λ _. refused_stays code.NotFromThisBank)

  -- if a capability stays inside a set (`Stays`), the objects that a bank frees by it are members
  freed_inside : (c : Capability) → NamesItsKind os c → Stays z c → (n : ℕ) → is_member (freed_by os c) n ≡ true → IsTrue (z.members n)
  freed_inside c names within n member = grind (arith, nat_tests)

  -- if the chain of a bank contains a member, the bank is a member
  above_inside : (b : ℕ) → IsTrue (z.members b) → (c : ℕ) → IsTrue (is_bank (content_at os c)) → is_member (chain os c) b ≡ true →
      IsTrue (z.members c)
  above_inside b is =
      tree_induction os tree (λ c. is_member (chain os c) b ≡ true → IsTrue (z.members c))
      (λ e. ap z.members (sym (only_member 0 b (ap (λ xs. is_member xs b) (sym (chain_zero os 0 refl)) ∙ e))) ∙ is)
      (λ c bank far above e.
      elim (member_cases c (chain os (owner_at os c)) b (ap (λ xs. is_member xs b) (sym (chain_unfolds os tree c bank far)) ∙ e)) [
        | inl same ↦ ap z.members (sym same) ∙ is
        | inr later ↦ owner_inside c (used_where is_bank refl (content_at os c) bank) (above later)
      ])

  -- all objects below a member bank are members
  under_inside : (b : ℕ) → IsTrue (z.members b) → (n : ℕ) → is_member (under os b) n ≡ true → IsTrue (z.members n)
  under_inside b is n e = elim (or_cases (n == b) (is_under os b (object_at os n)) (under_found os b n e).1) [
    | inl same ↦ ap z.members (eqb-true n b same) ∙ is
    | inr below ↦ grind (arith, nat_tests, owner_inside, above_inside, tree)
  ]

  -- transferring a bank's objects to its owner; b is a member bank other than bank 0
  module _ (b : ℕ) (kind : IsTrue (is_bank (content_at os b))) (on : b ≢ 0) (is : IsTrue (z.members b)) where
    transferred : (n : ℕ) → (object_at (inherited os b) n ≡ object_at os n) ⊎ IsTrue (z.members n)
    transferred n = grind (arith, nat_tests, inherited_object, tree, owner_inside)

    inherited_stays : StaysWithin z os (inherited os b)
    inherited_stays = changed_stays (inherited os b) (λ n. elim (transferred n) [
      | inl kept ↦ inl kept
      | inr member ↦ inr (
        member,
        subst (IsFresh z) (sym (inherited_content os tree b kind on n)) (record {
          annex = k.closed.annexes n member;
          slots = λ i. k.closed.slots n i member;
          space = k.closed.spaces n member;
        }),
      )
    ])

  -- ---- the order of a bank

  module _ (b : ℕ) (args : Arguments) (kind : IsTrue (is_bank (content_at os b))) (is : IsTrue (z.members b)) where
    page_made_stays : OutcomeStays z os (on_bank g os b bank.NewPage args)
    unfolding on_bank free_pages
    page_made_stays = chosen (OutcomeStays z os) (has_quota os b 1) _ _
        (λ _. allocated_stays g.nodes g.pages (omega (arith, h.frame.size)) b new_page _ (fresh_page z) (λ n is. inl (inr is))
        (free_pages g os) refl)
        (λ _. refused_stays code.Limit)

    node_made_stays : OutcomeStays z os (on_bank g os b bank.NewNode args)
    unfolding on_bank free_nodes
    node_made_stays = chosen (OutcomeStays z os) (has_quota os b 1) _ _
        (λ _. allocated_stays 0 g.nodes (omega (arith, h.frame.size)) b new_node _ (fresh_node z) (λ n is. inl (inr is)) (free_nodes g os)
        refl)
        (λ _. refused_stays code.Limit)

    bank_made_stays : OutcomeStays z os (on_bank g os b bank.NewBank args)
    unfolding on_bank free_nodes
    bank_made_stays = chosen (OutcomeStays z os) (has_quota os b 1) _ _ (λ _. go (free_nodes g os) refl) (λ _. refused_stays code.Limit)
      where
        go : (ns : List ℕ) → are_free os (range_with_len 0 g.nodes) ≡ ns → OutcomeStays z os (bank_allocated os b ns args.first)
        go [] e = refused_stays code.NoFrame
        go (n ∷ ns) e = chosen (OutcomeStays z os) (nat_lt (length (chain os b)) 16) _ _
            (λ _. allocated_stays 0 g.nodes (omega (arith, h.frame.size)) b (content.Bank args.first) Bank (fresh_bank z args.first)
            (λ n is. inl (inr is))
            (n ∷ ns) e)
            (λ _. refused_stays code.TooDeep)

    process_made_stays : OutcomeStays z os (on_bank g os b bank.NewProcess args)
    unfolding on_bank free_nodes
    process_made_stays = chosen (OutcomeStays z os) (has_quota os b 2) _ _ (λ _. go (free_nodes g os) refl) (λ _. refused_stays code.Limit)
      where
        go : (ns : List ℕ) → are_free os (range_with_len 0 g.nodes) ≡ ns → OutcomeStays z os (process_allocated os b ns)
        go [] e = refused_stays code.NoFrame
        go (p ∷ []) e = refused_stays code.NoFrame
        go (p ∷ a ∷ ns) e =
            let root : IsUnused p = unused_at 0 g.nodes (omega (arith, h.frame.size)) (p ∷ a ∷ ns) e p (member_head p p (a ∷ ns) refl) in
            let annex : IsUnused a = unused_at 0 g.nodes (omega (arith, h.frame.size)) (p ∷ a ∷ ns) e a
            (or_right (nat_eq a p) (is_member (a ∷ ns) a) (member_head a a ns refl))
            in
            let once = subst AllDiffer e (filter_once (λ n. is_free (content_at os n)) 0 g.nodes) in
            let apart : p ≢ a = λ same. false≢true (sym once.0 ∙ member_head p a ns same) in
            (process_stays p a b apart root annex, inl (inr (k.free p root.1)))

    destroyed_stays : OutcomeStays z os (on_bank g os b bank.Destroy args)
    unfolding on_bank
    destroyed_stays = chosen (OutcomeStays z os) (b == 0) _ _ (λ _. refused_stays code.PrimeBank)
        (λ _. (gone_stays (under os b) (under_inside b is), inl (inl tt)))

    returned_stays : OutcomeStays z os (on_bank g os b bank.ReturnToParent args)
    unfolding on_bank
    returned_stays = chosen (OutcomeStays z os) (b == 0) _ _ (λ _. refused_stays code.PrimeBank) (λ e.
        let transferred = inherited_stays b kind (eqb-false b 0 e) is in (
          stays_trans z os (inherited os b) (rescind (b ∷ []) (inherited os b)) transferred
              (stays_rescind z (inherited os b) (b ∷ []) transferred.encloses
              (λ n member. ap z.members (only_member b n member) ∙ is)),
          inl (inl tt),
        ))

-- an order on a member bank stays within the set if its arguments do
pub bank_stays : (g : Geometry) (z : Zone) (os : List Object) (b : ℕ) (requested : BankOrder) (args : Arguments) → IsNow g os
    → IsTrue (is_bank (content_at os b)) → IsTrue (z.members b) → NamesItsKind os args.capability → Stays z args.capability → Encloses z os
    → StaysWithin z os (on_bank g os b requested args).objects × Stays z (on_bank g os b requested args).capability
unfolding on_bank
bank_stays g z os b bank.NewPage args h is member names within k = page_made_stays g z os h k b args is member
bank_stays g z os b bank.NewNode args h is member names within k = node_made_stays g z os h k b args is member
bank_stays g z os b bank.NewProcess args h is member names within k = process_made_stays g z os h k b args is member
bank_stays g z os b bank.NewBank args h is member names within k = bank_made_stays g z os h k b args is member
bank_stays g z os b bank.Free args h is member names within k =
    freed_stays g z os h k b (freed_by os args.capability) (freed_inside g z os h k args.capability names within)
bank_stays g z os b bank.Destroy args h is member names within k = destroyed_stays g z os h k b args is member
bank_stays g z os b bank.ReturnToParent args h is member names within k = returned_stays g z os h k b args is member
bank_stays g z os b bank.Remaining args h is member names within k = (stays_refl z os k, inl (inl tt))
