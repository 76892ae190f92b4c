-- An order of a bank keeps sound objects sound.
use Rattle.model_laws.proofs.Names.{nat_tests, inl, inr, ℕ, Bool, true, false, Some, List, [], length, min, refl, sym, ap, subst, arith, IsTrue, nat_lt}
use Rattle.model_laws.proofs.Names.{slice_index, slice_index_or, AllPairs, list_all, range_with_len, cases_eq, cases_Bool, and_parts, ltb-true, All-filter}
use Rattle.model_laws.proofs.Names.{All-head, All-get_or, filter_passes, length-range_with_len, get_or-range_with_len, AllPairs-filter, Capability, Void, Page}
use Rattle.model_laws.proofs.Names.{Node, Space, Process, Start, Resume, Bank, Geometry, Content, Object, Arguments, BankOrder, full, named, is_free, is_page}
use Rattle.model_laws.proofs.Names.{is_node, is_root, is_annex, is_bank, role_of, words_in, slots_in, limit_in, root_in, object_at, content_at, owner_at}
use Rattle.model_laws.proofs.Names.{annex_at, root_at, is_process, chain, usage, made, are_free, free_nodes, free_pages, has_quota, with_new, new_page}
use Rattle.model_laws.proofs.Names.{new_node, new_root, new_annex, allocated, process_allocated, bank_allocated, least, remaining, on_bank, is_member, IsOfKind}
use Rattle.model_laws.proofs.Names.{HasShape}
use Rattle.std.proofs.Common.{◌≡◌, ◌≢◌, ◌+◌, ◌^◌, ◌<◌, ◌≤◌, ◌∷◌, ◌∙◌}
use Rattle.std.specs.Prelude.{if◌then◌else◌}
use Rattle.std.specs.List.{All}
use Rattle.model.specs.declared.object.Content.TheVariants as content
use Rattle.model.specs.declared.order.BankOrder.TheVariants as bank
use Rattle.model.specs.declared.order.ResultCode.TheVariants as code
use Rattle.model_laws.proofs.SoundParts.{IsHeld, IsFilled, Waits, held_void}
use Rattle.model_laws.proofs.SoundOrders.{IsNow, IsOutcome, AreArguments, three_words, refused_keeps, given_keeps}
use Rattle.model_laws.proofs.Cases.{chosen}
use Rattle.model_laws.proofs.SoundWorlds.{holds_void, zero_words_fit, zero_words_length, all_slots_length}
use Rattle.model_laws.proofs.BankTree.{IsTree, tree_of, member_tail, at_new, at_other, length_new, chain_new, new_bank_kept, tree_new}
use Rattle.model_laws.proofs.BankUsage.{usage_new, usage_new_bank}
use Rattle.model_laws.proofs.BankRescind.{IsAsBefore, held_as_before, used_where}
use Rattle.model_laws.proofs.BankReturn.{freed_keeps, destroyed_keeps, returned_keeps}

-- objects after new ones were made at free numbers
record IsGrown (g : Geometry) (os us : List Object) : Type 0 where
  size : length us ≡ length os
  kept : (n : ℕ) → is_free (content_at os n) ≡ false → object_at us n ≡ object_at os n
  tree : IsTree us
  limits : (b : ℕ) → IsTrue (is_bank (content_at us b)) → usage us b ≤ limit_in (content_at us b)
  kinds : (n : ℕ) → IsTrue (is_free (content_at os n)) → IsOfKind g n (content_at us n)
  filled : (n : ℕ) → IsTrue (is_free (content_at os n)) → IsFilled us (Waits us) (content_at us n)
  annexes : (p : ℕ) → IsTrue (is_free (content_at os p)) → IsTrue (is_process us p) →
      IsTrue (is_free (content_at os (annex_at us p)))
      × IsTrue (is_annex (content_at us (annex_at us p))) × (owner_at us (annex_at us p) ≡ owner_at us p)
  one_root : (p q : ℕ) → IsTrue (is_free (content_at os p)) → IsTrue (is_free (content_at os q)) → IsTrue (is_process us p) →
      IsTrue (is_process us q) → p ≡ q
  some_root : (a : ℕ) → IsTrue (is_free (content_at os a)) → IsTrue (is_annex (content_at us a)) →
      (p : ℕ) × IsTrue (is_process us p) × (annex_at us p ≡ a)

module _ (g : Geometry) (os us : List Object) (h : IsNow g os) (k : IsGrown g os us) where
  -- a property of all new objects and of all old ones holds of every object
  at_each : (P : ℕ → Object → Type 0) → ((n : ℕ) → IsTrue (is_free (content_at os n)) → P n (object_at us n))
      → ((n : ℕ) → is_free (content_at os n) ≡ false → P n (object_at os n)) → (n : ℕ) → P n (object_at us n)
  at_each P new old n = elim (cases_Bool (is_free (content_at os n))) [
    | inl e ↦ new n e
    | inr e ↦ subst (P n) (sym (k.kept n e)) (old n e)
  ]

  annex_used : (p : ℕ) → IsTrue (is_process os p) → is_free (content_at os (annex_at os p)) ≡ false
  annex_used p is = used_where is_annex refl (content_at os (annex_at os p)) (h.frame.annexes p is).0

  -- an old and a new process have different annexes
  annexes_apart : (p q : ℕ) → IsTrue (is_free (content_at os p)) → is_free (content_at os q) ≡ false → IsTrue (is_process us p) →
      IsTrue (is_process us q) → annex_at us p ≢ annex_at us q
  annexes_apart p q new old is iq same = grind (arith, nat_tests)

  grown_one_root : (p q : ℕ) → IsTrue (is_process us p) → IsTrue (is_process us q) → annex_at us p ≡ annex_at us q → p ≡ q
  grown_one_root p q is iq same = elim (cases_Bool (is_free (content_at os p))) [
    | inl new ↦ elim (cases_Bool (is_free (content_at os q))) [
      | inl also ↦ k.one_root p q new also is iq
      | inr old ↦ absurd (annexes_apart p q new old is iq same)
    ]
    | inr old ↦ elim (cases_Bool (is_free (content_at os q))) [
      | inl new ↦ absurd (annexes_apart q p new old iq is (sym same))
      | inr also ↦
          h.frame.one_root p q (sym (ap (λ (o : Object). is_root o.content) (k.kept p old)) ∙ is)
          (sym (ap (λ (o : Object). is_root o.content) (k.kept q also)) ∙ iq)
          (sym (ap (λ (o : Object). (root_in o.content).annex) (k.kept p old))
          ∙ (same ∙ ap (λ (o : Object). (root_in o.content).annex) (k.kept q also)))
    ]
  ]

  -- a capability that names an old object may still be held
  held_where : (c : Capability) (o : ℕ) → named c ≡ Some o → is_free (content_at os o) ≡ false → IsHeld os (Waits os) c →
      IsHeld us (Waits us) c
  held_where c o names old =
      held_as_before os us c (λ n e. subst (IsAsBefore os us) (same o n (sym names ∙ e))
      (record {
        role = ap (λ (x : Object). role_of x.content) (k.kept o old);
        state = ap (λ (x : Object). (root_in x.content).state) (k.kept o old);
      }))
    where
      same : (m n : ℕ) → Some m ≡ Some n → m ≡ n
      same m n e = cc

  -- a capability that may be held before may still be held
  held_grown : (c : Capability) → IsHeld os (Waits os) c → IsHeld us (Waits us) c
  held_grown (Page o a) held = held_where (Page o a) o refl (used_where is_page refl (content_at os o) held.names) held
  held_grown (Node o a) held = held_where (Node o a) o refl (used_where is_node refl (content_at os o) held.names) held
  held_grown (Space o j a) held = held_where (Space o j a) o refl (used_where is_node refl (content_at os o) held.names) held
  held_grown (Process p) held = held_where (Process p) p refl (used_where is_root refl (content_at os p) held.names) held
  held_grown (Start p key) held = held_where (Start p key) p refl (used_where is_root refl (content_at os p) held.names) held
  held_grown (Resume p) held = held_where (Resume p) p refl (used_where is_root refl (content_at os p) held.names.0) held
  held_grown (Bank b) held = held_where (Bank b) b refl (used_where is_bank refl (content_at os b) held.names) held
  held_grown c held = record { well_formed = held.well_formed; names = held.names }

  filled_grown : (n : ℕ) → is_free (content_at os n) ≡ false → IsFilled us (Waits us) (content_at os n)
  filled_grown n old =
      let f = h.filled n in
      record {
        shape = f.shape;
        words = f.words;
        slots = λ i. held_grown (slice_index_or (slots_in (content_at os n)) i Void) (f.slots i);
        register_0 = f.register_0;
        space = held_grown (root_at os n).space f.space;
        is_space = f.is_space;
      }

  -- sound objects stay sound with new ones at free numbers
  grown_now : IsNow g us
  grown_now = record {
    frame = record {
      size = k.size ∙ h.frame.size;
      kinds = at_each (λ n o. IsOfKind g n o.content) k.kinds (λ n old. h.frame.kinds n);
      annexes = at_each
          (λ p o. IsTrue (is_root o.content) → IsTrue (is_annex (content_at us (root_in o.content).annex))
          × (owner_at us (root_in o.content).annex ≡ o.owner))
          (λ p new is. ((k.annexes p new is).1, (k.annexes p new is).2))
          (λ p old is.
          let known = h.frame.annexes p is in
          let kept = k.kept (annex_at os p) (annex_used p is) in
          (ap (λ (o : Object). is_annex o.content) kept ∙ known.0, ap (λ (o : Object). o.owner) kept ∙ known.1));
      one_root = grown_one_root;
      some_root = at_each (λ a o. IsTrue (is_annex o.content) → (p : ℕ) × IsTrue (is_process us p) × (annex_at us p ≡ a)) k.some_root
          (λ a old is.
          let found = h.frame.some_root a is in
          let kept = k.kept found.0 (used_where is_root refl (content_at os found.0) found.1) in
          (found.0, ap (λ (o : Object). is_root o.content) kept ∙ found.1, ap (λ (o : Object). (root_in o.content).annex) kept ∙ found.2));
      unowned = k.tree.unowned;
      owners = k.tree.owners;
      prime = k.tree.prime;
      chains = k.tree.chains;
      limits = k.limits;
    };
    filled = at_each (λ n o. IsFilled us (Waits us) o.content) k.filled filled_grown;
  }

-- ---- new contents

-- a content in which all capabilities are void is filled
filled_void : (us : List Object) (W : ℕ → Type 0) (c : Content Capability) → HasShape c → ((i : ℕ) → slice_index (words_in c) i < 2 ^ 64)
    → ((i : ℕ) → slice_index_or (slots_in c) i Void ≡ Void) → (root_in c).space ≡ Void → IsFilled us W c
filled_void us W c shape words slots space = grind (arith, nat_tests)

filled_page : (us : List Object) (W : ℕ → Type 0) → IsFilled us W new_page
filled_page us W = filled_void us W new_page zero_words_length zero_words_fit (λ i. refl) refl

filled_node : (us : List Object) (W : ℕ → Type 0) → IsFilled us W new_node
filled_node us W = filled_void us W new_node all_slots_length (λ i. omega arith) (holds_void (λ c. c ≡ Void) refl) refl

filled_annex : (us : List Object) (W : ℕ → Type 0) → IsFilled us W new_annex
filled_annex us W = filled_void us W new_annex all_slots_length (λ i. omega arith) (holds_void (λ c. c ≡ Void) refl) refl

filled_root : (us : List Object) (W : ℕ → Type 0) (a : ℕ) → IsFilled us W (new_root a)
filled_root us W a = grind (arith, nat_tests)

filled_bank : (us : List Object) (W : ℕ → Type 0) (limit : ℕ) → limit < 2 ^ 64 → IsFilled us W (content.Bank limit)
filled_bank us W limit fits = filled_void us W (content.Bank limit) fits (λ i. omega arith) (λ i. refl) refl

free_filled : (us : List Object) (W : ℕ → Type 0) (c : Content Capability) → IsTrue (is_free c) → IsFilled us W c
free_filled us W c e = grind (arith, nat_tests)

-- ---- quotas and free numbers

-- a test that all members pass is passed by each member
pub member_passes : (test : ℕ → Bool) (xs : List ℕ) (x : ℕ) → list_all test xs ≡ true → is_member xs x ≡ true → test x ≡ true
member_passes test [] x all member = cc
member_passes test (y ∷ ys) x all member =
    let parts = and_parts (test y) (list_all test ys) all in
    elim (cases_eq x y) [
      | inl e ↦ ap test e ∙ parts.0
      | inr differ ↦ member_passes test ys x parts.1 (sym (member_tail x y ys differ) ∙ member)
    ]

-- if the quota of bank b allows `count` more objects, each bank in its chain can own that many more
spare_body_at : (os : List Object) (b count x : ℕ) → has_quota os b count ≡ true → is_member (chain os b) x ≡ true →
    usage os x + count ≤ limit_in (content_at os x)
unfolding has_quota
spare_body_at os b count x room member = grind (arith, nat_tests, member_passes)

-- a free number within a range
abbrev IsFreeWithin : List Object → ℕ → ℕ → ℕ → Type 0
IsFreeWithin os from count n = (from ≤ n) × (n < from + count) × IsTrue (is_free (content_at os n))

module _ (os : List Object) (from count : ℕ) where
  in_range : All (λ n. (from ≤ n) × (n < from + count)) (range_with_len from count)
  in_range = grind (arith, nat_tests, length-range_with_len, get_or-range_with_len)

  range_rises : AllPairs (λ m n. m < n) (range_with_len from count)
  range_rises i j d lt inside = grind (arith, nat_tests, length-range_with_len, get_or-range_with_len)

  free_first : (n : ℕ) (ns : List ℕ) → are_free os (range_with_len from count) ≡ n ∷ ns → IsFreeWithin os from count n
  free_first n ns e =
      let inside = All-head (λ n. (from ≤ n) × (n < from + count)) n ns
      (subst (All (λ n. (from ≤ n) × (n < from + count))) e
      (All-filter (λ n. is_free (content_at os n)) (λ n. (from ≤ n) × (n < from + count)) (range_with_len from count) in_range)) in
      let gone = All-head (λ n. is_free (content_at os n) ≡ true) n ns
      (subst (All (λ n. is_free (content_at os n) ≡ true)) e (filter_passes (λ n. is_free (content_at os n)) (range_with_len from count)))
      in
      (inside.0, inside.1, gone)

  free_second : (n m : ℕ) (ns : List ℕ) → are_free os (range_with_len from count) ≡ n ∷ m ∷ ns → IsFreeWithin os from count m × (n < m)
  free_second n m ns e =
      let inside = All-get_or (λ n. (from ≤ n) × (n < from + count)) (n ∷ m ∷ ns) 1 0 (omega arith)
      (subst (All (λ n. (from ≤ n) × (n < from + count))) e
      (All-filter (λ n. is_free (content_at os n)) (λ n. (from ≤ n) × (n < from + count)) (range_with_len from count) in_range)) in
      let gone = All-get_or (λ n. is_free (content_at os n) ≡ true) (n ∷ m ∷ ns) 1 0 (omega arith)
      (subst (All (λ n. is_free (content_at os n) ≡ true)) e (filter_passes (λ n. is_free (content_at os n)) (range_with_len from count)))
      in
      let rises = subst (AllPairs (λ m n. m < n)) e (AllPairs-filter (λ m n. m < n) (λ n. is_free (content_at os n))
      (range_with_len from count) range_rises) in
      ((inside.0, inside.1, gone), rises 0 1 0 (omega arith) (omega arith))

-- one new object, which is neither a root nor an annex
module _ (g : Geometry) (os : List Object) (n b : ℕ) (c : Content Capability) (h : IsNow g os) (bank : IsTrue (is_bank (content_at os b)))
    (inside : n < length os)
    (unused : IsTrue (is_free (content_at os n))) (used : is_free c ≡ false) (short : IsTrue (is_bank c) → length (chain os b) < 16) where
  -- a property of the new object and of all others holds of every object
  one_at : (P : ℕ → Object → Type 0) → P n (record { owner = b; content = c }) → ((x : ℕ) → x ≢ n → P x (object_at os x)) → (x : ℕ) →
      P x (object_at (with_new os n b c) x)
  one_at P new old x = grind (arith, nat_tests, at_new, at_other)

  one_limits : has_quota os b 1 ≡ true → (x : ℕ) → IsTrue (is_bank (content_at (with_new os n b c) x)) →
      usage (with_new os n b c) x ≤ limit_in (content_at (with_new os n b c) x)
  one_limits room = one_at (λ x o. IsTrue (is_bank o.content) → usage (with_new os n b c) x ≤ limit_in o.content)
      (λ is. omega (arith, usage_new_bank os n b c (tree_of g os h.frame) bank inside unused used short is))
      (λ x differ is. go x is (is_member (chain os b) x) refl)
    where
      go : (x : ℕ) → IsTrue (is_bank (content_at os x)) → (m : Bool) → is_member (chain os b) x ≡ m →
          usage (with_new os n b c) x ≤ limit_in (content_at os x)
      go x is m e = grind (arith, nat_tests, usage_new, tree_of, spare_body_at)

  one_now : has_quota os b 1 ≡ true → IsOfKind g n c → IsFilled (with_new os n b c) (Waits (with_new os n b c)) c → is_root c ≡ false →
      is_annex c ≡ false → IsNow g (with_new os n b c)
  one_now room kind filled no_root no_annex = grown_now g os (with_new os n b c) h (record {
    size = length_new os n b c;
    kept = λ x old. at_other os n b c x (λ e. let both : true ≡ false = sym unused
        ∙ (ap (λ (m : ℕ). is_free (content_at os m)) (sym e) ∙ old) in cc);
    tree = tree_new os n b c (tree_of g os h.frame) bank inside unused used short;
    limits = one_limits room;
    kinds = λ x gone. one_at (λ y o. IsOfKind g y o.content) kind (λ y differ. h.frame.kinds y) x;
    filled = λ x gone. one_at (λ y o. IsTrue (is_free (content_at os y)) → IsFilled (with_new os n b c) (Waits (with_new os n b c))
        o.content) (λ f. filled)
        (λ y differ f. filled_free y f) x gone;
    annexes = λ p gone is. absurd (no_process p gone is);
    one_root = λ p q gone also is iq. absurd (no_process p gone is);
    some_root = λ a gone is. absurd (no_annexes a gone is);
  })
    where
      filled_free : (y : ℕ) → IsTrue (is_free (content_at os y)) → IsFilled (with_new os n b c) (Waits (with_new os n b c))
          (content_at os y)
      filled_free y f = free_filled (with_new os n b c) (Waits (with_new os n b c)) (content_at os y) f

      no_process : (p : ℕ) → IsTrue (is_free (content_at os p)) → IsTrue (is_process (with_new os n b c) p) → ⊥
      no_process = one_at (λ x o. IsTrue (is_free (content_at os x)) → IsTrue (is_root o.content) → ⊥)
          (λ gone is. let both : true ≡ false = sym is ∙ no_root in cc)
          (λ x differ gone is. let both : true ≡ false = sym gone ∙ used_where is_root refl (content_at os x) is in cc)

      no_annexes : (a : ℕ) → IsTrue (is_free (content_at os a)) → IsTrue (is_annex (content_at (with_new os n b c) a)) → ⊥
      no_annexes = one_at (λ x o. IsTrue (is_free (content_at os x)) → IsTrue (is_annex o.content) → ⊥)
          (λ gone is. let both : true ≡ false = sym is ∙ no_annex in cc)
          (λ x differ gone is. let both : true ≡ false = sym gone ∙ used_where is_annex refl (content_at os x) is in cc)

-- a new process: a root and its annex
module _ (g : Geometry) (os : List Object) (p a b : ℕ) (h : IsNow g os) (bank : IsTrue (is_bank (content_at os b))) (differ : p ≢ a)
    (p_inside : p < length os)
    (a_inside : a < length os)
    (p_unused : IsTrue (is_free (content_at os p))) (a_unused : IsTrue (is_free (content_at os a))) where
  abbrev rooted : List Object
  rooted = with_new os p b (new_root a)

  abbrev whole : List Object
  whole = with_new rooted a b new_annex

  rooted_tree : IsTree rooted
  rooted_tree = tree_new os p b (new_root a) (tree_of g os h.frame) bank p_inside p_unused refl (λ e. cc)

  rooted_bank : IsTrue (is_bank (content_at rooted b))
  rooted_bank = new_bank_kept os p b (new_root a) (tree_of g os h.frame) bank p_inside p_unused refl (λ e. cc) b bank

  annex_inside : a < length rooted
  annex_inside = omega (arith, length_new os p b (new_root a), a_inside)

  annex_unused : IsTrue (is_free (content_at rooted a))
  annex_unused = ap (λ (o : Object). is_free o.content) (at_other os p b (new_root a) a (λ e. differ (sym e))) ∙ a_unused

  root_there : object_at whole p ≡ record { owner = b; content = new_root a }
  root_there = at_other rooted a b new_annex p differ ∙ at_new os p b (new_root a) p_inside

  annex_there : object_at whole a ≡ record { owner = b; content = new_annex }
  annex_there = at_new rooted a b new_annex annex_inside

  old_there : (x : ℕ) → x ≢ a → x ≢ p → object_at whole x ≡ object_at os x
  old_there x no_annex no_root = at_other rooted a b new_annex x no_annex ∙ at_other os p b (new_root a) x no_root

  -- a property of both new objects and of all others holds of every object
  two_at : (P : ℕ → Object → Type 0) → P p (record { owner = b; content = new_root a }) → P a (record { owner = b; content = new_annex })
      → ((x : ℕ) → P x (object_at os x)) → (x : ℕ) → P x (object_at whole x)
  two_at P root annex old x = grind (arith, nat_tests, annex_there, root_there, old_there)

  two_limits : has_quota os b 2 ≡ true → (x : ℕ) → IsTrue (is_bank (content_at whole x)) → usage whole x ≤ limit_in (content_at whole x)
  two_limits room = two_at (λ x o. IsTrue (is_bank o.content) → usage whole x ≤ limit_in o.content) (λ is. cc) (λ is. cc)
      (λ x is. go x is (is_member (chain os b) x) refl)
    where
      go : (x : ℕ) → IsTrue (is_bank (content_at os x)) → (m : Bool) → is_member (chain os b) x ≡ m →
          usage whole x ≤ limit_in (content_at os x)
      go x is m e = grind (
        arith,
        nat_tests,
        usage_new,
        tree_of,
        new_bank_kept,
        rooted_tree,
        rooted_bank,
        annex_inside,
        annex_unused,
        chain_new,
        spare_body_at,
      )

  -- the only new process is p
  only_process : (q : ℕ) → IsTrue (is_free (content_at os q)) → IsTrue (is_process whole q) → q ≡ p
  only_process = two_at (λ q o. IsTrue (is_free (content_at os q)) → IsTrue (is_root o.content) → q ≡ p) (λ gone is. refl) (λ gone is. cc)
      (λ q gone is. let both : true ≡ false = sym gone ∙ used_where is_root refl (content_at os q) is in cc)

  two_annexes : (q : ℕ) → IsTrue (is_free (content_at os q)) → IsTrue (is_process whole q) →
      IsTrue (is_free (content_at os (annex_at whole q))) × IsTrue (is_annex (content_at whole (annex_at whole q))) ×
      (owner_at whole (annex_at whole q) ≡ owner_at whole q)
  two_annexes = two_at
      (λ q o. IsTrue (is_free (content_at os q)) → IsTrue (is_root o.content) →
      IsTrue (is_free (content_at os (root_in o.content).annex)) × IsTrue (is_annex (content_at whole (root_in o.content).annex)) ×
      (owner_at whole (root_in o.content).annex ≡ o.owner))
      (λ gone is. (a_unused, ap (λ (o : Object). is_annex o.content) annex_there, ap (λ (o : Object). o.owner) annex_there)) (λ gone is. cc)
      (λ q gone is. let both : true ≡ false = sym gone ∙ used_where is_root refl (content_at os q) is in cc)

  two_roots : (q : ℕ) → IsTrue (is_free (content_at os q)) → IsTrue (is_annex (content_at whole q)) →
      (r : ℕ) × IsTrue (is_process whole r) × (annex_at whole r ≡ q)
  two_roots = two_at (λ q o. IsTrue (is_free (content_at os q)) → IsTrue (is_annex o.content) →
      (r : ℕ) × IsTrue (is_process whole r) × (annex_at whole r ≡ q))
      (λ gone is. cc)
      (λ gone is. (p, ap (λ (o : Object). is_root o.content) root_there, ap (λ (o : Object). (root_in o.content).annex) root_there))
      (λ q gone is. let both : true ≡ false = sym gone ∙ used_where is_annex refl (content_at os q) is in cc)

  two_now : has_quota os b 2 ≡ true → p < g.nodes → a < g.nodes → IsNow g whole
  two_now room p_node a_node = grown_now g os whole h (record {
    size = length_new rooted a b new_annex ∙ length_new os p b (new_root a);
    kept = λ x old. old_there x (λ e. apart x a e a_unused old) (λ e. apart x p e p_unused old);
    tree = tree_new rooted a b new_annex rooted_tree rooted_bank annex_inside annex_unused refl (λ e. cc);
    limits = two_limits room;
    kinds = λ x gone. two_at (λ y o. IsOfKind g y o.content) p_node a_node h.frame.kinds x;
    filled = two_at (λ y o. IsTrue (is_free (content_at os y)) → IsFilled whole (Waits whole) o.content)
        (λ f. filled_root whole (Waits whole) a) (λ f. filled_annex whole (Waits whole))
        (λ y f. free_filled whole (Waits whole) (content_at os y) f);
    annexes = two_annexes;
    one_root = λ q r gone also is ir. only_process q gone is ∙ sym (only_process r also ir);
    some_root = two_roots;
  })
    where
      apart : (x n : ℕ) → x ≡ n → IsTrue (is_free (content_at os n)) → is_free (content_at os x) ≡ false → ⊥
      apart x n e gone old = let both : true ≡ false = sym gone ∙ (ap (λ (m : ℕ). is_free (content_at os m)) (sym e) ∙ old) in cc

-- ---- the orders of a bank

module _ (g : Geometry) (os : List Object) (b : ℕ) (args : Arguments) (h : IsNow g os) (is : IsTrue (is_bank (content_at os b)))
    (fits : AreArguments os args)
  where
    -- an outcome with sound objects, and a capability that may be held, is valid
    made_keeps : (us : List Object) (written : List ℕ) (c : Capability) → IsNow g us → IsHeld us (Waits us) c →
        IsOutcome g (made us written c)
    made_keeps us written c now held = let k = given_keeps g us c now held in
        record { now = k.now; count = k.count; words = k.words; held = k.held }

    node_within : (n : ℕ) → n < 0 + g.nodes → n < length os
    node_within n lt = omega (arith, h.frame.size)

    -- making a page keeps sound objects sound
    pub page_allocated_keeps : IsOutcome g (on_bank g os b bank.NewPage args)
    unfolding on_bank free_pages
    page_allocated_keeps =
        chosen (IsOutcome g) (has_quota os b 1) _ _ (λ room. go room (free_pages g os) refl) (λ _. refused_keeps g os code.Limit h)
      where
        go : has_quota os b 1 ≡ true → (ns : List ℕ) → are_free os (range_with_len g.nodes g.pages) ≡ ns →
            IsOutcome g (allocated os b ns new_page (λ n. Page n full))
        go room [] e = refused_keeps g os code.NoFrame h
        go room (n ∷ ns) e =
            let found = free_first os g.nodes g.pages n ns e in
            let inside : n < length os = omega (arith, found.1, h.frame.size) in
            made_keeps (with_new os n b new_page) (n ∷ []) (Page n full)
            (one_now g os n b new_page h is inside found.2 refl (λ e. cc) room (found.0, found.1) (filled_page _ _) refl refl)
            (record { well_formed = inl refl; names = ap (λ (o : Object). is_page o.content) (at_new os n b new_page inside) })

    -- making a node keeps sound objects sound
    pub node_allocated_keeps : IsOutcome g (on_bank g os b bank.NewNode args)
    unfolding on_bank free_nodes
    node_allocated_keeps =
        chosen (IsOutcome g) (has_quota os b 1) _ _ (λ room. go room (free_nodes g os) refl) (λ _. refused_keeps g os code.Limit h)
      where
        go : has_quota os b 1 ≡ true → (ns : List ℕ) → are_free os (range_with_len 0 g.nodes) ≡ ns →
            IsOutcome g (allocated os b ns new_node (λ n. Node n full))
        go room [] e = refused_keeps g os code.NoFrame h
        go room (n ∷ ns) e =
            let found = free_first os 0 g.nodes n ns e in
            let inside = node_within n found.1 in
            made_keeps (with_new os n b new_node) (n ∷ []) (Node n full)
            (one_now g os n b new_node h is inside found.2 refl (λ e. cc) room (omega (arith, found.1)) (filled_node _ _) refl refl)
            (record { well_formed = inl refl; names = ap (λ (o : Object). is_node o.content) (at_new os n b new_node inside) })

    -- making a bank keeps sound objects sound
    pub bank_allocated_keeps : IsOutcome g (on_bank g os b bank.NewBank args)
    unfolding on_bank free_nodes
    bank_allocated_keeps =
        chosen (IsOutcome g) (has_quota os b 1) _ _ (λ room. go room (free_nodes g os) refl) (λ _. refused_keeps g os code.Limit h)
      where
        go : has_quota os b 1 ≡ true → (ns : List ℕ) → are_free os (range_with_len 0 g.nodes) ≡ ns →
            IsOutcome g (bank_allocated os b ns args.first)
        go room [] e = refused_keeps g os code.NoFrame h
        go room (n ∷ ns) e =
            let found = free_first os 0 g.nodes n ns e in
            let inside = node_within n found.1 in
            chosen (IsOutcome g) (nat_lt (length (chain os b)) 16) _ _
            (λ short. made_keeps (with_new os n b (content.Bank args.first)) (n ∷ []) (Bank n)
            (one_now g os n b (content.Bank args.first) h is inside found.2 refl (λ _. ltb-true (length (chain os b)) 16 short) room
            (omega (arith, found.1))
            (filled_bank _ _ args.first fits.first) refl refl)
            (record { well_formed = tt; names = ap (λ (o : Object). is_bank o.content) (at_new os n b (content.Bank args.first) inside) }))
            (λ _. refused_keeps g os code.TooDeep h)

    -- making a process keeps sound objects sound
    pub process_allocated_keeps : IsOutcome g (on_bank g os b bank.NewProcess args)
    unfolding on_bank free_nodes
    process_allocated_keeps =
        chosen (IsOutcome g) (has_quota os b 2) _ _ (λ room. go room (free_nodes g os) refl) (λ _. refused_keeps g os code.Limit h)
      where
        go : has_quota os b 2 ≡ true → (ns : List ℕ) → are_free os (range_with_len 0 g.nodes) ≡ ns → IsOutcome g (process_allocated os b ns)
        go room [] e = refused_keeps g os code.NoFrame h
        go room (p ∷ []) e = refused_keeps g os code.NoFrame h
        go room (p ∷ a ∷ ns) e =
            let root = free_first os 0 g.nodes p (a ∷ ns) e in
            let annex = free_second os 0 g.nodes p a ns e in
            let differ : p ≢ a = λ same. omega (arith, annex.1, same) in
            let root_inside = node_within p root.1 in
            let annex_inside = node_within a annex.0.1 in
            made_keeps (with_new (with_new os p b (new_root a)) a b new_annex) (p ∷ a ∷ []) (Process p)
            (two_now g os p a b h is differ root_inside annex_inside root.2 annex.0.2 room (omega (arith, root.1))
            (omega (arith, annex.0.1)))
            (record {
              well_formed = tt;
              names = ap (λ (o : Object). is_root o.content) (root_there g os p a b h is differ root_inside annex_inside root.2 annex.0.2);
            })

    -- the least of n and other numbers is at most n
    least_below : (n : ℕ) (ms : List ℕ) → least n ms ≤ n
    least_below n [] = omega arith
    least_below n (m ∷ ms) = omega (arith, least_below (min n m) ms)

    -- the order `Remaining` keeps sound objects sound
    pub remaining_keeps : IsOutcome g (on_bank g os b bank.Remaining args)
    unfolding on_bank remaining
    remaining_keeps = grind (arith, nat_tests, three_words, least_below, held_void)

-- every order of a bank keeps sound objects sound
pub on_bank_keeps : (g : Geometry) (os : List Object) (b : ℕ) (requested : BankOrder) (args : Arguments) → IsNow g os →
    IsTrue (is_bank (content_at os b)) → AreArguments os args → IsOutcome g (on_bank g os b requested args)
on_bank_keeps g os b bank.NewPage args h is fits = page_allocated_keeps g os b args h is fits
on_bank_keeps g os b bank.NewNode args h is fits = node_allocated_keeps g os b args h is fits
on_bank_keeps g os b bank.NewProcess args h is fits = process_allocated_keeps g os b args h is fits
on_bank_keeps g os b bank.NewBank args h is fits = bank_allocated_keeps g os b args h is fits
on_bank_keeps g os b bank.Free args h is fits = freed_keeps g os b args h is fits
on_bank_keeps g os b bank.Destroy args h is fits = destroyed_keeps g os b args h is fits
on_bank_keeps g os b bank.ReturnToParent args h is fits = returned_keeps g os b args h is fits
on_bank_keeps g os b bank.Remaining args h is fits = remaining_keeps g os b args h is fits
