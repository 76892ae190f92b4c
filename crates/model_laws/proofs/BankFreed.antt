-- The objects that a bank frees or destroys, and the usages after that.
use Rattle.model_laws.proofs.Names.{nat_tests, inl, inr, ℕ, zero, suc, Bool, true, false, not, List, [], length, get_or, All, refl, sym, ap, subst, arith}
use Rattle.model_laws.proofs.Names.{IsTrue, false≢true, cases_Bool, cases_eq, and_parts, false_from_ne_true, eqb-true, not-true, or_cases, get_or_past}
use Rattle.model_laws.proofs.Names.{Capability, Page, Node, Process, Geometry, Content, Object, is_free, is_root, is_annex, is_bank, object_at, content_at}
use Rattle.model_laws.proofs.Names.{owner_at, annex_at, is_process, chain, is_under, usage, freed_by, under, owned_by, is_member, rescind, NamesItsKind}
use Rattle.std.proofs.Common.{◌≡◌, ◌≢◌, ◌+◌, ◌-◌, ◌==◌, ◌<◌, ◌≤◌, ◌&&◌, ◌||◌, ◌∷◌, ◌∙◌}
use Rattle.std.specs.Prelude.{if◌then◌else◌}
use Rattle.model_laws.proofs.SoundParts.{IsFramed}
use Rattle.model_laws.proofs.SoundOrders.{IsNow}
use Rattle.model_laws.proofs.BankTree.{IsTree, tree_of, member_tail, chain_zero, chain_unfolds, chain_longer, chain_itself, chain_nonempty}
use Rattle.model_laws.proofs.BankTree.{owner_bank}
use Rattle.model_laws.proofs.NumberLists.{AllDiffer, member_cases, no_member, only_member, all_members, found_in, stands_in, filter_once}
use Rattle.model_laws.proofs.BankRescind.{IsClosedSet, lost_together, used_owner, used_where, usage_rescinded}

-- a number that isn't free is below the length of the objects
pub used_within : (os : List Object) (n : ℕ) → is_free (content_at os n) ≡ false → n < length os
used_within os n used = grind (arith, nat_tests, get_or_past)

-- a set of objects that are rescinded together, each listed once
pub record IsGivenUp (os : List Object) (set : List ℕ) : Type 0 where
  pub closed : IsClosedSet os set
  pub once : AllDiffer set
  pub used : (n : ℕ) → is_member set n ≡ true → is_free (content_at os n) ≡ false

pub given_up_within : (os : List Object) (set : List ℕ) → IsGivenUp os set → (n : ℕ) → is_member set n ≡ true → n < length os
given_up_within os set h n member = used_within os n (h.used n member)

-- if a bank is above all freed objects, its usage falls by their number; if it is above none, its usage is unchanged
pub usage_given_up : (os : List Object) (set : List ℕ) → IsTree os → IsGivenUp os set → (x : ℕ) → is_member set x ≡ false
    → (above : Bool) → ((n : ℕ) → is_member set n ≡ true → is_under os x (object_at os n) ≡ above)
    → usage (rescind set os) x + (if above then length set else 0) ≡ usage os x
usage_given_up os set tree h x stays above each = grind (arith, nat_tests, lost_together, given_up_within, usage_rescinded)

-- two numbers are different if a test tells them apart
pub differ_where : (test : Content Capability → Bool) (os : List Object) (m n : ℕ) → test (content_at os m) ≡ true →
    test (content_at os n) ≡ false → m ≢ n
differ_where test os m n is isnt same = false≢true (sym isnt ∙ (ap (λ (k : ℕ). test (content_at os k)) (sym same) ∙ is))

-- a content of one kind isn't of another

root_no_annex : (c : Content Capability) → is_root c ≡ true → is_annex c ≡ false
root_no_annex c e = grind (arith, nat_tests)

root_no_bank : (c : Content Capability) → is_root c ≡ true → is_bank c ≡ false
root_no_bank c e = grind (arith, nat_tests)

annex_no_bank : (c : Content Capability) → is_annex c ≡ true → is_bank c ≡ false
annex_no_bank c e = grind (arith, nat_tests)

-- the objects that a bank frees: it owns all of them, and none is a bank
pub record IsFreedSet (os : List Object) (b : ℕ) (set : List ℕ) : Type 0 where
  pub given_up : IsGivenUp os set
  pub owner : (n : ℕ) → is_member set n ≡ true → owner_at os n ≡ b
  pub no_bank : (n : ℕ) → is_member set n ≡ true → is_bank (content_at os n) ≡ false

module _ (g : Geometry) (os : List Object) (h : IsFramed g os) where
  only : (P : ℕ → Type 0) (o n : ℕ) → P o → is_member (o ∷ []) n ≡ true → P n
  only P o n here e = subst P (sym (only_member o n e)) here

  pair : (P : ℕ → Type 0) (o a n : ℕ) → P o → P a → is_member (o ∷ a ∷ []) n ≡ true → P n
  pair P o a n first second e = elim (member_cases o (a ∷ []) n e) [
    | inl same ↦ subst P (sym same) first
    | inr later ↦ only P a n second later
  ]

  -- the annex of a process isn't its root
  pub annex_differs : (p : ℕ) → IsTrue (is_process os p) → annex_at os p ≢ p
  annex_differs p is = differ_where is_annex os (annex_at os p) p (h.annexes p is).0 (root_no_annex (content_at os p) is)

  process_freed : (p : ℕ) → IsTrue (is_process os p) → IsFreedSet os (owner_at os p) (p ∷ annex_at os p ∷ [])
  process_freed p is =
      let a = annex_at os p in
      let known = h.annexes p is in
      let none = λ (n : ℕ) (e : is_member (p ∷ a ∷ []) n ≡ true). pair (λ m. is_bank (content_at os m) ≡ false) p a n
      (root_no_bank (content_at os p) is)
      (annex_no_bank (content_at os a) known.0) e in
      record {
        given_up = grind (arith, nat_tests, no_member, annex_differs, pair, used_where);
        owner = λ n e. pair (λ m. owner_at os m ≡ owner_at os p) p a n refl known.1 e;
        no_bank = none;
      }

  -- the objects that a capability frees may be rescinded together
  pub freed_set : (c : Capability) (n : ℕ) (ns : List ℕ) → NamesItsKind os c → freed_by os c ≡ n ∷ ns →
      IsFreedSet os (owner_at os n) (n ∷ ns)
  freed_set (Page o a) n ns names e = grind (arith, nat_tests, used_where)
  freed_set (Node o a) n ns names e = grind (arith, nat_tests, used_where)
  freed_set (Process p) n ns names e = subst (λ xs. IsFreedSet os (owner_at os (get_or xs 0 0)) xs) e (process_freed p names)
  freed_set c n ns names e = cc

-- an object that isn't free is under a bank exactly if the chain of its owner contains the bank
pub under_owner : (os : List Object) (x n : ℕ) → is_free (content_at os n) ≡ false →
    is_under os x (object_at os n) ≡ is_member (chain os (owner_at os n)) x
under_owner os x n used = rw used refl

-- a bank's usage after a free, plus the number of freed objects, is its usage before
usage_freed_both : (g : Geometry) (os : List Object) (c : Capability) (b n : ℕ) (ns : List ℕ) → IsNow g os → owner_at os n ≡ b →
    freed_by os c ≡ n ∷ ns → NamesItsKind os c → (x : ℕ) → IsTrue (is_bank (content_at os x))
    → usage (rescind (n ∷ ns) os) x + (if is_member (chain os b) x then length (n ∷ ns) else 0) ≡ usage os x
usage_freed_both g os c b n ns h own frees names x bank =
    let set = freed_set g os h.frame c n ns names frees in
    usage_given_up os (n ∷ ns) (tree_of g os h.frame) set.given_up x
    (false_from_ne_true (is_member (n ∷ ns) x) (λ e. false≢true (sym (set.no_bank x e) ∙ bank)))
    (is_member (chain os b) x)
    (λ m e. under_owner os x m (set.given_up.used m e) ∙ ap (λ (k : ℕ). is_member (chain os k) x) (set.owner m e ∙ own))

-- a free lowers the usage of each bank above the freed objects by their number, and of no other bank
pub usage_freed : (g : Geometry) (os : List Object) (c : Capability) (b n : ℕ) (ns : List ℕ) → IsNow g os → owner_at os n ≡ b →
    freed_by os c ≡ n ∷ ns → NamesItsKind os c → (x : ℕ) → IsTrue (is_bank (content_at os x))
    → usage (rescind (n ∷ ns) os) x ≡ usage os x - (if is_member (chain os b) x then length (n ∷ ns) else 0)
usage_freed g os c b n ns h own frees names x bank = omega (arith, usage_freed_both g os c b n ns h own frees names x bank)

-- a bank's usage is at least the number of objects that the order `Free` rescinds
pub freed_fits : (g : Geometry) (os : List Object) (c : Capability) (b n : ℕ) (ns : List ℕ) → IsNow g os → owner_at os n ≡ b →
    freed_by os c ≡ n ∷ ns → NamesItsKind os c → (x : ℕ) → IsTrue (is_bank (content_at os x)) →
    (if is_member (chain os b) x then length (n ∷ ns) else 0) ≤ usage os x
freed_fits g os c b n ns h own frees names x bank = omega (arith, usage_freed_both g os c b n ns h own frees names x bank)

-- no number occurs twice in the list of the objects under a bank

pub under_once : (os : List Object) (b : ℕ) → AllDiffer (under os b)
unfolding under
under_once os b = filter_once (λ n. (n == b) || is_under os b (object_at os n)) 0 (length os)

pub under_found : (os : List Object) (b n : ℕ) → is_member (under os b) n ≡ true →
    (n < length os) × (((n == b) || is_under os b (object_at os n)) ≡ true)
unfolding under
under_found os b n e = let found = found_in (λ n. (n == b) || is_under os b (object_at os n)) 0 (length os) n e in
    (omega (arith, found.1), found.2)

pub under_stands : (os : List Object) (b n : ℕ) → n < length os → ((n == b) || is_under os b (object_at os n)) ≡ true →
    is_member (under os b) n ≡ true
unfolding under
under_stands os b n below passes = stands_in (λ n. (n == b) || is_under os b (object_at os n)) 0 (length os) n (omega arith)
    (omega (arith, below)) passes

-- a number that `owned_by` lists for bank b is in range, isn't free, and has b as its owner
pub owned_found : (os : List Object) (b n : ℕ) → is_member (owned_by os b) n ≡ true →
    (n < length os) × (is_free (content_at os n) ≡ false) × (owner_at os n ≡ b)
unfolding owned_by
owned_found os b n e = grind (arith, nat_tests, found_in)

pub under_within : (os : List Object) (b : ℕ) → All (λ n. n < length os) (under os b)
under_within os b = all_members (λ n. n < length os) (under os b) (λ n e. (under_found os b n e).0)

pub owned_within : (os : List Object) (b : ℕ) → All (λ n. n < length os) (owned_by os b)
owned_within os b = all_members (λ n. n < length os) (owned_by os b) (λ n e. (owned_found os b n e).0)

-- a property of the prime bank that each bank inherits from its owner holds of every bank
pub tree_induction : (os : List Object) → IsTree os → (P : ℕ → Type 0) → P 0
    → ((c : ℕ) → IsTrue (is_bank (content_at os c)) → c ≢ 0 → P (owner_at os c) → P c)
    → (b : ℕ) → IsTrue (is_bank (content_at os b)) → P b
tree_induction os t P base step b is = go (length (chain os b)) b is (omega arith)
  where
    go : (k c : ℕ) → IsTrue (is_bank (content_at os c)) → length (chain os c) ≤ k → P c
    go zero c is short = absurd (omega (arith, short, chain_nonempty os t c is))
    go (suc k) c is short = elim (cases_eq c 0) [
      | inl end ↦ subst P (sym end) base
      | inr on ↦ step c is on (go k (owner_at os c) (owner_bank os t c is) (omega (arith, short, chain_longer os t c is on)))
    ]

module _ (g : Geometry) (os : List Object) (h : IsFramed g os) (b : ℕ) (is : IsTrue (is_bank (content_at os b))) (on : b ≢ 0) where
  tree : IsTree os
  tree = tree_of g os h

  under_used : (n : ℕ) → is_member (under os b) n ≡ true → is_free (content_at os n) ≡ false
  under_used n e = elim (or_cases (n == b) (is_under os b (object_at os n)) (under_found os b n e).1) [
    | inl same ↦ used_where is_bank refl (content_at os n) (ap (λ (k : ℕ). is_bank (content_at os k)) (eqb-true n b same) ∙ is)
    | inr below ↦ not-true (is_free (content_at os n)) (and_parts (not (is_free (content_at os n))) (is_member (chain os (owner_at os n)) b)
        below).0
  ]

  -- an object that isn't free is under a bank if the chain of its owner contains the bank
  under_chain : (n : ℕ) → is_free (content_at os n) ≡ false → is_member (chain os (owner_at os n)) b ≡ true →
      is_member (under os b) n ≡ true
  under_chain n used passes = grind (arith, nat_tests, under_stands, used_within, under_owner)

  -- a bank whose chain contains b is b, or under b
  under_bank : (c : ℕ) → IsTrue (is_bank (content_at os c)) → is_member (chain os c) b ≡ true → is_member (under os b) c ≡ true
  under_bank c bank passes = grind (
    arith,
    nat_tests,
    under_stands,
    used_within,
    used_where,
    chain_zero,
    member_tail,
    under_chain,
    chain_unfolds,
    tree,
  )

  -- bank b is in its own chain, and in that of each bank under b
  bank_under : (c : ℕ) → IsTrue (is_bank (content_at os c)) → is_member (under os b) c ≡ true → is_member (chain os c) b ≡ true
  bank_under c bank e = elim (cases_eq c b) [
    | inl same ↦ subst (λ k. is_member (chain os k) b ≡ true) (sym same) (chain_itself os tree b is)
    | inr other ↦ elim (or_cases (c == b) (is_under os b (object_at os c)) (under_found os b c e).1) [
      | inl same ↦ absurd (other (eqb-true c b same))
      | inr below ↦
          let passes : is_member (chain os (owner_at os c)) b ≡ true = sym (under_owner os b c (under_used c e)) ∙ below in
          elim (cases_eq c 0) [
            | inl end ↦
                let prime : owner_at os c ≡ 0 = ap (λ (k : ℕ). owner_at os k) end ∙ h.prime.1 in
                subst (λ k. is_member (chain os k) b ≡ true) (prime ∙ sym end) passes
            | inr far ↦ ap (λ xs. is_member xs b) (chain_unfolds os tree c bank far) ∙
                (member_tail b c (chain os (owner_at os c)) (λ e. other (sym e)) ∙ passes)
          ]
    ]
  ]

  -- a bank that isn't under b is in the chain of each bank under b exactly if it is in the chain of b's owner
  above_alike : (x : ℕ) → is_member (under os b) x ≡ false → (c : ℕ) → IsTrue (is_bank (content_at os c)) → is_member (chain os c) b ≡ true
      → is_member (chain os c) x ≡ is_member (chain os (owner_at os b)) x
  above_alike x stays =
      tree_induction os tree (λ c. is_member (chain os c) b ≡ true → is_member (chain os c) x ≡ is_member (chain os (owner_at os b)) x)
      (λ e. absurd (false≢true (sym (ap (λ xs. is_member xs b) (chain_zero os 0 refl) ∙ member_tail b 0 [] on) ∙ e)))
      (λ c bank far above passes.
      let other : x ≢ c = λ e. false≢true (sym stays ∙ (ap (λ (k : ℕ). is_member (under os b) k) e ∙ under_bank c bank passes)) in
      ap (λ xs. is_member xs x) (chain_unfolds os tree c bank far) ∙ (member_tail x c (chain os (owner_at os c)) other
      ∙ elim (cases_eq c b) [
        | inl same ↦ ap (λ (k : ℕ). is_member (chain os (owner_at os k)) x) same
        | inr differ ↦ grind (arith, nat_tests, chain_unfolds, tree, member_tail)
      ]))

  under_alike : (x n : ℕ) → is_member (under os b) x ≡ false → is_member (under os b) n ≡ true
      → is_under os x (object_at os n) ≡ is_member (chain os (owner_at os b)) x
  under_alike x n stays e =
      let used = under_used n e in
      under_owner os x n used ∙ elim (or_cases (n == b) (is_under os b (object_at os n)) (under_found os b n e).1) [
        | inl same ↦ ap (λ (k : ℕ). is_member (chain os (owner_at os k)) x) (eqb-true n b same)
        | inr below ↦ grind (arith, nat_tests, above_alike, used_owner, tree, under_owner)
      ]

  -- an object that isn't a bank is under b exactly if the chain of its owner contains b
  under_other : (n : ℕ) → is_free (content_at os n) ≡ false → is_bank (content_at os n) ≡ false →
      is_member (under os b) n ≡ is_member (chain os (owner_at os n)) b
  under_other n used none = elim (cases_Bool (is_member (chain os (owner_at os n)) b)) [
    | inl passes ↦ under_chain n used passes ∙ sym passes
    | inr apart ↦
        false_from_ne_true (is_member (under os b) n) (λ e. elim (or_cases (n == b) (is_under os b (object_at os n))
        (under_found os b n e).1) [
          | inl same ↦ false≢true (sym none ∙ (ap (λ (k : ℕ). is_bank (content_at os k)) (eqb-true n b same) ∙ is))
          | inr below ↦ false≢true (sym apart ∙ (sym (under_owner os b n used) ∙ below))
        ])
        ∙ sym apart
  ]

  -- a bank may be rescinded together with all objects under it
  pub under_given_up : IsGivenUp os (under os b)
  under_given_up = record {
    closed = record {
      prime = false_from_ne_true (is_member (under os b) 0) (λ e.
          false≢true (sym (ap (λ xs. is_member xs b) (chain_zero os 0 refl) ∙ member_tail b 0 [] on) ∙ bank_under 0 h.prime.0 e));
      annexes = λ p process.
          let known = h.annexes p process in
          under_other (annex_at os p) (used_where is_annex refl (content_at os (annex_at os p)) known.0)
          (annex_no_bank (content_at os (annex_at os p)) known.0)
          ∙ (ap (λ (k : ℕ). is_member (chain os k) b) known.1
          ∙ sym (under_other p (used_where is_root refl (content_at os p) process) (root_no_bank (content_at os p) process)));
      owned = λ n used e. under_chain n used (bank_under (owner_at os n) (used_owner os tree n used) e);
    };
    once = under_once os b;
    used = under_used;
  }

  usage_destroyed_both : (x : ℕ) → is_member (under os b) x ≡ false
      → usage (rescind (under os b) os) x + (if is_member (chain os (owner_at os b)) x then length (under os b) else 0) ≡ usage os x
  usage_destroyed_both x stays = grind (arith, nat_tests, usage_given_up, tree, under_given_up, under_alike)

-- if a bank is destroyed, the usage of each bank above it falls by the number of destroyed objects; other usages stay
pub usage_destroyed : (g : Geometry) (os : List Object) (b : ℕ) → IsNow g os → IsTrue (is_bank (content_at os b)) → b ≢ 0
    → (x : ℕ) → is_member (under os b) x ≡ false
    → usage (rescind (under os b) os) x ≡ usage os x - (if is_member (chain os (owner_at os b)) x then length (under os b) else 0)
usage_destroyed g os b h is on x stays = omega (arith, usage_destroyed_both g os h.frame b is on x stays)

-- a bank's usage is at least the number of objects that are destroyed
pub destroyed_fits : (g : Geometry) (os : List Object) (b : ℕ) → IsNow g os → IsTrue (is_bank (content_at os b)) → b ≢ 0
    → (x : ℕ) → is_member (under os b) x ≡ false
    → (if is_member (chain os (owner_at os b)) x then length (under os b) else 0) ≤ usage os x
destroyed_fits g os b h is on x stays = omega (arith, usage_destroyed_both g os h.frame b is on x stays)
