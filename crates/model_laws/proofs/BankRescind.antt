-- Sets of objects that banks can rescind together, and the usages after that.
use Rattle.model_laws.proofs.Names.{nat_tests, inl, inr, ℕ, zero, suc, nat_eq, Bool, true, false, not, cond, Option, None, Some, List, [], length, refl, sym}
use Rattle.model_laws.proofs.Names.{ap, subst, arith, IsTrue, count_by, enumerate_from, false≢true, cases_Bool, cases_eq, false_from_ne_true, eq-eqb, ne_eqb}
use Rattle.model_laws.proofs.Names.{not_from_false, or_left, or_right, length-map, length-enumerate_from, Capability, Void, Geometry, Content, Object, free}
use Rattle.model_laws.proofs.Names.{is_free, is_root, is_annex, is_bank, role_of, map_content, named, object_at, content_at, owner_at, annex_at, is_process}
use Rattle.model_laws.proofs.Names.{chain, chain_within, is_under, usage, void_where, without, is_member, names_member, rescind, IsOfKind, IsSpace}
use Rattle.std.proofs.Common.{◌≡◌, ◌≢◌, ◌⊎◌, ◌+◌, ◌==◌, ◌<◌, ◌≤◌, ◌&&◌, ◌∷◌, ◌∙◌}
use Rattle.std.specs.Prelude.{if◌then◌else◌}
use Rattle.model.specs.declared.object.Content.TheVariants as content
use Rattle.model_laws.proofs.Cases.{chosen, one_of}
use Rattle.model_laws.proofs.Counts.{count_alike, count_both, count_none, one_within}
use Rattle.model_laws.proofs.Usage.{AreAlike, SameTests, same_tests}
use Rattle.model_laws.proofs.SoundParts.{IsHeld, IsFilled, IsFramed, Waits, state_at, held_void}
use Rattle.model_laws.proofs.Mapped.{alike_without, mapped, void_void}
use Rattle.model_laws.proofs.SoundEdits.{filled_map}
use Rattle.model_laws.proofs.SoundOrders.{IsNow}
use Rattle.model_laws.proofs.Revoking.{at_rescind}
use Rattle.model_laws.proofs.BankTree.{IsTree, tree_of}
use Rattle.model_laws.proofs.NumberLists.{AllDiffer}

-- objects that can be rescinded together: not the prime bank, a process with its annex, a bank with all that it owns
pub record IsClosedSet (os : List Object) (set : List ℕ) : Type 0 where
  pub prime : is_member set 0 ≡ false
  pub annexes : (p : ℕ) → IsTrue (is_process os p) → is_member set (annex_at os p) ≡ is_member set p
  pub owned : (n : ℕ) → is_free (content_at os n) ≡ false → is_member set (owner_at os n) ≡ true → is_member set n ≡ true

-- contents that pass a test which free ones fail aren't free
pub used_where : (test : Content Capability → Bool) → test content.Free ≡ false → (c : Content Capability) → test c ≡ true →
    is_free c ≡ false
used_where test fails c is = grind (arith, nat_tests)

-- the owner of each object that isn't free is a bank
pub used_owner : (os : List Object) → IsTree os → (n : ℕ) → is_free (content_at os n) ≡ false →
    IsTrue (is_bank (content_at os (owner_at os n)))
used_owner os tree n used = tree.owners n (λ gone. false≢true (sym used ∙ gone))

-- ---- which objects stay, and which are rescinded

module _ (os : List Object) (set : List ℕ) where
  went_object : (n : ℕ) → is_member set n ≡ true → object_at (rescind set os) n ≡ free
  went_object n e = at_rescind set os n ∙ ap (λ (b : Bool). if b then free else without (names_member set) (object_at os n)) e

  kept_object : (n : ℕ) → is_member set n ≡ false → object_at (rescind set os) n ≡ without (names_member set) (object_at os n)
  kept_object n e = at_rescind set os n ∙ ap (λ (b : Bool). if b then free else without (names_member set) (object_at os n)) e

  pub kept_alike : (n : ℕ) → is_member set n ≡ false → AreAlike (object_at os n) (object_at (rescind set os) n)
  kept_alike n e = subst (λ o. AreAlike (object_at os n) o) (sym (kept_object n e)) (alike_without (names_member set) (object_at os n))

  pub kept_tests : (n : ℕ) → is_member set n ≡ false → SameTests (content_at os n) (content_at (rescind set os) n)
  kept_tests n e = same_tests (content_at os n) (content_at (rescind set os) n) (kept_alike n e).role

  -- an object that isn't free afterwards wasn't a member
  stays_where : (test : Content Capability → Bool) → test content.Free ≡ false → (n : ℕ) → test (content_at (rescind set os) n) ≡ true →
      is_member set n ≡ false
  stays_where test fails n is = grind (arith, nat_tests, went_object)

  pub length_rescind : length (rescind set os) ≡ length os
  unfolding rescind
  length_rescind = length-map (enumerate_from 0 os) _ ∙ length-enumerate_from 0 os

-- by how much the rescind of a set lowers the usage of a bank
unfoldable pub lost : List Object → List ℕ → ℕ → ℕ
lost os set x = count_by (λ p. is_member set p.0 && is_under os x p.1) (enumerate_from 0 os)

module _ (os : List Object) (set : List ℕ) (tree : IsTree os) (closed : IsClosedSet os set) where
  owner_stays : (n : ℕ) → is_free (content_at os n) ≡ false → is_member set n ≡ false → is_member set (owner_at os n) ≡ false
  owner_stays n used stays = false_from_ne_true (is_member set (owner_at os n)) (λ e. false≢true (sym stays ∙ closed.owned n used e))

  -- the chain of a bank that stays doesn't change
  chain_within_kept : (k b : ℕ) → IsTrue (is_bank (content_at os b)) → is_member set b ≡ false →
      chain_within k (rescind set os) b ≡ chain_within k os b
  chain_within_kept zero b is stays = refl
  chain_within_kept (suc k) b is stays =
      let used = used_where is_bank refl (content_at os b) is in
      rw (kept_alike os set b stays).owner (rw (chain_within_kept k (owner_at os b) (used_owner os tree b used) (owner_stays b used stays))
      refl)

  pub chain_kept : (b : ℕ) → IsTrue (is_bank (content_at os b)) → is_member set b ≡ false → chain (rescind set os) b ≡ chain os b
  unfolding chain
  chain_kept b is stays = chain_within_kept 16 b is stays

  -- an object that stays is under the same banks as before
  under_kept : (x n : ℕ) → is_member set n ≡ false → is_under (rescind set os) x (object_at (rescind set os) n)
      ≡ is_under os x (object_at os n)
  under_kept x n stays = grind (arith, nat_tests, kept_tests, kept_alike, chain_kept, used_owner, owner_stays)

  under_went : (x n : ℕ) → is_member set n ≡ true → is_under (rescind set os) x (object_at (rescind set os) n) ≡ false
  under_went x n goes = rw (went_object os set n goes) refl

  -- for each number, what is counted afterwards and what is lost add up to what was counted before
  sums_up : (itself now before goes : Bool) → (goes ≡ false → now ≡ before) → (goes ≡ true → now ≡ false) → (goes ≡ true → itself ≡ false)
      → cond (not itself && now) 1 0 + cond (goes && before) 1 0 ≡ cond (not itself && before) 1 0
  sums_up itself now before goes same none other = grind (arith, nat_tests)

  -- a bank's usage afterwards, plus what it loses, is its usage before
  pub usage_rescinded : (x : ℕ) → is_member set x ≡ false → usage (rescind set os) x + lost os set x ≡ usage os x
  unfolding usage lost
  usage_rescinded x stays =
      count_both (λ p. not (p.0 == x) && is_under (rescind set os) x p.1) (λ p. is_member set p.0 && is_under os x p.1)
      (λ p. not (p.0 == x) && is_under os x p.1) 0 os (rescind set os) free (length_rescind os set)
      (λ i j e.
      let same : i ≡ j = omega (arith, e) in
      rw same (sums_up (j == x) (is_under (rescind set os) x (object_at (rescind set os) j)) (is_under os x (object_at os j))
      (is_member set j)
      (λ kept. under_kept x j kept) (λ goes. under_went x j goes)
      (λ goes. ne_eqb j x (λ at. false≢true (sym stays ∙ (ap (λ (m : ℕ). is_member set m) (sym at) ∙ goes))))))

-- no usage rises
usage_falls : (os : List Object) (set : List ℕ) → IsTree os → IsClosedSet os set → (x : ℕ) → is_member set x ≡ false
    → usage (rescind set os) x ≤ usage os x
usage_falls os set tree closed x stays = omega (arith, usage_rescinded os set tree closed x stays)

-- objects satisfy `IsFramed` after a rescind of a closed set if they did before
framed_rescind : (g : Geometry) (os : List Object) (set : List ℕ) → IsFramed g os → IsClosedSet os set → IsFramed g (rescind set os)
framed_rescind g os set h closed =
    let tree = tree_of g os h in
    let stays = stays_where os set in
    let t = kept_tests os set in
    let alike = kept_alike os set in
    record {
      size = length_rescind os set ∙ h.size;
      kinds = λ n. elim (cases_Bool (is_member set n)) [
        | inl goes ↦ subst (λ o. IsOfKind g n o.content) (sym (went_object os set n goes)) tt
        | inr kept ↦ (t n kept).kind g n (h.kinds n)
      ];
      annexes = λ p is.
          let kept = stays is_root refl p is in
          let was = sym (t p kept).root ∙ is in
          let known = h.annexes p was in
          let with_it : is_member set (annex_at os p) ≡ false = closed.annexes p was ∙ kept in
          rw (alike p kept).annex (
            (t (annex_at os p) with_it).annex ∙ known.0,
            (alike (annex_at os p) with_it).owner
                ∙ (known.1 ∙ sym (alike p kept).owner),
          );
      one_root = λ p q is iq same.
          let kept = stays is_root refl p is in
          let other = stays is_root refl q iq in
          h.one_root p q (sym (t p kept).root ∙ is) (sym (t q other).root ∙ iq) (sym (alike p kept).annex ∙ (same ∙ (alike q other).annex));
      some_root = λ a is.
          let kept = stays is_annex refl a is in
          let found = h.some_root a (sym (t a kept).annex ∙ is) in
          let with_it : is_member set found.0 ≡ false = sym (closed.annexes found.0 found.1)
          ∙ (ap (λ (m : ℕ). is_member set m) found.2 ∙ kept) in
          (found.0, (t found.0 with_it).root ∙ found.1, (alike found.0 with_it).annex ∙ found.2);
      unowned = λ n is. grind (arith, nat_tests, went_object);
      owners = λ n is.
          let used = false_from_ne_true (is_free (content_at (rescind set os) n)) is in
          let kept = stays (λ c. not (is_free c)) refl n (not_from_false _ used) in
          let was : is_free (content_at os n) ≡ false = sym (t n kept).free ∙ used in
          rw (alike n kept).owner ((t (owner_at os n) (owner_stays os set tree closed n was kept)).bank ∙ used_owner os tree n was);
      prime = ((t 0 closed.prime).bank ∙ h.prime.0, (alike 0 closed.prime).owner ∙ h.prime.1);
      chains = λ b is.
          let kept = stays is_bank refl b is in
          let was = sym (t b kept).bank ∙ is in
          rw (chain_kept os set tree closed b was kept) (h.chains b was);
      limits = λ b is.
          let kept = stays is_bank refl b is in
          let was = sym (t b kept).bank ∙ is in
          rw (alike b kept).limit (omega (arith, usage_falls os set tree closed b kept, h.limits b was));
    }

-- ---- what the objects hold after a rescind

-- number n has the same role in both lists and, if it is a process, the same state
pub record IsAsBefore (os us : List Object) (n : ℕ) : Type 0 where
  pub role : role_of (content_at us n) ≡ role_of (content_at os n)
  pub state : state_at us n ≡ state_at os n

-- a capability may still be held if the object that it names is as before
pub held_as_before : (os us : List Object) (c : Capability) → ((n : ℕ) → named c ≡ Some n → IsAsBefore os us n) → IsHeld os (Waits os) c →
    IsHeld us (Waits us) c
held_as_before os us c f is = grind (arith, nat_tests)

module _ (os : List Object) (set : List ℕ) where
  kept_as_before : (n : ℕ) → is_member set n ≡ false → IsAsBefore os (rescind set os) n
  kept_as_before n e = grind (arith, nat_tests, kept_alike, kept_object, mapped)

  abbrev Holds : Capability → Type 0
  Holds c = IsHeld (rescind set os) (Waits (rescind set os)) c

  abbrev cleared : Capability → Capability
  cleared = void_where (names_member set)

  held_rescind : (c : Capability) → IsHeld os (Waits os) c → Holds (cleared c)
  held_rescind c h = chosen Holds (names_member set c) Void c (λ _. held_void (rescind set os) (Waits (rescind set os))) (λ e.
      held_as_before os (rescind set os) c
      (λ n is. kept_as_before n (sym (ap (λ (o : Option ℕ). elim o [ None ↦ false | Some m ↦ is_member set m ]) is) ∙ e)) h)

  space_rescind : (c : Capability) → IsSpace c → IsSpace (cleared c)
  space_rescind c h = one_of IsSpace (names_member set c) Void c tt h

  filled_cleared : (c : Content Capability) → IsFilled os (Waits os) c → IsFilled (rescind set os) (Waits (rescind set os))
      (map_content cleared c)
  filled_cleared = filled_map os (rescind set os) (Waits os) (Waits (rescind set os)) cleared (void_void (names_member set)) held_rescind
      space_rescind

  filled_free : IsFilled (rescind set os) (Waits (rescind set os)) content.Free
  filled_free = record {
    shape = tt;
    words = λ i. omega arith;
    slots = λ i. held_void _ _;
    register_0 = λ e. refl;
    space = held_void _ _;
    is_space = tt;
  }

  filled_rescind : (n : ℕ) → IsFilled os (Waits os) (content_at os n) → IsFilled (rescind set os) (Waits (rescind set os))
      (content_at (rescind set os) n)
  filled_rescind n h = grind (arith, nat_tests, went_object, filled_free, kept_object, filled_cleared)

-- sound objects stay sound if a closed set is rescinded
pub rescinded_now : (g : Geometry) (os : List Object) (set : List ℕ) → IsNow g os → IsClosedSet os set → IsNow g (rescind set os)
rescinded_now g os set h closed = record {
  frame = framed_rescind g os set h.frame closed;
  filled = λ n. filled_rescind os set n (h.filled n);
}

-- ---- how much usage is lost with a set

-- a list of numbers of objects without repetition is as long as the number of its members
pub count_members : (os : List Object) (set : List ℕ) → AllDiffer set → ((n : ℕ) → is_member set n ≡ true → n < length os)
    → count_by (λ p. is_member set p.0) (enumerate_from 0 os) ≡ length set
count_members os [] once below = count_none (λ p. false) os free (λ i. refl)
count_members os (m ∷ ms) once below =
    let first = one_within m 0 os (omega arith) (omega (arith, below m (or_left (nat_eq m m) (is_member ms m) (eq-eqb m m refl)))) in
    let rest = count_members os ms once.1 (λ n is. below n (or_right (nat_eq n m) (is_member ms n) is)) in
    let both = count_both (λ p. p.0 == m) (λ p. is_member ms p.0) (λ p. is_member (m ∷ ms) p.0) 0 os os free refl
    (λ i j e. apart j (cases_eq j m)) in
    omega (arith, first, rest, both)
  where
    apart : (j : ℕ) → (j ≡ m) ⊎ (j ≢ m) → cond (j == m) 1 0 + cond (is_member ms j) 1 0 ≡ cond (is_member (m ∷ ms) j) 1 0
    apart j is = grind (arith, nat_tests)

-- if a bank is above all members of a set, it loses their number from its usage; if it is above none, it loses nothing
pub lost_together : (os : List Object) (set : List ℕ) (x : ℕ) (above : Bool) → AllDiffer set →
    ((n : ℕ) → is_member set n ≡ true → n < length os) → ((n : ℕ) → is_member set n ≡ true → is_under os x (object_at os n) ≡ above) →
    lost os set x ≡ (if above then length set else 0)
unfolding lost
lost_together os set x true once below each =
    count_alike (λ p. is_member set p.0 && is_under os x p.1) (λ p. is_member set p.0) os os free refl (λ i. go i (is_member set i) refl) ∙
    count_members os set once below
  where
    go : (i : ℕ) (b : Bool) → is_member set i ≡ b → (b && is_under os x (object_at os i)) ≡ b
    go i b e = grind (arith, nat_tests)
lost_together os set x false once below each =
    count_none (λ p. is_member set p.0 && is_under os x p.1) os free (λ i. go i (is_member set i) refl)
  where
    go : (i : ℕ) (b : Bool) → is_member set i ≡ b → (b && is_under os x (object_at os i)) ≡ false
    go i b e = grind (arith, nat_tests)
