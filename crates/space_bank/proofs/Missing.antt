-- The least free numbers, and the numbers in use, found by marks. The banks' state and usages, computed number by number.
use Rattle.space_bank.proofs.Names.{and-false, nat_tests, ℕ, zero, suc, None, Some, Bool, cond, List, [], length, ⊎_elim, refl, sym, ap, subst, zero-add, arith}
use Rattle.space_bank.proofs.Names.{cases_lt, range_with_len, Geometry, Object, are_free, free_nodes, free_pages, is_free, content_at, MakeProcess, process_at}
use Rattle.space_bank.proofs.Names.{AreCounted, BanksState, AreMarked, HasNoneMarked, IsNextMarked, is_marked, map, IsTrue, slice_index, slice_set}
use Rattle.space_bank.proofs.Names.{get_or-set_other, get_or-set_same}
use Rattle.space_bank.proofs.Names.{get_or-map-range_with_len, length-map-range_with_len, map-range_with_len_more, Cap, Capability, ObjectHeader, Content}
use Rattle.space_bank.proofs.Names.{usage, held_at, Role, is_bank, is_root, limit_in, role_of, object_count, Parts, objects_in, content_there, mapped, AreKept}
use Rattle.space_bank.proofs.Names.{kept_number, ContentRef, content_behind, true, false, inl, inr, filter, length_objects, keepable_count, AreFree, is_listed}
use Rattle.space_bank.proofs.Names.{MayServe, chain, chain_prime, not, owner_at, append_assoc, append-nil, owned_by, under, listed_by, take, get_or, count_by}
use Rattle.space_bank.proofs.Names.{enumerate_from, cases_eq, eq-eqb, get_or_past, length-take, take_all, length-enumerate_from, get_or-enumerate_from}
use Rattle.space_bank.proofs.Names.{count_by-le-length, count_by_more_no, count_by_more_yes, is_under, free, is_member, object_at, IsTree, chain_once, IsRaised}
use Rattle.std.proofs.Common.{◌≡◌, ◌+◌, ◌-◌, ◌<◌, ◌≤◌, ◌∙◌, ◌∷◌, ◌^◌, ◌++◌, ◌≢◌, ◌==◌, ◌&&◌}
use Rattle.model.specs.declared.object.ContentRef.TheVariants as content_ref
use Rattle.model.specs.declared.object.Role.TheVariants as role
use Rattle.space_bank.proofs.Tallies.{marks_counted}

-- marks of the free numbers from `base` on
module _ (os : List Object) (base : ℕ) (marks : List Bool) (same : (n : ℕ) → n < length marks →
    is_marked marks n ≡ is_free (content_at os (base + n))) where
  -- the free numbers from a mark on
  abbrev pub free_from : ℕ → List ℕ
  free_from from = are_free os (range_with_len (base + from) (length marks - from))

  free_one : (from : ℕ) → from < length marks → free_from from ≡ cond (is_marked marks from) ((base + from) ∷ free_from (from + 1))
      (free_from (from + 1))
  free_one from inside = grind (arith, nat_tests)

  next_by : (k from n : ℕ) → n ≡ from + k → IsNextMarked marks from n → free_from from ≡ (base + n) ∷ free_from (n + 1)
  next_by zero from n is next = grind (arith, nat_tests, free_one)
  next_by (suc k) from n is next =
      let next_is : IsNextMarked marks (from + 1) n = search (arith, nat_tests, next.least) in
      search (arith, nat_tests, free_one, next_by k (from + 1) n (omega arith) next_is)

  -- the free numbers from `from` on are the next marked one, and then the free numbers after it
  pub next_free : (from n : ℕ) → IsNextMarked marks from n → free_from from ≡ (base + n) ∷ free_from (n + 1)
  next_free from n next = next_by (n - from) from n (omega (arith, next.past)) next

  none_by : (k from : ℕ) → from + k ≡ length marks → HasNoneMarked marks from → free_from from ≡ []
  none_by zero from is none = grind (arith, nat_tests)
  none_by (suc k) from is none = search (arith, nat_tests, free_one, none_by k (from + 1) (omega arith) (λ m late. none m (omega arith)))

  pub none_free : (from : ℕ) → HasNoneMarked marks from → free_from from ≡ []
  none_free from none = ⊎_elim (λ (past : length marks < from). let k : length marks - from ≡ 0 = omega arith in rw k refl)
      (λ (inside : from ≤ length marks). none_by (length marks - from) from (omega arith) none) (cases_lt (length marks) from)

  whole : are_free os (range_with_len base (length marks)) ≡ free_from 0
  whole = grind (arith, nat_tests)

  pub found_none : HasNoneMarked marks 0 → are_free os (range_with_len base (length marks)) ≡ []
  found_none none = whole ∙ none_free 0 none

  pub found_one : (n : ℕ) → IsNextMarked marks 0 n → are_free os (range_with_len base (length marks)) ≡ (base + n) ∷ free_from (n + 1)
  found_one n first = whole ∙ next_free 0 n first

  pub found_only : (n : ℕ) → IsNextMarked marks 0 n → HasNoneMarked marks (n + 1) →
      are_free os (range_with_len base (length marks)) ≡ (base + n) ∷ []
  found_only n first none = found_one n first ∙ ap (λ (xs : List ℕ). (base + n) ∷ xs) (none_free (n + 1) none)

  pub found_two : (n m : ℕ) → IsNextMarked marks 0 n → IsNextMarked marks (n + 1) m →
      are_free os (range_with_len base (length marks)) ≡ (base + n) ∷ (base + m) ∷ free_from (m + 1)
  found_two n m first second = found_one n first ∙ ap (λ (xs : List ℕ). (base + n) ∷ xs) (next_free (n + 1) m second)

-- a new process takes the first two free nodes
module _ (os : List Object) (marks : List Bool) (same : (n : ℕ) → n < length marks → is_marked marks n ≡ is_free (content_at os (0 + n)))
    (b n : ℕ) where
  pub process_missing : IsNextMarked marks 0 n → HasNoneMarked marks (n + 1) →
      None ≡ process_at b (are_free os (range_with_len 0 (length marks)))
  process_missing first none = ap (process_at b) (sym (found_only os 0 marks same n first none))

  pub process_found : (m : ℕ) → IsNextMarked marks 0 n → IsNextMarked marks (n + 1) m →
      Some (MakeProcess n m b) ≡ process_at b (are_free os (range_with_len 0 (length marks)))
  process_found m first second =
      ap (λ (r : ℕ). Some (MakeProcess r m b)) (sym (zero-add n)) ∙ ap (λ (a : ℕ). Some (MakeProcess (0 + n) a b)) (sym (zero-add m))
      ∙ ap (process_at b) (sym (found_two os 0 marks same n m first second))

-- the marks that the code reads agree with the objects, so a new object gets the same number as in the model
module _ {g : Geometry} {os : List Object} {s : BanksState} (h : AreCounted g os s) {marks : List Bool} {X : Type 0} (make : List ℕ → X)
    {x : X} where
  pub made_of_nodes : marks ≡ s.free_nodes →
      ((us : List Object) → AreMarked us 0 (length marks) marks → x ≡ make (are_free us (range_with_len 0 (length marks)))) →
      x ≡ make (free_nodes g os)
  unfolding free_nodes
  made_of_nodes are made = grind (arith, nat_tests)

  pub made_of_pages : marks ≡ s.free_pages → (first : ℕ) → first ≡ g.nodes →
      ((us : List Object) → AreMarked us first (length marks) marks → x ≡ make (are_free us (range_with_len first (length marks)))) →
      x ≡ make (free_pages g os)
  unfolding free_pages
  made_of_pages are first is made = grind (arith, nat_tests)

-- the number recorded for an object of another role is 0
pub kept_other : (r : Role) (c : Content Capability) → (role_of c ≡ r → ⊥) → kept_number r c ≡ 0
kept_other r c other = grind (arith, nat_tests)

pub no_limit : (r : ContentRef) → ((x : ℕ) → r ≡ content_ref.Bank x → ⊥) → limit_in (content_behind r) ≡ 0
no_limit r bank = grind (arith, nat_tests)

-- the limit in a content that was read is the one of the object
pub limit_held : (p : Parts) (n : ℕ) (c : Content Cap) → n < length p.headers → c ≡ held_at p.contents n →
    limit_in c ≡ limit_in (content_at (objects_in p) n)
limit_held p n c known is = grind (arith, nat_tests, mapped, content_there)

-- if the numbers of the first n objects were read, and then the next, n + 1 are read
pub numbers_more : (old now : Parts) (r : Role) (n one : ℕ) (kept new : List ℕ) → now ≡ old →
    one ≡ kept_number r (content_at (objects_in now) n) → kept ≡ map (λ m. kept_number r (content_at (objects_in old) m))
    (range_with_len 0 n) → new ≡ kept ++ one ∷ [] → new ≡ map (λ m. kept_number r (content_at (objects_in old) m))
    (range_with_len 0 (n + 1))
numbers_more old now r n one kept new same is so more =
    let f : ℕ → ℕ = λ m. kept_number r (content_at (objects_in old) m) in
    let here : one ≡ f n = is ∙ ap (λ (p : Parts). kept_number r (content_at (objects_in p) n)) same in
    more ∙ ap (λ (xs : List ℕ). xs ++ one ∷ []) so ∙ ap (λ (m : ℕ). map f (range_with_len 0 n) ++ m ∷ []) here
    ∙ sym (map-range_with_len_more f 0 n n (zero-add n))

-- the limits, and the annexes read after them, are of the same objects
pub both_kept : {p q r : Parts} {nodes : ℕ} {limits annexes : List ℕ} → q ≡ p → r ≡ q → nodes ≡ p.geometry.nodes →
    limits ≡ map (λ n. kept_number role.Bank (content_at (objects_in p) n)) (range_with_len 0 nodes) →
    annexes ≡ map (λ n. kept_number role.Root (content_at (objects_in q) n)) (range_with_len 0 nodes) →
    AreKept (objects_in r) r.geometry.nodes limits annexes
both_kept {p} {q} {r} {nodes} {limits} {annexes} first second size limits_are annexes_are = grind (arith, nat_tests)

-- the numbers of nodes and pages have 64 bits, because each object has a header
pub numbers_fit : (p : Parts) (hs : List ObjectHeader) (h : Geometry) (count : ℕ) → hs ≡ p.headers → count ≡ length hs → count < 2 ^ 64 →
    h ≡ p.geometry → length p.headers ≡ object_count p.geometry → h.nodes + h.pages < 2 ^ 64
numbers_fit p hs h count table is fits same all = grind (arith, nat_tests)

-- if the first n numbers are marked right, and then the next, n + 1 are
pub marks_more : (os : List Object) (first n : ℕ) (marks new : List Bool) (free : Bool) → n < length marks → new ≡ slice_set marks n free →
    free ≡ is_free (content_at os (first + n)) → ((m : ℕ) → m < n → is_marked marks m ≡ is_free (content_at os (first + m))) →
    (m : ℕ) → m < n + 1 → is_marked new m ≡ is_free (content_at os (first + m))
marks_more os first n marks new free inside is here so_far m lt = grind (arith, nat_tests, get_or-set_same, get_or-set_other)

-- facts that make the banks' state agree with the objects, part by part
module _ (g : Geometry) (os : List Object) (s : BanksState) (below : (b : ℕ) → IsTrue (is_bank (content_at os b)) → b < g.nodes)
    (process_below : (p : ℕ) → IsTrue (is_root (content_at os p)) → p < g.nodes) where
  counted_parts : AreMarked os 0 g.nodes s.free_nodes → AreMarked os g.nodes g.pages s.free_pages → length s.usages ≡ g.nodes →
      ((b : ℕ) → IsTrue (is_bank (content_at os b)) → slice_index s.usages b ≡ usage os b) →
      AreKept os g.nodes s.limits s.annexes → object_count g + 2 ≤ s.room → AreCounted g os s
  counted_parts nodes pages size usages kept room = grind (arith, nat_tests, length-map-range_with_len, get_or-map-range_with_len)

  pub counted_from : (h : Geometry) → h ≡ g → AreMarked os 0 h.nodes s.free_nodes → AreMarked os h.nodes h.pages s.free_pages →
      length s.usages ≡ h.nodes → ((b : ℕ) → IsTrue (is_bank (content_at os b)) → slice_index s.usages b ≡ usage os b) →
      AreKept os g.nodes s.limits s.annexes → object_count g + 2 ≤ s.room → AreCounted g os s
  counted_from h is nodes pages size has same given = grind (arith, nat_tests, counted_parts)

-- appending to a list that may have one item in front
cond_append : (b : Bool) (x : ℕ) (ys zs : List ℕ) → cond b (x ∷ (ys ++ zs)) (ys ++ zs) ≡ cond b (x ∷ ys) ys ++ zs
cond_append b x ys zs = grind (arith, nat_tests)

filter_more : (p : ℕ → Bool) (a n m : ℕ) → a + n ≡ m → filter p (range_with_len a (n + 1))
    ≡ filter p (range_with_len a n) ++ cond (p m) (m ∷ []) []
filter_more p a zero m is = grind (arith, nat_tests)
filter_more p a (suc n) m is = search (arith, nat_tests, cond_append, filter_more p (a + 1) n m (omega arith))

-- if number n passes the test, appending it lists the numbers below n + 1 that pass
pub listed_more : (p : ℕ → Bool) (before now new : List ℕ) (n : ℕ) → now ≡ before ++ filter p (range_with_len 0 n) → p n ≡ true →
    new ≡ now ++ n ∷ [] → new ≡ before ++ filter p (range_with_len 0 (n + 1))
listed_more p before now new n so passes is =
    is ∙ ap (λ (xs : List ℕ). xs ++ n ∷ []) so ∙ append_assoc before (filter p (range_with_len 0 n)) (n ∷ [])
    ∙ ap (λ (xs : List ℕ). before ++ xs)
    (ap (λ (b : Bool). filter p (range_with_len 0 n) ++ cond b (n ∷ []) []) (sym passes) ∙ sym (filter_more p 0 n n (omega arith)))

pub listed_same : (p : ℕ → Bool) (before now new : List ℕ) (n : ℕ) → now ≡ before ++ filter p (range_with_len 0 n) → p n ≡ false →
    new ≡ now → new ≡ before ++ filter p (range_with_len 0 (n + 1))
listed_same p before now new n so fails is =
    is ∙ so ∙ ap (λ (xs : List ℕ). before ++ xs) (sym (filter_more p 0 n n (omega arith)
    ∙ ap (λ (b : Bool). filter p (range_with_len 0 n) ++ cond b (n ∷ []) []) fails ∙ append-nil (filter p (range_with_len 0 n))))

pub listed_whole : (os : List Object) (b : ℕ) (deep : Bool) → filter (is_listed os b deep) (range_with_len 0 (length os))
    ≡ listed_by os b deep
unfolding under owned_by
listed_whole os b deep = grind (arith, nat_tests)

-- ---- listing numbers that pass a test, if none in a range does

pub listed_past : (p : ℕ → Bool) (before now : List ℕ) (from k : ℕ) → now ≡ before ++ filter p (range_with_len 0 from)
    → ((m : ℕ) → from ≤ m → m < from + k → p m ≡ false) → now ≡ before ++ filter p (range_with_len 0 (from + k))
listed_past p before now from zero so none = grind (arith, nat_tests)
listed_past p before now from (suc k) so none =
    let prev = listed_past p before now from k so (λ m past within. none m past (omega (arith, within))) in
    let more : from + k + 1 ≡ from + suc k = omega arith in
    subst (λ (j : ℕ). now ≡ before ++ filter p (range_with_len 0 j)) more
    (listed_same p before now now (from + k) prev (none (from + k) (omega arith) (omega arith)) refl)

pub listed_up_to : (p : ℕ → Bool) (before now : List ℕ) (from n : ℕ) → from ≤ n → now ≡ before ++ filter p (range_with_len 0 from)
    → ((m : ℕ) → from ≤ m → m < n → p m ≡ false) → now ≡ before ++ filter p (range_with_len 0 n)
listed_up_to p before now from n past so none =
    let sum : from + (n - from) ≡ n = omega (arith, past) in
    subst (λ (j : ℕ). now ≡ before ++ filter p (range_with_len 0 j)) sum
    (listed_past p before now from (n - from) so (λ m after within. none m after (omega (arith, within, past))))

-- neither a free number nor number 0 is listed for a bank
pub free_not_listed : (os : List Object) (b m : ℕ) (deep : Bool) → is_free (content_at os b) ≡ false → is_free (content_at os m) ≡ true →
    is_listed os b deep m ≡ false
free_not_listed os b m deep used free = grind (arith, nat_tests)

prime_not_listed : (os : List Object) (b : ℕ) (deep : Bool) → owner_at os 0 ≡ 0 → b ≢ 0 → is_listed os b deep 0 ≡ false
prime_not_listed os b deep prime other = grind (arith, nat_tests, chain_prime, and-false)

pub listed_inner : (os : List Object) (b n : ℕ) (deep : Bool) → owner_at os 0 ≡ 0 → b ≢ 0 → is_listed os b deep n ≡ true → n ≢ 0
listed_inner os b n deep prime other is same = grind (arith, nat_tests, prime_not_listed)

-- ---- facts about the banks' state

-- the banks' state agrees with the objects whatever is listed
pub counted_listed : {g : Geometry} {os : List Object} {s t : BanksState} {list : List ℕ} → t ≡ record s { listed = list } →
    AreCounted g os s → AreCounted g os t
counted_listed {g} {os} {s} {t} {list} is h = grind (arith, nat_tests)

module _ {p : Parts} {s : BanksState} {b : ℕ} (h : MayServe p s b) where
  pub bank_free : (nodes pages : List Bool) → nodes ≡ s.free_nodes → pages ≡ s.free_pages → AreFree (objects_in p) nodes pages
  bank_free nodes pages is_nodes is_pages =
      let count = keepable_count p.geometry h.sound.0 p h.sound.1.keepable in
      rw (is_nodes, is_pages) (record {
        each = omega (arith, count, h.counted.nodes, h.counted.pages, length_objects p.headers p.contents);
        free = λ n inside. marks_counted h.counted n (omega (arith, inside, count, length_objects p.headers p.contents));
      })

  -- a bank may be served whatever is listed
  pub bank_listing : {t : BanksState} {list : List ℕ} → t ≡ record s { listed = list } → MayServe p t b
  bank_listing is = record { sound = h.sound; counted = counted_listed is h.counted; bank = h.bank }

-- whether the object at a number counts for the usage of bank b; the usage from the objects below n
abbrev pub is_used : List Object → ℕ → ℕ × Object → Bool
is_used os b p = not (p.0 == b) && is_under os b p.1

abbrev pub used_below : List Object → ℕ → ℕ → ℕ
used_below os b n = count_by (is_used os b) (take n (enumerate_from 0 os))

module _ (os : List Object) (b n : ℕ) (inside : n < length os) where
  there : get_or (enumerate_from 0 os) n (0, free) ≡ (n, object_at os n)
  there = get_or-enumerate_from 0 os n (0, free) inside ∙ ap (λ (m : ℕ). (m, object_at os n)) (zero-add n)

  known : n < length (enumerate_from 0 os)
  known = rw (length-enumerate_from 0 os) inside

  used_more : is_used os b (n, object_at os n) ≡ true → used_below os b (n + 1) ≡ used_below os b n + 1
  used_more is = count_by_more_yes (is_used os b) (enumerate_from 0 os) n (0, free) known (ap (is_used os b) there ∙ is)

  used_same : is_used os b (n, object_at os n) ≡ false → used_below os b (n + 1) ≡ used_below os b n
  used_same is = count_by_more_no (is_used os b) (enumerate_from 0 os) n (0, free) known (ap (is_used os b) there ∙ is)

  used_by : (adds : Bool) → is_used os b (n, object_at os n) ≡ adds → used_below os b (n + 1) ≡ used_below os b n + cond adds 1 0
  used_by adds is = grind (arith, nat_tests, used_more, used_same)

pub used_whole : (os : List Object) (b n : ℕ) → length os ≤ n → usage os b ≡ used_below os b n
unfolding usage
used_whole os b n whole = ap (count_by (is_used os b)) (sym (take_all n (enumerate_from 0 os) (rw (length-enumerate_from 0 os) whole)))

-- if the banks of a list of objects form a tree, the list isn't empty
not_empty : (os : List Object) → IsTree os → 0 < length os
not_empty os t = grind (arith, nat_tests, get_or_past)

pub used_first : (os : List Object) → IsTree os → (b : ℕ) → used_below os b 1 ≡ 0
used_first os t b = used_same os b 0 (not_empty os t) (elim (cases_eq 0 b) [
  | inl e ↦ rw (eq-eqb 0 b e) refl
  | inr other ↦ grind (arith, nat_tests, chain_prime, and-false)
])

-- counting one more object that is free changes no usage
pub used_free : (os : List Object) (b n : ℕ) → n < length os → is_free (content_at os n) ≡ true →
    used_below os b (n + 1) ≡ used_below os b n
used_free os b n inside none = used_same os b n inside (rw none (and-false (not (n == b))))

used_under : (os : List Object) → IsTree os → (b n : ℕ) → IsTrue (is_bank (content_at os b)) → 1 ≤ n → is_free (content_at os n) ≡ false →
    is_used os b (n, object_at os n) ≡ is_member (chain os (owner_at os n)) b
used_under os t b n bank later used = grind (arith, nat_tests, chain_once)

pub used_raised : (os : List Object) → IsTree os → (b n owner : ℕ) (old new : List ℕ) → IsTrue (is_bank (content_at os b)) → n < length os →
    1 ≤ n → is_free (content_at os n) ≡ false → owner ≡ owner_at os n → IsRaised (chain os owner) 1 old new →
    slice_index old b ≡ used_below os b n → slice_index new b ≡ used_below os b (n + 1)
used_raised os t b n owner old new bank inside later used is raised so =
    let more : slice_index new b ≡ slice_index old b + cond (is_member (chain os (owner_at os n)) b) 1 0 = grind (arith, nat_tests) in
    let counted = used_by os b n inside (is_member (chain os (owner_at os n)) b) (used_under os t b n bank later used) in
    more ∙ ap (λ (k : ℕ). k + cond (is_member (chain os (owner_at os n)) b) 1 0) so ∙ sym counted

pub owner_of_used : (os : List Object) → IsTree os → (n owner : ℕ) → is_free (content_at os n) ≡ false → owner ≡ owner_at os n →
    IsTrue (is_bank (content_at os owner))
owner_of_used os t n owner used is = grind (arith, nat_tests)

pub raise_fits : (os : List Object) (b n count usage : ℕ) → usage ≡ used_below os b n → n < count → count < 2 ^ 64 → usage + 1 < 2 ^ 64
raise_fits os b n count usage so inside fits = grind (arith, nat_tests, count_by-le-length, length-take)
