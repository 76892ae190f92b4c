-- Allocation counts and the banks' state when objects are freed. Returning a bank to its parent.
use Rattle.space_bank.proofs.Names.{nat_tests, ℕ, Bool, true, false, not, List, sym, ap, arith, Capability, ObjectHeader, Content, Object, with_new, given_up}
use Rattle.space_bank.proofs.Names.{header_at, is_free, is_member, rescind, content_at, new_used, rescinded_given_up, AreGivenUp, Parts, Renews, objects_in}
use Rattle.space_bank.proofs.Names.{⊎_elim, cases_lt, zero, suc, [], drop, take, length, refl, subst, IsTrue, slice_index, slice_index_or, All, eq-eqb}
use Rattle.space_bank.proofs.Names.{false_from_ne_true, false≢true, take_rest, list_any_at, Geometry, chain, usage, AreCurrent, AreKeepable, free, is_bank}
use Rattle.space_bank.proofs.Names.{is_root, limit_in, names_member, void_where, without, object_at, AllDiffer, member_tail, free_rescinded, at_rescind, IsOnce}
use Rattle.space_bank.proofs.Names.{KeepsRest, frames_of, IsMapped, without_mapped, AreCounted, BanksState, KeepsObjects, CarriesOut, MayFree, MayServe}
use Rattle.space_bank.proofs.Names.{marks_of, IsRaised, is_marked, add-one, slice_set, ext_get_or, get_or-set_other, get_or-set_same, length-map, transferred}
use Rattle.space_bank.proofs.Names.{inherited, owned_by, owner_at, owned_found, used_where, returned_fits, usage_returned, chain_banks, chain_once, member_head}
use Rattle.space_bank.proofs.Names.{owner_bank, all_members, found_in, only_member, stands_in, at_map, AreTransferred}
use Rattle.std.proofs.Common.{◌≡◌, ◌+◌, ◌<◌, ◌≤◌, ◌&&◌, ◌∙◌, ◌-◌, ◌^◌, ◌++◌, ◌∷◌, ◌≢◌, ◌==◌}
use Rattle.std.specs.Prelude.{if◌then◌else◌, nat_eq}
use Rattle.space_bank.proofs.Tallies.{chain_bank, few_allocations, few_calls, serve_count, serve_now, serve_tree, annex_in, counted_from, marks_counted}
use Rattle.space_bank.proofs.Tallies.{transferred_same}

-- a count that neither fell nor rose is unchanged
pub unrisen : (m n : ℕ) → m ≤ n → (m < n → ⊥) → n ≡ m
unrisen m n later stayed = ⊎_elim (λ (rose : m < n). absurd (stayed rose)) (λ (within : n ≤ m). omega arith) (cases_lt m n)

-- the same allocation counts; the same free numbers
abbrev pub SameAllocations : Parts → Parts → Type 0
SameAllocations p q = (n : ℕ) → (header_at q.headers n).allocations ≡ (header_at p.headers n).allocations

abbrev pub SameFree : Parts → Parts → Type 0
SameFree p q = (n : ℕ) → is_free (content_at (objects_in q) n) ≡ is_free (content_at (objects_in p) n)

-- if `gone` says whether an object is freed, its allocation count rises by one if so, and else stays
given_or_kept : (gone : Bool) (member : Bool) (h k : ObjectHeader) → gone ≡ member → k ≡ (if member then given_up h else h) →
    k.allocations ≡ h.allocations + (if gone then 1 else 0)
given_or_kept gone member h k e is = grind (arith, nat_tests)

stayed : (gone : Bool) (m n : ℕ) → gone ≡ false → m ≡ n → m ≡ n + (if gone then 1 else 0)
stayed gone m n e same = grind (arith, nat_tests)

-- if no object becomes free, no number is renewed
pub renews_none : (p q : Parts) → SameAllocations p q
    → ((n : ℕ) → is_free (content_at (objects_in p) n) ≡ false → is_free (content_at (objects_in q) n) ≡ false) → Renews p q
renews_none p q same stays = grind (arith, nat_tests)

-- if a set of objects in use is freed, its numbers are renewed
pub renews_rescinded : (p q : Parts) (set : List ℕ) → AreGivenUp set p q → objects_in q ≡ rescind set (objects_in p)
    → ((n : ℕ) → is_member set n ≡ true → is_free (content_at (objects_in p) n) ≡ false) → Renews p q
renews_rescinded p q set given objects used = grind (arith, nat_tests, given_or_kept, rescinded_given_up)

-- if an earlier change keeps allocation counts and free numbers, both changes together renew what the later does
pub renews_after : (o p q : Parts) → SameAllocations o p → SameFree o p → Renews p q → Renews o q
renews_after o p q same free renews = grind (arith, nat_tests)

pub renews_then : (o p q : Parts) → Renews o p → SameAllocations p q → SameFree p q → Renews o q
renews_then o p q renews same free = grind (arith, nat_tests)

-- making a new object frees no other
pub new_stays : (os us : List Object) (n b : ℕ) (c : Content Capability) → is_free c ≡ false → us ≡ with_new os n b c
    → (m : ℕ) → is_free (content_at os m) ≡ false → is_free (content_at us m) ≡ false
new_stays os us n b c some is m used = ap (λ (vs : List Object). is_free (content_at vs m)) is ∙ new_used os n b c some m used

-- the item at an index of a list is a member

pub member_at : (ns : List ℕ) (i : ℕ) → i < length ns → is_member ns (slice_index ns i) ≡ true
member_at ns i inside = list_any_at (nat_eq (slice_index ns i)) ns i 0 inside (eq-eqb (slice_index ns i) (slice_index ns i) refl)

pub once_of_differ : (ns : List ℕ) → AllDiffer ns → IsOnce ns
once_of_differ [] differ i inside = absurd (omega arith)
once_of_differ (n ∷ ns) differ zero inside = refl
once_of_differ (n ∷ ns) differ (suc i) inside = search (
  arith,
  nat_tests,
  member_tail,
  member_at,
  once_of_differ ns differ.1 i (omega arith),
)

-- the content of each number after a rescind

module _ (set : List ℕ) (os : List Object) (n : ℕ) where
  went : is_member set n ≡ true → object_at (rescind set os) n ≡ free
  went e = at_rescind set os n ∙ ap (λ (b : Bool). if b then free else without (names_member set) (object_at os n)) e

  kept : is_member set n ≡ false → object_at (rescind set os) n ≡ without (names_member set) (object_at os n)
  kept e = at_rescind set os n ∙ ap (λ (b : Bool). if b then free else without (names_member set) (object_at os n)) e

  pub used_stays : is_free (content_at (rescind set os) n) ≡ false → is_member set n ≡ false
  used_stays used = false_from_ne_true (is_member set n) (λ e. false≢true (sym used ∙ ap (λ (o : Object). is_free o.content) (went e)))

  pub bank_stays : IsTrue (is_bank (content_at (rescind set os) n)) → is_member set n ≡ false
  bank_stays is = false_from_ne_true (is_member set n) (λ e. false≢true (sym (ap (λ (o : Object). is_bank o.content) (went e)) ∙ is))

  root_stays : IsTrue (is_root (content_at (rescind set os) n)) → is_member set n ≡ false
  root_stays is = false_from_ne_true (is_member set n) (λ e. false≢true (sym (ap (λ (o : Object). is_root o.content) (went e)) ∙ is))

  was : is_member set n ≡ false → IsMapped (void_where (names_member set)) (content_at os n) (content_at (rescind set os) n)
  was stays =
      subst (λ (o : Object). IsMapped (void_where (names_member set)) (content_at os n) o.content) (sym (kept stays))
      (without_mapped (names_member set) (object_at os n))

-- The usages of `banks` fall by `count`, and the members of `set` are marked as free.
pub record IsReleased (banks : List ℕ) (count : ℕ) (s t : BanksState) (set : List ℕ) : Type 0 where
  pub usages : IsRaised banks count t.usages s.usages
  pub nodes : length t.free_nodes ≡ length s.free_nodes
  pub pages : length t.free_pages ≡ length s.free_pages
  pub limits : t.limits ≡ s.limits
  pub annexes : t.annexes ≡ s.annexes
  pub room : t.room ≡ s.room
  pub marks : (n : ℕ) → is_marked (marks_of t) n ≡ (if is_member set n then true else is_marked (marks_of s) n)

-- Freeing a set of objects keeps the counts right. The counted objects vs may differ from os, but not in their contents.
pub counted_gone : {g : Geometry} {os : List Object} (vs : List Object) {s t : BanksState} {set banks : List ℕ} {count : ℕ} →
    AreCounted g os s → ((n : ℕ) → content_at vs n ≡ content_at os n) → IsReleased banks count s t set
    → ((x : ℕ) → IsTrue (is_bank (content_at os x)) → is_member set x ≡ false →
    usage (rescind set vs) x + (if is_member banks x then count else 0) ≡ usage os
    x) → AreCounted g (rescind set vs) t
counted_gone {g} {os} vs {s} {t} {set} {banks} {count} counted same released usages =
    counted_from (rescind set vs) t counted (record {
      nodes = released.nodes;
      pages = released.pages;
      usages = sym released.usages.size;
      limits = ap (λ (xs : List ℕ). length xs) released.limits;
      annexes = ap (λ (xs : List ℕ). length xs) released.annexes;
      room = released.room;
    }) (λ n known.
    released.marks n
    ∙ (ap (λ (b : Bool). if is_member set n then true else b) (marks_counted counted n known
    ∙ ap (λ (c : Content Capability). is_free c) (sym (same n)))
    ∙ sym (free_rescinded set vs n))) (λ x is.
    let was = was_bank x is in
    omega (arith, released.usages.each x, counted.usage x was, usages x was (bank_stays set vs x is))) (λ x is.
    ap (λ (xs : List ℕ). slice_index xs x) released.limits
    ∙ (counted.limit x (was_bank x is) ∙ (ap (λ (c : Content Capability). limit_in c) (sym (same x))
    ∙ sym (was set vs x (bank_stays set vs x is)).limit)))
    (λ x is.
    let before = was set vs x (root_stays set vs x is) in
    ap (λ (xs : List ℕ). slice_index xs x) released.annexes
    ∙ (counted.annex x (ap is_root (sym (same x)) ∙ (sym before.root ∙ is)) ∙ (ap annex_in (sym (same x)) ∙ sym before.annex)))
  where
    was_bank : (x : ℕ) → IsTrue (is_bank (content_at (rescind set vs) x)) → IsTrue (is_bank (content_at os x))
    was_bank x is = ap is_bank (sym (same x)) ∙ (sym (was set vs x (bank_stays set vs x is)).bank ∙ is)

-- counts that may still rise by one
module _ {p : Parts} {s : BanksState} {b : ℕ} (asks : MayServe p s b) (n : ℕ) (known : n < length p.headers) where
  pub serve_allocations : (header_at p.headers n).allocations < 2 ^ 64 - 1
  serve_allocations = omega (arith, few_allocations p.geometry asks.sound.0 p asks.sound.1.keepable n known, asks.sound.1.sound.age)

  pub serve_calls : (header_at p.headers n).calls < 2 ^ 64 - 1
  serve_calls = omega (arith, few_calls p.geometry asks.sound.0 p asks.sound.1.keepable n known, asks.sound.1.sound.age)

-- the usage of each bank in the chain of `above` is at least the number of freed objects
pub enough_used : {p : Parts} {s : BanksState} {above : ℕ} {list : List ℕ} → MayServe p s above → MayFree (objects_in p) above list
    → (x : ℕ) → is_member (chain (objects_in p) above) x ≡ true → length list ≤ slice_index s.usages x
enough_used {p} {s} {above} {list} asks gives x member =
    let bank = chain_bank asks x member in
    let all : (if is_member (chain (objects_in p) above) x then length list else 0) ≡ length list = rw member refl in
    omega (arith, asks.counted.usage x bank, gives.lowered x bank (gives.apart x member), all)

-- what the store keeps after a set was freed
module _ {S : Type 0} (parts : S → Parts) (Fetched Announced : S → ℕ → Type 0) (Continues : S → S → Type 0) where
  pub ended_snapshots : (old new : S) (set : List ℕ) → AreGivenUp set (parts old) (parts new) →
      objects_in (parts new) ≡ rescind set (objects_in (parts old)) → ((n : ℕ) → is_member set n ≡ true →
      is_free (content_at (objects_in (parts old)) n) ≡ false)
      → ((n : ℕ) → is_member set n ≡ false → Fetched old n → Fetched new n) →
      ((n : ℕ) → is_member set n ≡ false → Announced old n → Announced new n)
      → Continues old new → KeepsObjects parts Fetched Announced Continues old new
  ended_snapshots old new set given objects used fetched announced continues = grind (arith, nat_tests, renews_rescinded, used_stays)

  pub snapshots_then_ended : (twice : (s t u : S) → Continues s t → Continues t u → Continues s u) (old mid new : S) →
      KeepsRest parts Fetched Announced Continues old mid
      → SameFree (parts old) (parts mid) → KeepsObjects parts Fetched Announced Continues mid new →
      KeepsObjects parts Fetched Announced Continues old new
  snapshots_then_ended twice old mid new a free b = grind (arith, nat_tests)

  pub snapshots_alone : (old new : S) → KeepsRest parts Fetched Announced Continues old new
      → ((n : ℕ) → is_free (content_at (objects_in (parts old)) n) ≡ false → is_free (content_at (objects_in (parts new)) n) ≡ false)
      → KeepsObjects parts Fetched Announced Continues old new
  snapshots_alone old new a stays = grind (arith, nat_tests)

-- the slice that the code takes is the list from index i on
pub rest_is : (xs ys : List ℕ) (i : ℕ) → xs ≡ ys → take (length xs - i) (drop i xs) ≡ drop i ys
rest_is xs ys i same = take_rest xs i ∙ ap (λ (zs : List ℕ). drop i zs) same

pub listed_rest : {xs : List ℕ} {r v : BanksState} (s : BanksState) (i : ℕ) → xs ≡ v.listed → v ≡ r → r ≡ record s { usages = r.usages } →
    take (length xs - i) (drop i xs) ≡ drop i s.listed
listed_rest s i value same kept = rest_is _ s.listed i (value ∙ (ap (λ (k : BanksState). k.listed) same
    ∙ ap (λ (k : BanksState). k.listed) kept))

-- each number in the list has a header
abbrev pub AreKnown : Parts → List ℕ → Type 0
AreKnown p list = All (λ n. n < length p.headers) list

module _ {p : Parts} {s : BanksState} {b : ℕ} (asks : MayServe p s b) (list : List ℕ) (known : AreKnown p list) where
  pub list_allocations : All (λ n. (header_at p.headers n).allocations < 2 ^ 64 - 1) list
  list_allocations k d inside = serve_allocations asks (slice_index_or list k d) (known k d inside)

  pub list_calls : All (λ n. (header_at p.headers n).calls < 2 ^ 64 - 1) list
  list_calls k d inside = serve_calls asks (slice_index_or list k d) (known k d inside)

  pub list_marks : All (λ n. n < length s.free_nodes + length s.free_pages) list
  list_marks k d inside = omega (arith, known k d inside, serve_count asks, asks.counted.nodes, asks.counted.pages)

-- if usages fall and then numbers are marked as free, `IsReleased` holds
pub released_then : {banks : List ℕ} {count : ℕ} {s r v : BanksState} {nodes pages : List Bool} (set : List ℕ) →
    IsRaised banks count r.usages s.usages → r ≡ record s { usages = r.usages } → v ≡ r → length nodes ≡ length v.free_nodes →
    length pages ≡ length v.free_pages
    → ((n : ℕ) → is_marked (nodes ++ pages) n ≡ (if is_member set n then true else is_marked (v.free_nodes ++ v.free_pages) n))
    → IsReleased banks count s (record v { free_nodes = nodes; free_pages = pages }) set
released_then {banks} {count} {s} {r} {v} {nodes} {pages} set raised kept same nodes_same pages_same marks = grind (arith, nat_tests)

-- freeing a list carries out its order
pub ended_carried : {p q : Parts} {s t : BanksState} {above : ℕ} {list : List ℕ} → MayServe p s above → MayFree (objects_in p) above list
    → IsReleased (chain (objects_in p) above) (length list) s t list → objects_in q ≡ rescind list (objects_in p)
    → AreCurrent (frames_of q) → ((age : ℕ) → age + 1 < 2 ^ 64 → AreKeepable p.geometry age (frames_of p) →
    AreKeepable p.geometry (age + 1) (frames_of q))
    → CarriesOut p q t
ended_carried {p} {q} {s} {t} asks gives released objects current keepable = record {
  counted = subst (λ (us : List Object). AreCounted p.geometry us t) (sym objects)
      (counted_gone (objects_in p) asks.counted (λ n. refl) released gives.lowered);
  current = current;
  keepable = keepable;
}

-- if a list has x at index i, the rest after x is the list from i + 1 on

drop_suc : (l : List ℕ) (i x : ℕ) (ys : List ℕ) → drop i l ≡ x ∷ ys → drop (suc i) l ≡ ys
drop_suc [] zero x ys is = cc
drop_suc [] (suc i) x ys is = cc
drop_suc (y ∷ l) zero x ys is = cc
drop_suc (y ∷ l) (suc i) x ys is = drop_suc l i x ys is

pub drop_next : (l : List ℕ) (i x : ℕ) (ys : List ℕ) → drop i l ≡ x ∷ ys → drop (i + 1) l ≡ ys
drop_next l i x ys is = ap (λ (n : ℕ). drop n l) (add-one i) ∙ drop_suc l i x ys is

pub one_all : (P : ℕ → Type 0) (n : ℕ) → P n → All P (n ∷ [])
one_all P n h is d inside = grind (arith, nat_tests)

pub rest_all : (P : ℕ → Type 0) (n : ℕ) (ns : List ℕ) → All P (n ∷ ns) → All P ns
rest_all P n ns all k d inside = all (suc k) d (omega arith)

-- if n is marked as free, the free numbers are n and those that were free before
pub mark_one : (before now : List Bool) (n : ℕ) → n < length before → now ≡ slice_set before n true
    → (m : ℕ) → is_marked now m ≡ (if is_member (n ∷ []) m then true else is_marked before m)
mark_one before now n inside is m = grind (arith, nat_tests, get_or-set_same, member_head, get_or-set_other, member_tail)

-- a bank is in use
pub only_used : (os : List Object) (b : ℕ) → IsTrue (is_bank (content_at os b)) → (n : ℕ) → is_member (b ∷ []) n ≡ true →
    is_free (content_at os n) ≡ false
only_used os b is n member = subst (λ (k : ℕ). is_free (content_at os k) ≡ false) (sym (only_member b n member))
    (used_where is_bank refl (content_at os b) is)

-- the objects that a bank owns are in use
pub owned_used : (os : List Object) (b : ℕ) → All (λ n. is_free (content_at os n) ≡ false) (owned_by os b)
owned_used os b = all_members (λ n. is_free (content_at os n) ≡ false) (owned_by os b) (λ n member. (owned_found os b n member).1)

owned_member : (os : List Object) (b n : ℕ) → n < length os → is_member (owned_by os b) n
    ≡ (not (is_free (content_at os n)) && (owner_at os n == b))
unfolding owned_by
owned_member os b n inside = grind (arith, nat_tests, stands_in, found_in)

pub inherited_by : (os us : List Object) (b : ℕ) → AreTransferred (owned_by os b) (owner_at os b) os us → us ≡ inherited os b
unfolding inherited
inherited_by os us b are =
    let change : Object → Object = transferred b (owner_at os b) in
    ext_get_or free us (inherited os b) (are.size ∙ sym (length-map os (transferred b (owner_at os b)))) (λ n inside.
    are.each n
    ∙ (ap (λ t. if t then record { owner = owner_at os b; content = content_at os n } else object_at os n)
    (owned_member os b n (omega (arith, are.size)))
    ∙ sym (at_map (transferred b (owner_at os b)) os n free refl)))

module _ {p : Parts} {s : BanksState} {b : ℕ} (asks : MayServe p s b) (on : b ≢ 0) where
  abbrev before : List Object
  before = objects_in p

  -- each bank above b has a usage of at least one: b itself
  pub one_enough : (x : ℕ) → is_member (chain before (owner_at before b)) x ≡ true → 1 ≤ slice_index s.usages x
  one_enough x member =
      let t = serve_tree asks in
      let bank = chain_banks before t (owner_at before b) x (owner_bank before t b asks.bank) member in
      let differ : x ≢ b = λ e. grind (arith, nat_tests, chain_once) in
      let all = ap {B = ℕ} (λ t. if t then 1 else 0) member in
      omega (arith, asks.counted.usage x bank, returned_fits p.geometry before b (serve_now asks) asks.bank on x differ, all)

  -- if the bank's objects were transferred and the bank was then freed, the order is carried out (`CarriesOut`)
  pub returned_carried : {q : Parts} {t : BanksState} {us : List Object} → AreTransferred (owned_by before b) (owner_at before b) before us
      → IsReleased (chain before (owner_at before b)) 1 s t (b ∷ []) → objects_in q ≡ rescind (b ∷ []) us → AreCurrent (frames_of q)
      → ((age : ℕ) → age + 1 < 2 ^ 64 → AreKeepable p.geometry age (frames_of p) → AreKeepable p.geometry (age + 1) (frames_of q)) →
      CarriesOut p q t
  returned_carried {q} {t} {us} are released objects current keepable =
      record {
        counted = subst (λ (vs : List Object). AreCounted p.geometry vs t) (sym objects) (counted_gone us asks.counted
            (transferred_same (owned_by before b) (owner_at before b) before us are) released (λ x bank stays.
            let differ : x ≢ b = λ e. false≢true (sym stays ∙ member_head x b [] e) in
            let after : usage (rescind (b ∷ []) us) x ≡ usage (rescind (b ∷ []) (inherited before b)) x = ap
            (λ (vs : List Object). usage (rescind (b ∷ []) vs) x) (inherited_by before us b are) in
            omega (
              arith,
              after,
              usage_returned p.geometry before b (serve_now asks) asks.bank on x differ,
              returned_fits p.geometry before b (serve_now asks) asks.bank on x differ,
            )));
        current = current;
        keepable = keepable;
      }

  -- after the objects were transferred, the counts of the bank may still rise
  module _ (q : Parts) (keepable : (age : ℕ) → AreKeepable p.geometry age (frames_of p) → AreKeepable p.geometry age (frames_of q))
      (known : b < length q.headers) where
    pub transferred_allocations : (header_at q.headers b).allocations < 2 ^ 64 - 1
    transferred_allocations =
        omega (
          arith,
          few_allocations p.geometry asks.sound.0 q (keepable asks.sound.0 asks.sound.1.keepable) b known,
          asks.sound.1.sound.age,
        )

    pub transferred_calls : (header_at q.headers b).calls < 2 ^ 64 - 1
    transferred_calls =
        omega (arith, few_calls p.geometry asks.sound.0 q (keepable asks.sound.0 asks.sound.1.keepable) b known, asks.sound.1.sound.age)
