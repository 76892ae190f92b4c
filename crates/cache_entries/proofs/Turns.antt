-- Using numbers one after another, at once or through a log.
use Rattle.cache_entries.proofs.Names.{nat_tests, Uses, AreSpread, inl, inr, ℕ, nat_eq, Bool, true, false, true≢false, List, [], length, take, drop, get_or}
use Rattle.cache_entries.proofs.Names.{Some, refl, sym, ap, subst, arith, slice_get, take_more, cases_eq, is_member, AllDiffer, OrderState, used_in_turn}
use Rattle.cache_entries.proofs.Names.{used_last, without, keys_of, length-append, promoted, IsFilled, used_all, used_longest_ago, at_drop_more, none-some}
use Rattle.cache_entries.proofs.Names.{same_Some, suc}
use Rattle.std.proofs.Common.{◌≡◌, ◌≢◌, ◌+◌, ◌-◌, ◌∷◌, ◌++◌, ◌<◌, ◌∙◌}
use Rattle.cache_entries.proofs.Orders.{used_keys, unused_keys, differ_without, gone, length_without, member_head, member_tail, still, in_tail, either_of}
use Rattle.cache_entries.proofs.Orders.{not_here, member_end, without_here, without_tail}

-- using a number of a list doesn't change the list's members
pub member_used : (n : ℕ) (ns : List ℕ) (m : ℕ) → is_member ns n ≡ true → is_member (n ∷ without n ns) m ≡ is_member ns m
member_used n ns m is = grind (arith, nat_tests, member_head, member_tail, still)

pub member_in_turn : (ns order : List ℕ) (m : ℕ) → ((k : ℕ) → is_member ns k ≡ true → is_member order k ≡ true) →
    is_member (used_in_turn ns order) m ≡ is_member order m
member_in_turn [] order m listed = refl
member_in_turn (n ∷ ns) order m listed =
    let here = listed n (member_head n n ns refl) in
    member_in_turn ns (n ∷ without n order) m (λ k is. member_used n order k here ∙ listed k (in_tail n ns k is))
    ∙ member_used n order m here

pub length_in_turn : (ns order : List ℕ) → ((k : ℕ) → is_member ns k ≡ true → is_member order k ≡ true) →
    length (used_in_turn ns order) ≡ length order
length_in_turn [] order listed = refl
length_in_turn (n ∷ ns) order listed =
    let here = listed n (member_head n n ns refl) in
    let rest = length_in_turn ns (n ∷ without n order) (λ k is. member_used n order k here ∙ listed k (in_tail n ns k is)) in
    omega (arith, rest, length_without n order here)

-- ---- the order

pub without_absent : (n : ℕ) (ns : List ℕ) → is_member ns n ≡ false → without n ns ≡ ns
without_absent n [] none = refl
without_absent n (m ∷ ms) none =
    let apart = not_here m ms n none in
    without_tail n m ms apart.0 ∙ ap (λ (rest : List ℕ). m ∷ rest) (without_absent n ms apart.1)

-- removing two numbers in either order gives the same list
without_both : (n m : ℕ) (ns : List ℕ) → n ≢ m → without n (without m ns) ≡ without m (without n ns)
without_both n m [] other = refl
without_both n m (k ∷ ks) other = grind (arith, nat_tests, without_tail, without_here, without_both n m ks other)

-- using the numbers ns and then n puts n first
pub used_at_end : (ns : List ℕ) (n : ℕ) (order : List ℕ) → used_in_turn (ns ++ n ∷ []) order ≡ n ∷ without n (used_in_turn ns order)
used_at_end [] n order = refl
used_at_end (m ∷ ms) n order = used_at_end ms n (m ∷ without m order)

-- using other numbers doesn't move this one: it can be removed before or after
pub without_in_turn : (n : ℕ) (ns order : List ℕ) → is_member ns n ≡ false →
    without n (used_in_turn ns order) ≡ used_in_turn ns (without n order)
without_in_turn n [] order none = refl
without_in_turn n (m ∷ ms) order none =
    let apart = not_here m ms n none in
    without_in_turn n ms (m ∷ without m order) apart.1
    ∙ ap (used_in_turn ms) (without_tail n m (without m order) apart.0 ∙ ap (λ (rest : List ℕ). m ∷ rest) (without_both n m order apart.0))

-- ---- numbers that are used again

-- uses in turn don't depend on an earlier use of a number that is used again later
used_later : (n : ℕ) (ns xs ys : List ℕ) → is_member ns n ≡ true → without n xs ≡ without n ys → used_in_turn ns xs ≡ used_in_turn ns ys
used_later n [] xs ys is same = absurd (true≢false (sym is))
used_later n (m ∷ ms) xs ys is same = elim (cases_eq n m) [
  | inl here ↦ ap (λ (rest : List ℕ). used_in_turn ms (m ∷ rest)) (subst (λ (k : ℕ). without k xs ≡ without k ys) here same)
  | inr other ↦ used_later n ms (m ∷ without m xs) (m ∷ without m ys) (sym (member_tail n m ms (λ there. other (sym there))) ∙ is)
      (without_tail n m (without m xs) other
      ∙ ap (λ (rest : List ℕ). m ∷ rest) (without_both n m xs other ∙ ap (without m) same ∙ sym (without_both n m ys other))
      ∙ sym (without_tail n m (without m ys) other))
]

-- if all numbers are used again in turn, their earlier uses don't matter
pub used_anew : (ns ps order : List ℕ) → ((k : ℕ) → is_member ps k ≡ true → is_member ns k ≡ true) →
    used_in_turn ns (used_in_turn ps order) ≡ used_in_turn ns order
used_anew ns [] order listed = refl
used_anew ns (p ∷ ps) order listed =
    used_anew ns ps (p ∷ without p order) (λ k is. listed k (in_tail p ps k is))
    ∙ used_later p ns (p ∷ without p order) order (listed p (member_head p p ps refl)) (without_here p p (without p order) refl)

pub all_at_end : (ns : List ℕ) (n : ℕ) (s : OrderState) → used_all (ns ++ n ∷ []) s ≡ used_last n (used_all ns s)
all_at_end [] n s = refl
all_at_end (m ∷ ms) n s = all_at_end ms n (used_last m s)

-- if the first i numbers were used, and then the next, the first i + 1 were used
pub one_more : (s t : List ℕ) (ns : List ℕ) (i : ℕ) → i < length ns → t ≡ used_in_turn (take i ns) s →
    get_or ns i 0 ∷ without (get_or ns i 0) t ≡ used_in_turn (take (i + 1) ns) s
one_more s t ns i below is = cc (used_at_end (take i ns) (get_or ns i 0) s, take_more ns i 0 below)

pub listed_more : (s t : List ℕ) (ns : List ℕ) (i : ℕ) → i < length ns → t ≡ used_in_turn (take i ns) s →
    is_member t (get_or ns i 0) ≡ true → ((n : ℕ) → is_member (take i ns) n ≡ true → is_member s n ≡ true) → (n : ℕ) →
    is_member (take (i + 1) ns) n ≡ true → is_member s n ≡ true
listed_more s t ns i below is here listed n has =
    grind (
      arith,
      nat_tests,
      take_more ns i 0 below,
      member_end (take i ns) (get_or ns i 0) n,
      member_in_turn (take i ns) s (get_or ns i 0) listed,
    )

pub differ_end : (ns : List ℕ) (n : ℕ) → AllDiffer ns → is_member ns n ≡ false → AllDiffer (ns ++ n ∷ [])
differ_end [] n once none = (refl, tt)
differ_end (m ∷ ms) n once none =
    let apart = not_here m ms n none in
    (member_end ms n m ∙ member_tail m n ms apart.0 ∙ once.0, differ_end ms n once.1 apart.1)

-- ---- a log

-- if a number is used again later, its earlier use doesn't matter
pub used_again : (n : ℕ) (ns : List ℕ) (o : OrderState) → is_member ns n ≡ true → used_all ns (used_last n o) ≡ used_all ns o
used_again n ns o later =
    ap (λ (xs : List ℕ). let p : OrderState = record { numbers = xs; places = o.places; most = o.most } in p)
    (used_later n ns (n ∷ without n o.numbers) o.numbers later (without_here n n (without n o.numbers) refl))

-- the uses of a log from index i on are the use at i, and then the rest
pub settles : (uses : List ℕ) (i : ℕ) (o : OrderState) → i < length uses →
    used_all (drop i uses) o ≡ used_all (drop (i + 1) uses) (used_last (get_or uses i 0) o)
settles uses i o below = at_drop_more (λ (us : List ℕ). used_all us o) uses i 0 below

-- a use can be left out if the log has a later use of the same number
pub left_out : (uses : List ℕ) (i : ℕ) (o : OrderState) → i < length uses → is_member (drop (i + 1) uses) (get_or uses i 0) ≡ true →
    used_all (drop i uses) o ≡ used_all (drop (i + 1) uses) o
left_out uses i o below later = settles uses i o below ∙ used_again (get_or uses i 0) (drop (i + 1) uses) o later

-- a new number that is used after all those of the log comes first in the order
pub new_last : (uses order : List ℕ) (n : ℕ) → is_member uses n ≡ false → used_in_turn (uses ++ n ∷ []) (n ∷ order)
    ≡ n ∷ used_in_turn uses order
new_last uses order n none =
    used_at_end uses n (n ∷ order)
    ∙ ap (λ (rest : List ℕ). n ∷ rest) (without_in_turn n uses (n ∷ order) none ∙ ap (used_in_turn uses) (without_here n n order refl))

-- the number used longest ago stays the same if another number is added in front
last_behind : (m : ℕ) (ns : List ℕ) (n : ℕ) → used_longest_ago ns ≡ Some n → used_longest_ago (m ∷ ns) ≡ Some n
last_behind m [] n last = absurd (none-some n last)
last_behind m (k ∷ ks) n last =
    let more : length (m ∷ k ∷ ks) - 1 ≡ suc (length (k ∷ ks) - 1) = omega arith in
    ap (slice_get (m ∷ k ∷ ks)) more ∙ last

last_without : (m : ℕ) (ns : List ℕ) (n : ℕ) → n ≢ m → used_longest_ago ns ≡ Some n → used_longest_ago (without m ns) ≡ Some n
last_without m [] n other last = absurd (none-some n last)
last_without m (k ∷ []) n other last =
    let same : k ≡ n = same_Some k n last in
    ap used_longest_ago (without_tail m k [] (λ is. other (sym same ∙ sym is))) ∙ last
last_without m (k ∷ l ∷ ks) n other last =
    let fewer : length (k ∷ l ∷ ks) - 1 ≡ suc (length (l ∷ ks) - 1) = omega arith in
    let behind : used_longest_ago (l ∷ ks) ≡ Some n = sym (ap (slice_get (k ∷ l ∷ ks)) fewer) ∙ last in
    elim (cases_eq m k) [
      | inl same ↦ ap used_longest_ago (without_here m k (l ∷ ks) same) ∙ behind
      | inr apart ↦ ap used_longest_ago (without_tail m k (l ∷ ks) apart)
          ∙ last_behind k (without m (l ∷ ks)) n (last_without m (l ∷ ks) n other behind)
    ]

pub last_in_turn : (ns order : List ℕ) (n : ℕ) → is_member ns n ≡ false → used_longest_ago order ≡ Some n →
    used_longest_ago (used_in_turn ns order) ≡ Some n
last_in_turn [] order n none last = last
last_in_turn (m ∷ ms) order n none last =
    let apart = not_here m ms n none in
    last_in_turn ms (m ∷ without m order) n apart.1 (last_behind m (without m order) n (last_without m order n apart.0 last))

pub listed_end : (uses order : List ℕ) (n : ℕ) → ((m : ℕ) → is_member uses m ≡ true → is_member order m ≡ true) → is_member order n ≡ true →
    (m : ℕ) → is_member (uses ++ n ∷ []) m ≡ true → is_member order m ≡ true
listed_end uses order n listed here m has = grind (arith, nat_tests, either_of, member_end)

-- ---- an order with places

pub spread_used : (s : OrderState) (n : ℕ) → is_member s.numbers n ≡ true → AreSpread s → AreSpread (used_last n s)
spread_used s n here are = grind (arith, nat_tests, member_used, gone, differ_without, length_without)

pub spread_in_turn : (ns : List ℕ) (s : OrderState) → ((n : ℕ) → is_member ns n ≡ true → is_member s.numbers n ≡ true) → AreSpread s →
    AreSpread (used_all ns s)
spread_in_turn [] s listed are = are
spread_in_turn (n ∷ ns) s listed are =
    let here = listed n (member_head n n ns refl) in
    spread_in_turn ns (used_last n s) (λ k is. member_used n s.numbers k here ∙ listed k (in_tail n ns k is)) (spread_used s n here are)

pub spread_uses : (s t : OrderState) (ns : List ℕ) (said : Bool) → Uses s t ns said → AreSpread s → AreSpread t
spread_uses s t ns said uses are = subst AreSpread (sym uses.used) (spread_in_turn (take uses.count ns) s uses.listed are)

-- ---- all places, after one was used

module _ {keys : List ℕ} {count : ℕ} (are : IsFilled keys count) (p : ℕ) (has : is_member keys p ≡ true) where
  pub filled_front : IsFilled (p ∷ without p keys) count
  filled_front = grind (arith, nat_tests, gone, differ_without, length_without, member_used)

  pub filled_back : IsFilled (without p keys ++ p ∷ []) count
  filled_back = grind (arith, nat_tests, differ_end, differ_without, gone, length-append, length_without, member_end, member_used)

pub filled_used : (p : ℕ) (es : List (ℕ × Unit {0})) {count : ℕ} → IsFilled (keys_of es) count →
    IsFilled (keys_of (promoted (nat_eq p) es)) count
filled_used p es {count} are = go (is_member (keys_of es) p) refl
  where
    go : (t : Bool) → is_member (keys_of es) p ≡ t → IsFilled (keys_of (promoted (nat_eq p) es)) count
    go true here = rw (used_keys p es here) (filled_front are p here)
    go false none = rw (unused_keys p es none) are
