-- Searching level after level.
use Rattle.reach.proofs.Names.{ℕ, Bool, zero, suc, true, false, Option, None, Some, List, [], length, replicate, inl, inr, ⊎_elim, sym, subst, arith, Contains}
use Rattle.reach.proofs.Names.{cases_lt, nat_tests, get_or_default, length-replicate, Object, Found, Levels, Step, Begins, FindsBy, IsAfter, IsAt, IsFirst}
use Rattle.reach.proofs.Names.{IsFoundBy, IsFoundIn, IsFrom, IsFromLevel, IsSearched, found_at, has_level, missing, slice_index_or, cases_eq, get_or-set_other}
use Rattle.reach.proofs.Names.{get_or-set_same, is_marked, is_member, slice_set, take, Links, links, Purpose}
use Rattle.std.proofs.Common.{◌≢◌, ◌==◌, ◌||◌, ◌≡◌, ◌+◌, ◌<◌, ◌≤◌, ◌∷◌, ◌∙◌}
use Rattle.reach.proofs.Finding.{finds_both, finds_same, missing_most}

level_of : (o : Option Found) (f : Found) (k : ℕ) → o ≡ Some f → f.level ≡ k → has_level o k ≡ true
level_of o f k is at = grind (arith, nat_tests)

-- the numbers below i at this level have been followed
module _ (os : List Object) (follows : Links) (start now : Levels) (level i : ℕ)
    (first : FindsBy (IsFromLevel os follows start level i) (level + 1) start now) where
  at_once : (n : ℕ) → IsAt now n level → IsAt start n level
  at_once n at = ⊎_elim (λ before. (at.0, before, at.2)) (λ found. absurd (omega (arith, found.at, at.2))) (first.each n at.0 at.1)

  pub level_next : (new : Levels) → has_level (found_at now i) level ≡ true → FindsBy (IsFrom os follows i) (level + 1) now new →
      FindsBy (IsFromLevel os follows start level (i + 1)) (level + 1) start new
  level_next new test next = finds_both (IsFromLevel os follows start level i) (IsFrom os follows i)
      (IsFromLevel os follows start level (i + 1)) (level + 1) start now new
      (λ s from. (from.0, omega (arith, from.1), from.2)) (λ s from. (rw from.0 (at_once i (search arith)), omega (arith, from.0), from.1))
      (λ s from. elim (cases_lt s.from i) [
        | inl below ↦ inl (from.0, below, from.2)
        | inr past ↦ inr (omega (arith, past, from.1), from.2)
      ]) first next

  pub level_skip : has_level (found_at now i) level ≡ false → FindsBy (IsFromLevel os follows start level (i + 1)) (level + 1) start now
  level_skip test = finds_same (IsFromLevel os follows start level i) (IsFromLevel os follows start level (i + 1)) _ start now
      (λ s from. (from.0, omega (arith, from.1), from.2)) (λ s from. elim (cases_lt s.from i) [
        | inl below ↦ (from.0, below, from.2)
        | inr past ↦ grind (arith, nat_tests, level_of)
      ]) first

-- the first i of the starts are found, at level 0
pub record Begun (os : List Object) (starts : List ℕ) (i : ℕ) (l : Levels) : Type 0 where
  pub count : length l.found.items ≡ length os
  pub begun : (k d : ℕ) → k < i → IsFoundIn l (slice_index_or starts k d) 0
  pub first : (n : ℕ) (f : Found) → found_at l n ≡ Some f → IsFirst n f × Contains starts n
  pub greatest : l.greatest ≡ 0
  pub work : missing l.found.items ≤ length os

none_found : (count n : ℕ) (f : Found) → slice_index_or (replicate count None) n None ≡ Some f → ⊥
none_found (suc c) (suc n) f is = none_found c n f is
none_found count n f is = absurd (cc)

pub begun_none : (os : List Object) (starts : List ℕ) (count : ℕ) (l : Levels) → l.found.items ≡ replicate count None → count ≡ length os →
    l.greatest ≡ 0 → Begun os starts 0 l
begun_none os starts count l is same greatest = grind (arith, nat_tests, none_found, missing_most, length-replicate)

pub begun_next : (os : List Object) (starts : List ℕ) (i : ℕ) (old new : Levels) → Begun os starts i old →
    Begins (slice_index_or starts i 0) old new → i < length starts → Begun os starts (i + 1) new
begun_next os starts i old new begun begins lt = record {
  count = begins.count ∙ begun.count;
  begun = λ k d below. elim (cases_lt k i) [
    | inl before ↦ let found = begun.begun k d before in (found.0, begins.kept (slice_index_or starts k d) found.0 found.1, found.2)
    | inr past ↦
        let here : i ≡ k = omega (arith, past, below) in
        subst (λ (j : ℕ). IsFoundIn new (slice_index_or starts j d) 0) here
        (subst (λ (n : ℕ). IsFoundIn new n 0) (get_or_default starts i 0 d lt) found_now)
  ];
  first = first_now;
  greatest = begins.greatest ∙ begun.greatest;
  work = omega (arith, begins.work, begun.work);
}
  where
    contained : (n : ℕ) → n ≡ slice_index_or starts i 0 → Contains starts n
    contained n is = (i, lt, get_or_default starts i n 0 lt ∙ sym is)

    first_now : (n : ℕ) (f : Found) → found_at new n ≡ Some f → IsFirst n f × Contains starts n
    first_now n f is = ⊎_elim (λ before. begun.first n f before) (λ now. (now.1, contained n now.0)) (begins.each n f is)

    found_now : IsFoundIn new (slice_index_or starts i 0) 0
    found_now = grind (arith, nat_tests, first_now)

pub searched_first : (os : List Object) (follows : Links) (starts : List ℕ) (i : ℕ) (l : Levels) → Begun os starts i l → length starts ≤ i →
    IsSearched os follows starts 0 l
searched_first os follows starts i l begun whole = grind (arith, nat_tests)

-- a number that was found is below the length
found_below : (xs : List (Option Found)) (n : ℕ) (f : Found) → slice_index_or xs n None ≡ Some f → n < length xs
found_below [] n f is = absurd (cc)
found_below (x ∷ xs) zero f is = omega arith
found_below (x ∷ xs) (suc n) f is = let later : n < length xs = found_below xs n f is in omega (arith, later)

-- the parameters: one more level was followed
module _ (os : List Object) (follows : Links) (starts : List ℕ) (level : ℕ) (old new : Levels)
    (searched : IsSearched os follows starts level old)
    (finds : FindsBy (IsFromLevel os follows old level (length os)) (level + 1) old new) where
  kept_in : (n k : ℕ) → IsFoundIn old n k → IsFoundIn new n k
  kept_in n k found = (found.0, finds.kept n found.0 found.1, found.2)

  after_before : (n : ℕ) (f : Found) → IsAfter os follows old n f → IsAfter os follows new n f
  after_before n f after = grind (arith, nat_tests)

  after_now : (n : ℕ) (f : Found) → IsFoundBy (IsFromLevel os follows old level (length os)) (level + 1) n f → IsAfter os follows new n f
  after_now n f found = grind (arith, nat_tests)

  deepest_now : (n : ℕ) (f : Found) → found_at new n ≡ Some f → f.level ≤ level + 1
  deepest_now n f is = ⊎_elim (λ before. omega (arith, searched.deepest n f before)) (λ now. omega (arith, now.at)) (finds.each n f is)

  continues_here : (n : ℕ) (f : Found) → found_at old n ≡ Some f → f.level ≡ level → (s : Step) → IsFrom os follows n s →
      IsFoundIn new s.to (f.level + 1)
  continues_here n f is at s from = grind (arith, nat_tests, found_below, deepest_now)

  continues_now : (n : ℕ) (f : Found) → found_at new n ≡ Some f → f.level < level + 1 → (s : Step) → IsFrom os follows n s →
      IsFoundIn new s.to (f.level + 1)
  continues_now n f is lt s from = ⊎_elim (λ before. elim (cases_lt f.level level) [
    | inl below ↦ kept_in s.to _ (searched.continues n f before below s from)
    | inr past ↦ continues_here n f before (omega (arith, past, lt)) s from
  ]) (λ now. absurd (omega (arith, now.at, lt))) (finds.each n f is)

  pub searched_next : IsSearched os follows starts (level + 1) new
  searched_next = grind (arith, nat_tests, kept_in, after_before, after_now, continues_now, deepest_now)

-- ---- the set of a list of numbers

marked_more : (marks : List Bool) (x n : ℕ) → x < length marks → is_marked (slice_set marks x true) n ≡ (is_marked marks n || (n == x))
marked_more marks x n lt = elim (cases_eq n x) [
  | inl same ↦ rw same (get_or-set_same marks x true false lt ∙ sym (or_same (is_marked marks x) x))
  | inr other ↦ get_or-set_other marks x n true false other ∙ sym (or_other (is_marked marks n) n x other)
]
  where
    or_same : (b : Bool) (x : ℕ) → (b || (x == x)) ≡ true
    or_same b x = grind (arith, nat_tests)

    or_other : (b : Bool) (n x : ℕ) → n ≢ x → (b || (n == x)) ≡ b
    or_other b n x other = grind (arith, nat_tests)

-- the set of the first `at` numbers of a list
pub record IsSetOf (numbers : List ℕ) (at total : ℕ) (set : List Bool) : Type 0 where
  pub count : length set ≡ total
  pub each : (n : ℕ) → is_marked set n ≡ is_member (take at numbers) n

-- if the marked numbers are the trusted ones, a search that doesn't follow marked numbers is the search without the trusted ones
pub searched_without : (os : List Object) (p : Purpose) (trusted starts : List ℕ) (marks : List Bool) (level : ℕ) (l : Levels)
    → ((n : ℕ) → is_marked marks n ≡ is_member trusted n) → IsSearched os (links p (is_marked marks)) starts level l
    → IsSearched os (links p (is_member trusted)) starts level l
searched_without os p trusted starts marks level l same is =
    let sets : is_marked marks ≡ is_member trusted = λ k n. same n k in
    subst (λ (t : ℕ → Bool). IsSearched os (links p t) starts level l) sets is
