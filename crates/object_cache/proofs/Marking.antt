-- Marking a list of numbers: the marks afterwards, and their count.
use Rattle.object_cache.proofs.Names.{ℕ, Bool, true, false, List, [], length, set, take, refl, ap, sym, arith, set-get_or, touching, touched_count, eqb, get_or}
use Rattle.object_cache.proofs.Names.{eqb-true, eqb-false, take_more, sum_by-set, list_any, length-set, cases_eq, cases_lt, count_by, get_or-replicate}
use Rattle.object_cache.proofs.Names.{get_or_past, length-replicate, replicate, set_past, inl, inr}
use Rattle.std.proofs.Common.{◌≡◌, ◌+◌, ◌<◌, ◌≤◌, ◌||◌, ◌∷◌, ◌++◌, ◌∙◌, get_or-set_same, get_or-set_other}

pub length-touching : (t : List Bool) (ns : List ℕ) → length (touching t ns) ≡ length t
length-touching t [] = refl
length-touching t (n ∷ ns) = length-touching (set t n true) ns ∙ length-set t n true

touching-append : (t : List Bool) (ms ns : List ℕ) → touching t (ms ++ ns) ≡ touching (touching t ms) ns
touching-append t [] ns = refl
touching-append t (m ∷ ms) ns = touching-append (set t m true) ms ns

-- an item that is set to its default is the default
pub set_there : {X : Type 0} (xs : List X) (n : ℕ) (d : X) → get_or (set xs n d) n d ≡ d
set_there {X} xs n d = search (arith, cases_lt, get_or-set_same, get_or_past, length-set)

pub alike : {X : Type 0} (n k : ℕ) (d : X) → get_or (replicate n d) k d ≡ d
alike {X} n k d = search (arith, cases_lt, get_or-replicate, get_or_past, length-replicate)

pub marked_within : (t : List Bool) (n : ℕ) → get_or t n false ≡ true → n < length t
marked_within t n marked = search (arith, cases_lt, get_or_past)

-- removing a mark lowers the count
pub one_fewer : (t : List Bool) (n : ℕ) → get_or t n false ≡ true → count_by (λ b. b) (set t n false) < count_by (λ b. b) t
one_fewer t n marked = search (arith, sum_by-set, marked_within)

-- setting a new mark raises the count by one
pub touched_count-set : (t : List Bool) (n : ℕ) → n < length t → get_or t n false ≡ false →
    touched_count (set t n true) ≡ touched_count t + 1
touched_count-set t n inside unmarked = search (arith, sum_by-set)

-- setting a mark again changes nothing
pub set-marked : (t : List Bool) (n : ℕ) → get_or t n false ≡ true → set t n true ≡ t
set-marked t n marked = ap (λ b. set t n b) (sym marked) ∙ set-get_or t n false

-- marking a number raises the count by at most one
one_more_by : (t : List Bool) (n : ℕ) (b : Bool) → get_or t n false ≡ b → n < length t → touched_count (set t n true) ≤ touched_count t + 1
one_more_by t n true is inside = omega (arith, ap touched_count (set-marked t n is))
one_more_by t n false is inside = omega (arith, touched_count-set t n inside is)

one_more_past : (t : List Bool) (n : ℕ) → length t ≤ n → touched_count (set t n true) ≤ touched_count t + 1
one_more_past t n past = omega (arith, ap touched_count (set_past t n true past))

one_more_at_most : (t : List Bool) (n : ℕ) → touched_count (set t n true) ≤ touched_count t + 1
one_more_at_most t n = elim (cases_lt n (length t)) [
  | inl inside ↦ one_more_by t n (get_or t n false) refl inside
  | inr past ↦ one_more_past t n past
]

pub at_most_the_length : (t : List Bool) (ns : List ℕ) → touched_count (touching t ns) ≤ touched_count t + length ns
at_most_the_length t [] = omega arith
at_most_the_length t (n ∷ ns) = let rest = at_most_the_length (set t n true) ns in let one = one_more_at_most t n in
    omega (arith, rest, one)

-- a number that is marked stays marked
pub still_set : (t : List Bool) (m n : ℕ) → get_or t n false ≡ true → get_or (set t m true) n false ≡ true
still_set t m n marked = search (arith, cases_eq, get_or-set_same, marked_within, get_or-set_other)

pub still_marked : (t : List Bool) (ns : List ℕ) (n : ℕ) → get_or t n false ≡ true → get_or (touching t ns) n false ≡ true
still_marked t [] n marked = marked
still_marked t (m ∷ ns) n marked = still_marked (set t m true) ns n (still_set t m n marked)

-- a number in the list is marked afterwards
first_listed : (t : List Bool) (m : ℕ) (ns : List ℕ) (n : ℕ) (b : Bool) → eqb m n ≡ b → n < length t →
    (list_any (λ y. eqb y n) ns ≡ true → get_or (touching (set t m true) ns) n false ≡ true) →
    (b || list_any (λ y. eqb y n) ns) ≡ true → get_or (touching (set t m true) ns) n false ≡ true
first_listed t m ns n b same inside later listed = search (arith, still_marked, eqb-true, get_or-set_same)

listed_marked : (t : List Bool) (ns : List ℕ) (n : ℕ) → n < length t → list_any (λ y. eqb y n) ns ≡ true →
    get_or (touching t ns) n false ≡ true
listed_marked t [] n inside listed = cc
listed_marked t (m ∷ ns) n inside listed = first_listed t m ns n (eqb m n) refl inside
    (listed_marked (set t m true) ns n (rw length-set inside)) listed

-- a number that is neither marked nor in the list isn't marked afterwards
first_unlisted : (t : List Bool) (m : ℕ) (ns : List ℕ) (n : ℕ) (b : Bool) → eqb m n ≡ b → get_or t n false ≡ false →
    (get_or (set t m true) n false ≡ false → list_any (λ y. eqb y n) ns ≡ false → get_or (touching (set t m true) ns) n false ≡ false) →
    (b || list_any (λ y. eqb y n) ns) ≡ false → get_or (touching (set t m true) ns) n false ≡ false
first_unlisted t m ns n b same unmarked later unlisted = search (arith, get_or-set_other, eqb-false)

unlisted_unmarked : (t : List Bool) (ns : List ℕ) (n : ℕ) → get_or t n false ≡ false → list_any (λ y. eqb y n) ns ≡ false →
    get_or (touching t ns) n false ≡ false
unlisted_unmarked t [] n unmarked unlisted = unmarked
unlisted_unmarked t (m ∷ ns) n unmarked unlisted = first_unlisted t m ns n (eqb m n) refl unmarked (unlisted_unmarked (set t m true) ns n)
    unlisted

-- the next number of a list raises the count by one, unless it is marked or was listed before
pub touched_count_new : (t : List Bool) (ns : List ℕ) (i : ℕ) → i < length ns → get_or ns i 0 < length t →
    get_or t (get_or ns i 0) false ≡ false → list_any (λ y. eqb y (get_or ns i 0)) (take i ns) ≡ false →
    touched_count (touching t (take (i + 1) ns)) ≡ touched_count (touching t (take i ns)) + 1
touched_count_new t ns i inside known unmarked unlisted =
    rw (take_more ns i 0 inside, touching-append t (take i ns) (get_or ns i 0 ∷ []))
    (touched_count-set (touching t (take i ns)) (get_or ns i 0) (rw length-touching known)
    (unlisted_unmarked t (take i ns) (get_or ns i 0) unmarked unlisted))

pub touched_count_listed : (t : List Bool) (ns : List ℕ) (i : ℕ) → i < length ns → get_or ns i 0 < length t →
    list_any (λ y. eqb y (get_or ns i 0)) (take i ns) ≡ true →
    touched_count (touching t (take (i + 1) ns)) ≡ touched_count (touching t (take i ns))
touched_count_listed t ns i inside known listed =
    rw (take_more ns i 0 inside, touching-append t (take i ns) (get_or ns i 0 ∷ []))
    (ap touched_count (set-marked (touching t (take i ns)) (get_or ns i 0) (listed_marked t (take i ns) (get_or ns i 0) known listed)))

pub touched_count_marked : (t : List Bool) (ns : List ℕ) (i : ℕ) → i < length ns → get_or ns i 0 < length t →
    get_or t (get_or ns i 0) false ≡ true →
    touched_count (touching t (take (i + 1) ns)) ≡ touched_count (touching t (take i ns))
touched_count_marked t ns i inside known marked =
    rw (take_more ns i 0 inside, touching-append t (take i ns) (get_or ns i 0 ∷ []))
    (ap touched_count (set-marked (touching t (take i ns)) (get_or ns i 0) (still_marked t (take i ns) (get_or ns i 0) marked)))

-- marking the first i + 1 numbers is marking the first i and then the next
pub touching_more : (t : List Bool) (ns : List ℕ) (i : ℕ) → i < length ns →
    touching t (take (i + 1) ns) ≡ set (touching t (take i ns)) (get_or ns i 0) true
touching_more t ns i inside = rw (take_more ns i 0 inside, touching-append t (take i ns) (get_or ns i 0 ∷ [])) refl
