-- Lists of distinct numbers, and writing values at them.
use Rattle.description.proofs.Names.{ℕ, zero, suc, inl, inr, List, [], map, length, replicate, Some, slice_get, drop, slice_index_or, slice_set, refl, sym, ap}
use Rattle.description.proofs.Names.{subst, arith, All, Contains, cases_eq, nat_tests, get_or-set_same, get_or-set_other, length-set, drop_all, drop_more}
use Rattle.description.proofs.Names.{All-head, All-set, All-tail, Contains-get_or, AreDistinct, first_named, set_each, Contains-append_left}
use Rattle.description.proofs.Names.{Contains-append_right}
use Rattle.std.proofs.Common.{◌≡◌, ◌≢◌, ◌⊎◌, ◌+◌, ◌<◌, ◌≤◌, ◌∷◌, ◌++◌, ◌∙◌}

pub contains_here : {X : Type 0} → (x : X) (xs : List X) → Contains (x ∷ xs) x
contains_here x xs = (0, omega arith, refl)

pub contains_there : {X : Type 0} → (x y : X) (xs : List X) → Contains xs x → Contains (y ∷ xs) x
contains_there x y xs h = (suc h.0, omega (arith, h.1), h.2)

pub contains_cases : {X : Type 0} → (x y : X) (xs : List X) → Contains (y ∷ xs) x → (y ≡ x) ⊎ Contains xs x
contains_cases x y xs h = search (arith, h.0, h.1, h.2)

pub contains_none : {X : Type 0} → (x : X) → Contains [] x → ⊥
contains_none x h = omega (arith, h.1)

-- a list contains a number or doesn't
pub contains_either : (ns : List ℕ) (n : ℕ) → Contains ns n ⊎ (Contains ns n → ⊥)
contains_either [] n = inr (contains_none n)
contains_either (m ∷ ns) n = elim (cases_eq m n) [
  | inl e ↦ inl (subst (Contains (m ∷ ns)) e (contains_here m ns))
  | inr differ ↦ elim (contains_either ns n) [
    | inl h ↦ inl (contains_there n m ns h)
    | inr none ↦ inr (λ h. elim (contains_cases n m ns h) [ inl e ↦ differ e | inr r ↦ none r ])
  ]
]

-- if a list contains x, the mapped list contains the image of x
pub contains_map : {X Y : Type 0} → (f : X → Y) (x : X) (xs : List X) → Contains xs x → Contains (map f xs) (f x)
contains_map f x [] h = search (arith, contains_none, contains_cases, contains_here, contains_there)
contains_map f x (y ∷ xs) h = search (arith, contains_none, contains_cases, contains_here, contains_there, contains_map f x xs)

pub map_contains : {X Y : Type 0} → (f : X → Y) (y : Y) (xs : List X) → Contains (map f xs) y → (x : X) × Contains xs x × (f x ≡ y)
map_contains f y [] h = search (arith, contains_none, contains_cases, contains_here, contains_there)
map_contains f y (x ∷ xs) h = search (arith, contains_none, contains_cases, contains_here, contains_there, map_contains f y xs)

module _ {E V : Type 0} (index : E → ℕ) (value : E → V) where
  pub first_there : (default : V) (e : E) (es : List E) (i : ℕ) → index e ≡ i → first_named index value default (e ∷ es) i ≡ value e
  first_there default e es i is = grind (arith, nat_tests)

  pub first_beyond : (default : V) (e : E) (es : List E) (i : ℕ) → index e ≢ i →
      first_named index value default (e ∷ es) i ≡ first_named index value default es i
  first_beyond default e es i differ = grind (arith, nat_tests)

  -- if no entry has this index, the value is the default
  pub first_none : (default : V) (es : List E) (i : ℕ) → (Contains (map index es) i → ⊥) → first_named index value default es i ≡ default
  first_none default [] i none = refl
  first_none default (e ∷ es) i none =
      grind (
        arith,
        nat_tests,
        first_none default es i (λ h. none (contains_there i (index e) (map index es) h)),
        contains_here,
        first_beyond,
        contains_there,
      )

  -- if no index occurs twice, the value at an entry's index is the entry's
  pub first_of : (default : V) (es : List E) (e : E) → AreDistinct (map index es) → Contains es e →
      first_named index value default es (index e) ≡ value e
  first_of default [] e distinct h = absurd (contains_none e h)
  first_of default (f ∷ es) e distinct h = elim (contains_cases e f es h) [
    | inl is ↦ first_there default f es (index e) (ap index is) ∙ ap value is
    | inr r ↦
        let there : Contains (map index es) (index e) = contains_map index e es r in
        first_beyond default f es (index e) (λ same. distinct.0 (subst (Contains (map index es)) (sym same) there))
        ∙ first_of default es e distinct.1 r
  ]

  pub length_each : (es : List E) (xs : List V) → length (set_each index value es xs) ≡ length xs
  length_each [] xs = refl
  length_each (e ∷ es) xs = length_each es (slice_set xs (index e) (value e)) ∙ length-set xs (index e) (value e)

  -- if no entry has this index, its value stays
  pub each_other : (es : List E) (xs : List V) (i : ℕ) (d : V) → (Contains (map index es) i → ⊥) →
      slice_index_or (set_each index value es xs) i d ≡ slice_index_or xs i d
  each_other [] xs i d none = refl
  each_other (e ∷ es) xs i d none = each_other es _ i d (λ h. none (contains_there i _ _ h))
      ∙ get_or-set_other xs _ i _ d (λ is. none (subst (Contains (map index (e ∷ es))) (sym is) (contains_here _ _)))

  -- the value at an index is that of its entry, or else the old one
  pub each_at : (es : List E) (xs : List V) (i : ℕ) (d : V) → AreDistinct (map index es) → All (λ e. index e < length xs) es
      → slice_index_or (set_each index value es xs) i d ≡ first_named index value (slice_index_or xs i d) es i
  each_at [] xs i d distinct within = refl
  each_at (e ∷ es) xs i d distinct within =
      let next : List V = slice_set xs (index e) (value e) in
      let size : length next ≡ length xs = length-set xs (index e) (value e) in
      let lt : index e < length xs = All-head (λ e. index e < length xs) e es within in
      let rest : All (λ e. index e < length next) es = λ k f inside. rw size (All-tail (λ e. index e < length xs) e es within k f inside) in
      elim (cases_eq (index e) i) [
        | inl is ↦ each_other es next i d (λ h. distinct.0 (rw is h))
            ∙ ap (λ j. slice_index_or next j d) (sym is) ∙ get_or-set_same xs (index e) (value e) d lt
            ∙ sym (first_there (slice_index_or xs i d) e es i is)
        | inr differ ↦ each_at es next i d distinct.1 rest
            ∙ ap (λ v. first_named index value v es i) (get_or-set_other xs (index e) i (value e) d (λ is. differ (sym is)))
            ∙ sym (first_beyond (slice_index_or xs i d) e es i differ)
      ]

  pub each_append : (es fs : List E) (xs : List V) → set_each index value (es ++ fs) xs
      ≡ set_each index value fs (set_each index value es xs)
  each_append [] fs xs = refl
  each_append (e ∷ es) fs xs = each_append es fs (slice_set xs (index e) (value e))

-- mapping the entries' values maps the value found
pub first_map : {E V W : Type 0} → (index : E → ℕ) (value : E → V) (f : V → W) (default : V) (es : List E) (i : ℕ)
    → first_named index (λ e. f (value e)) (f default) es i ≡ f (first_named index value default es i)
first_map index value f default [] i = refl
first_map index value f default (e ∷ es) i = grind (arith, nat_tests, first_map index value f default es i, first_there, first_beyond)

module _ {E V : Type 0} (index : E → ℕ) (value : E → V) where
  -- after the last entry all values are written
  pub each_done : (es : List E) (now all : List V) (i : ℕ) → length es ≤ i → set_each index value (drop i es) now ≡ all → now ≡ all
  each_done es now all i done was = sym (ap (λ fs. set_each index value fs now) (drop_all i es done)) ∙ was

  -- if P holds of all old values and of all written ones, it holds of all values
  pub each_holds : (P : V → Type 0) (es : List E) (xs : List V) → All P xs → All (λ e. P (value e)) es → All P (set_each index value es xs)
  each_holds P [] xs old new = old
  each_holds P (e ∷ es) xs old new = each_holds P es _ (All-set P xs _ _ (All-head (λ f. P (value f)) e es new) old)
      (All-tail (λ f. P (value f)) e es new)

module _ {E : Type 0} (index : E → ℕ) where
  -- if no index occurs twice, entries with the same index are equal
  pub same_entry : (es : List E) (e f : E) → AreDistinct (map index es) → Contains es e → Contains es f → index e ≡ index f → e ≡ f
  same_entry [] e f distinct he hf same = absurd (contains_none e he)
  same_entry (x ∷ es) e f distinct he hf same = elim (contains_cases e x es he) [
    | inl is ↦ elim (contains_cases f x es hf) [
      | inl also ↦ sym is ∙ also
      | inr r ↦ absurd (distinct.0 (subst (Contains (map index es)) (sym same ∙ sym (ap index is)) (contains_map index f es r)))
    ]
    | inr r ↦ elim (contains_cases f x es hf) [
      | inl also ↦ absurd (distinct.0 (subst (Contains (map index es)) (same ∙ sym (ap index also)) (contains_map index e es r)))
      | inr q ↦ same_entry es e f distinct.1 r q same
    ]
  ]

-- writing the first i entries and then the next writes the first i + 1
pub each_wrote : {E V : Type 0} → (index : E → ℕ) (value : E → V) (es : List E) (now next all : List V) (i : ℕ) (d : E) (v : V) →
    i < length es → next ≡ slice_set now (index (slice_index_or es i d)) v → v ≡ value (slice_index_or es i d)
    → set_each index value (drop i es) now ≡ all → set_each index value (drop (i + 1) es) next ≡ all
each_wrote index value es now next all i d v lt made is was =
    ap (set_each index value (drop (i + 1) es)) (made ∙ ap (slice_set now (index (slice_index_or es i d))) is) ∙ (search (arith, drop_more))

-- after all writes, the value at each entry's index is the entry's
pub each_of : {E V : Type 0} → (index : E → ℕ) (value : E → V) (es : List E) (xs : List V) (e : E) (d : V) → AreDistinct (map index es)
    → All (λ f. index f < length xs) es → Contains es e → slice_index_or (set_each index value es xs) (index e) d ≡ value e
each_of index value es xs e d distinct within there = each_at index value es xs _ d distinct within
    ∙ first_of index value _ es e distinct there

-- if P holds of each member of a list, it holds at each index
pub all_from : {X : Type 0} → (P : X → Type 0) (xs : List X) → ((x : X) → Contains xs x → P x) → All P xs
all_from P xs each k d lt = each (slice_index_or xs k d) (Contains-get_or xs k d lt)

pub all_got : {X : Type 0} → (P : X → Type 0) (xs : List X) (i : ℕ) (x : X) → All P xs → slice_get xs i ≡ Some x → P x
all_got P [] i x all is = absurd cc
all_got P (y ∷ ys) zero x all is = let same : y ≡ x = cc in subst P same (All-head P y ys all)
all_got P (y ∷ ys) (suc i) x all is = all_got P ys i x (All-tail P y ys all) is

pub map_both : {X Y : Type 0} → (f : X → Y) (xs ys : List X) → map f (xs ++ ys) ≡ map f xs ++ map f ys
map_both f [] ys = refl
map_both f (x ∷ xs) ys = ap (λ zs. f x ∷ zs) (map_both f xs ys)

pub map_again : {X Y Z : Type 0} → (f : Y → Z) (g : X → Y) (xs : List X) → map f (map g xs) ≡ map (λ x. f (g x)) xs
map_again f g [] = refl
map_again f g (x ∷ xs) = ap (λ zs. f (g x) ∷ zs) (map_again f g xs)

-- a list of copies of x has x at each index
pub same_at : {X : Type 0} → (n i : ℕ) (x : X) → slice_index_or (replicate n x) i x ≡ x
same_at (suc n) (suc i) x = same_at n i x
same_at n i x = refl

-- if a list of numbers is distinct, so is each part of it
pub distinct_left : (ns ms : List ℕ) → AreDistinct (ns ++ ms) → AreDistinct ns
distinct_left [] ms distinct = tt
distinct_left (n ∷ ns) ms distinct = (λ h. distinct.0 (Contains-append_left ns ms n h), distinct_left ns ms distinct.1)

pub distinct_right : (ns ms : List ℕ) → AreDistinct (ns ++ ms) → AreDistinct ms
distinct_right [] ms distinct = distinct
distinct_right (n ∷ ns) ms distinct = distinct_right ns ms distinct.1

pub distinct_apart : (ns ms : List ℕ) → AreDistinct (ns ++ ms) → (n : ℕ) → Contains ns n → Contains ms n → ⊥
distinct_apart [] ms distinct n one two = contains_none n one
distinct_apart (k ∷ ns) ms distinct n one two = grind (
  arith,
  nat_tests,
  distinct_apart ns ms distinct.1 n,
  contains_cases,
  Contains-append_right,
)
