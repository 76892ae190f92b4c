-- Lists of distinct items, and members of lists of lists.
use Rattle.image_drawer.proofs.Names.{ℕ, inl, inr, List, [], map, sym, subst, Contains, flat_map, Contains-append_cases, Contains-append_left}
use Rattle.image_drawer.proofs.Names.{Contains-append_right, AreDistinct, contains_cases, contains_here, contains_map, contains_none, contains_there, IsOnce}
use Rattle.std.proofs.Common.{◌≡◌, ◌∷◌, ◌++◌, ◌∙◌}

-- an item of joined lists is in one of them
pub contains_flat : {X Y : Type 0} (f : X → List Y) (y : Y) (xs : List X) → Contains (flat_map f xs) y →
    (x : X) × Contains xs x × Contains (f x) y
contains_flat f y [] h = absurd (contains_none y h)
contains_flat f y (x ∷ xs) h = elim (Contains-append_cases (f x) (flat_map f xs) y h) [
  | inl here ↦ (x, contains_here x xs, here)
  | inr there ↦ let found = contains_flat f y xs there in (found.0, contains_there found.0 x xs found.1, found.2)
]

pub flat_contains : {X Y : Type 0} (f : X → List Y) (x : X) (y : Y) (xs : List X) → Contains xs x → Contains (f x) y →
    Contains (flat_map f xs) y
flat_contains f x y [] h k = absurd (contains_none x h)
flat_contains {X} {Y} f x y (z ∷ xs) h k = elim (contains_cases x z xs h) [
  | inl is ↦ Contains-append_left (f z) (flat_map f xs) y (subst (λ (v : X). Contains (f v) y) (sym is) k)
  | inr there ↦ Contains-append_right (f z) (flat_map f xs) y (flat_contains f x y xs there k)
]

-- if two lists of distinct items have no common item, their join has distinct items
pub once_append : {X : Type 0} (xs ys : List X) → IsOnce xs → IsOnce ys → ((x : X) → Contains xs x → Contains ys x → ⊥) → IsOnce (xs ++ ys)
once_append [] ys a b apart = b
once_append (x ∷ xs) ys a b apart = (
  λ h. elim (Contains-append_cases xs ys x h) [ inl here ↦ a.0 here | inr there ↦ apart x (contains_here x xs) there ],
  once_append xs ys a.1 b (λ z one two. apart z (contains_there z x xs one) two),
)

-- if lists of distinct items have different keys, their join has distinct items
pub once_flat : {X Y : Type 0} (f : X → List Y) (key : Y → ℕ) (index : X → ℕ) (xs : List X) → IsOnce (map index xs)
    → ((x : X) → Contains xs x → IsOnce (f x)) → ((x : X) (y : Y) → Contains (f x) y → key y ≡ index x) → IsOnce (flat_map f xs)
once_flat f key index [] distinct once keyed = tt
once_flat f key index (x ∷ xs) distinct once keyed = once_append (f x) _ (once x (contains_here x xs))
    (once_flat f key index xs distinct.1 (λ z there. once z (contains_there z x xs there)) keyed) (λ y one two.
    let found = contains_flat f y xs two in
    distinct.0 (subst (Contains (map index xs)) (sym (keyed found.0 y found.2) ∙ keyed x y one) (contains_map index _ xs found.1)))

pub once_distinct : (ns : List ℕ) → AreDistinct ns → IsOnce ns
once_distinct [] distinct = tt
once_distinct (n ∷ ns) distinct = (distinct.0, once_distinct ns distinct.1)
