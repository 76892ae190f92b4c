-- Writing the texts of items, one after the other.
use Rattle.image_drawer.proofs.Names.{nat_tests, arith, ℕ, List, [], Result, Err, codes, decimal, length, get_or, take, drop, refl, sym, ap, subst, Written}
use Rattle.image_drawer.proofs.Names.{append_assoc, append-nil, add-one, flat_map, Wrote, wrote_trans, flat_map-append, take-append-drop, take_all, take-suc}
use Rattle.image_drawer.proofs.Names.{spaced, RunFault, Writes, text_fails, writes_after, writes_fail, writes_same, box_line, next_line}
use Rattle.std.proofs.Common.{◌≡◌, ◌+◌, ◌<◌, ◌≤◌, ◌∷◌, ◌++◌, ◌∙◌}

-- mapping lists of lists in two steps or in one gives the same text
pub flat_map-flat_map : {A B C : Type 0} (f : B → List C) (h : A → List B) (xs : List A) →
    flat_map f (flat_map h xs) ≡ flat_map (λ x. flat_map f (h x)) xs
flat_map-flat_map f h [] = refl
flat_map-flat_map {A} {B} {C} f h (x ∷ xs) = flat_map-append f (h x) (flat_map h xs)
    ∙ ap (λ (l : List C). flat_map f (h x) ++ l) (flat_map-flat_map f h xs)

module _ {A : Type 0} (text : A → List ℕ) (xs : List A) where
  texts_more : (i : ℕ) (d : A) → i < length xs → flat_map text (take (i + 1) xs) ≡ flat_map text (take i xs) ++ text (get_or xs i d)
  texts_more i d lt =
      let front : take (i + 1) xs ≡ take i xs ++ (get_or xs i d ∷ []) = rw add-one (take-suc xs i d lt) in
      ap (λ (l : List A). flat_map text l) front
      ∙ flat_map-append text (take i xs) (get_or xs i d ∷ [])
      ∙ ap (λ (l : List ℕ). flat_map text (take i xs) ++ l) (append-nil (text (get_or xs i d)))

  texts_split : (i : ℕ) (d : A) → i < length xs → flat_map text xs ≡ (flat_map text (take i xs) ++ text (get_or xs i d)) ++ flat_map text
      (drop (i + 1) xs)
  texts_split i d lt = ap (λ (l : List A). flat_map text l) (sym (take-append-drop _ xs))
      ∙ flat_map-append text (take (i + 1) xs) (drop (i + 1) xs)
      ∙ ap (λ (l : List ℕ). l ++ flat_map text (drop (i + 1) xs)) (texts_more i d lt)

  -- if writing item i failed, writing all items failed
  pub place_fails : (a b c : Written) (e : RunFault) (i : ℕ) (d : A) (whole : List ℕ) → whole ≡ flat_map text xs → i < length xs
      → Wrote a b (flat_map text (take i xs)) → Writes b c (Err e) (text (get_or xs i d)) → Writes a c (Err e) whole
  place_fails a b c e i d whole is lt before one = writes_fail a b c e _ _ _ whole (is ∙ texts_split i d lt) before one

  pub item_fails : (a b c : Written) (e : RunFault) (i : ℕ) (x : A) (whole : List ℕ) → whole ≡ flat_map text xs → i < length xs →
      x ≡ get_or xs i x → Wrote a b (flat_map text (take i xs)) → Writes b c (Err e) (text x) → Writes a c (Err e) whole
  item_fails a b c e i x whole is lt here before one = place_fails a b c e i x whole is lt before
      (subst (λ (y : A). Writes b c (Err e) (text y)) here one)

  -- if the first i items are all items, all are written
  pub all_written : (a b : Written) (i : ℕ) (whole : List ℕ) → whole ≡ flat_map text xs → length xs ≤ i →
      Wrote a b (flat_map text (take i xs)) → Wrote a b whole
  all_written a b i whole is le before = subst (Wrote a b) (ap (λ (l : List A). flat_map text l) (take_all i xs le) ∙ sym is) before

-- if writing the first text failed, writing both failed
pub fails_before : (a b : Written) (e : RunFault) (first second : List ℕ) → Writes a b (Err e) first → Writes a b (Err e) (first ++ second)
fails_before a b e first second w = text_fails a b e first second (first ++ second) refl w

pub fails_after : (a b c : Written) (e : RunFault) (first second : List ℕ) → Wrote a b first → Writes b c (Err e) second →
    Writes a c (Err e) (first ++ second)
fails_after a b c e first second one w = writes_after a b c (Err e) first second one w

-- The parameters: four texts that are written one after another.
module _ (A B C D whole : List ℕ) (is : whole ≡ ((A ++ B) ++ C) ++ D) (a b : Written) where
  pub first_fails : (e : RunFault) → Writes a b (Err e) A → Writes a b (Err e) whole
  first_fails e w = text_fails a b e ((A ++ B) ++ C) D whole is (fails_before a b e (A ++ B) C (fails_before a b e A B w))

  pub second_fails : (c : Written) (e : RunFault) → Wrote a b A → Writes b c (Err e) B → Writes a c (Err e) whole
  second_fails c e one w = text_fails a c e ((A ++ B) ++ C) D whole is (fails_before a c e (A ++ B) C
      (writes_after a b c (Err e) A B one w))

  pub third_fails : (c d : Written) (e : RunFault) → Wrote a b A → Wrote b c B → Writes c d (Err e) C → Writes a d (Err e) whole
  third_fails c d e one two w = text_fails a d e ((A ++ B) ++ C) D whole is
      (writes_after a c d (Err e) (A ++ B) C (wrote_trans a b c A B one two) w)

  pub fourth_written : (c d f : Written) (r : Result (Unit {0}) RunFault) → Wrote a b A → Wrote b c B → Wrote c d C → Writes d f r D →
      Writes a f r whole
  fourth_written c d f r one two three w = writes_same a f r _ whole (sym is)
      (writes_after a d f r _ D (wrote_trans a c d _ C (wrote_trans a b c A B one two) three) w)

-- writing two texts, or three, one after the other writes their join
pub two_written : (a b c : Written) (r : Result (Unit {0}) RunFault) (A B whole : List ℕ) → whole ≡ A ++ B → Wrote a b A → Writes b c r B →
    Writes a c r whole
two_written a b c r A B whole is one w = writes_same a c r (A ++ B) whole (sym is) (writes_after a b c r A B one w)

pub three_written : (a b c d : Written) (r : Result (Unit {0}) RunFault) (A B C whole : List ℕ) → whole ≡ (A ++ B) ++ C → Wrote a b A →
    Wrote b c B → Writes c d r C → Writes a d r whole
three_written a b c d r A B C whole is one two w = two_written a c d r (A ++ B) C whole is (wrote_trans a b c A B one two) w

pub flat_map-four : {A B : Type 0} (f : A → List B) (ps qs rs ss : List A) →
    flat_map f (ps ++ qs ++ rs ++ ss) ≡ flat_map f ps ++ flat_map f qs ++ flat_map f rs ++ flat_map f ss
flat_map-four {A} {B} f ps qs rs ss =
    flat_map-append f (ps ++ qs ++ rs) ss
    ∙ ap (λ (l : List B). l ++ flat_map f ss) (flat_map-append f (ps ++ qs) rs)
    ∙ ap (λ (l : List B). (l ++ flat_map f rs) ++ flat_map f ss) (flat_map-append f ps qs)

-- the line of an arrow, assembled as the code does it
pub arrow_put : (holder target : ℕ) (place kind style : List ℕ)
    → (((((((decimal holder ++ 32 ∷ codes "->") ++ 32 ∷ decimal target) ++ 32 ∷ codes "[label=\"") ++ place) ++ kind) ++ codes "\"") ++
    style) ++ codes "]"
    ≡ spaced (decimal holder ∷ codes "->" ∷ decimal target ∷ (codes "[label=\"" ++ place ++ kind ++ codes "\"" ++ style ++ codes "]") ∷ [])
arrow_put holder target place kind style = grind (arith, nat_tests, append_assoc)

pub process_put : (root annex key : ℕ) (state : List ℕ)
    → (((((((decimal root ++ 32 ∷ codes
    "[label=\"process") ++ 32 ∷ decimal root) ++ 32 ∷ codes "annex") ++ 32 ∷ decimal annex) ++ codes "\\n") ++ state) ++ 32
    ∷ codes "key") ++ 32 ∷ decimal key
    ≡ spaced (decimal root ∷
    (codes "[label=\"" ++ spaced (codes "process" ∷ decimal root ∷ codes "annex" ∷ decimal annex ∷ []) ++ next_line
    (spaced (state ∷ codes "key" ∷ decimal key ∷ []))) ∷ [])
process_put root annex key state = grind (arith, nat_tests, append_assoc)

pub cluster_put : (owner number : ℕ)
    → (((((codes "subgraph cluster_" ++ decimal owner) ++ 32 ∷ codes "{ label=\"bank") ++ 32 ∷ decimal owner) ++ codes "\"") ++ 32 ∷ decimal
    number) ++ 32 ∷
    codes "}"
    ≡ spaced ((codes "subgraph cluster_" ++ decimal owner) ∷ codes "{" ∷ codes "label=\"bank" ∷ (decimal owner ++ codes "\"") ∷ decimal
    number ∷ codes "}" ∷ [])
cluster_put owner number = simp append_assoc

-- a box's line is the join of three pieces
pub box_pieces : (number : ℕ) (first more shape : List ℕ)
    → box_line number (first ++ more) shape ≡
    (spaced (decimal number ∷ (codes "[label=\"" ++ first) ∷ []) ++ more) ++ (codes "\" shape=" ++ shape ++ codes "]\n")
box_pieces number first more shape = simp append_assoc
