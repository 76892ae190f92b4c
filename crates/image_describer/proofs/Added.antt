-- Writing lines one after the other.
use Rattle.image_describer.proofs.Names.{nat_tests, arith, ℕ, List, [], Some, append-nil, append_assoc, sym, ap, Field, begin_line, field_line, field_lines}
use Rattle.image_describer.proofs.Names.{flat_map, join_by, length, list_unless_empty}
use Rattle.std.proofs.Common.{◌≡◌, ◌∷◌, ◌++◌, ◌∙◌}

-- these fields were written after a text, each as a line
abbrev pub Adds : List ℕ → List Field → List ℕ → Type 0
Adds old [] new = new ≡ old
Adds old (f ∷ fs) new = (mid : List ℕ) × (mid ≡ old ++ field_line f) × Adds mid fs new

added : (old new : List ℕ) (fs : List Field) → Adds old fs new → new ≡ old ++ field_lines fs
added old new [] adds = adds ∙ sym (append-nil old)
added old new (f ∷ fs) adds = grind (arith, nat_tests, added adds.0 new fs adds.2, append_assoc)

-- if an object's first line and then its fields were written, its lines were
pub object_added : (old begun new name : List ℕ) (fs : List Field) → begun ≡ old ++ begin_line name → Adds begun fs new →
    new ≡ old ++ (begin_line name ++ field_lines fs)
object_added old begun new name fs header adds = added begun new fs adds ∙ ap (λ (text : List ℕ). text ++ field_lines fs) header
    ∙ append_assoc old _ _

-- if an equal list was written at a key, this list was
pub same_list : {A : Type 0} (old new key : List ℕ) (f : A → List ℕ) (xs ys : List A) →
    new ≡ old ++ field_line (key, list_unless_empty f xs) → xs ≡ ys → new ≡ old ++ field_line (key, list_unless_empty f ys)
same_list {A = A} old new key f xs ys made is = made ∙ ap (λ (zs : List A). old ++ field_line (key, list_unless_empty f zs)) is

pub same_value : {A : Type 0} (old new key : List ℕ) (f : A → List ℕ) (x y : A) → new ≡ old ++ field_line (key, Some (f x)) → y ≡ x →
    new ≡ old ++ field_line (key, Some (f y))
same_value {A = A} old new key f x y made is = made ∙ ap (λ (z : A). old ++ field_line (key, Some (f z))) (sym is)

-- if the list is empty, nothing is appended
pub joined_none : {A : Type 0} (f : A → List ℕ) (sep old : List ℕ) (xs : List A) → length xs ≡ 0 → old ≡ old ++ join_by f sep xs
joined_none f sep old [] none = sym (append-nil old)
joined_none f sep old (x ∷ xs) none = absurd (omega (arith, none))

pub joined_more : {A : Type 0} (f : A → List ℕ) (sep old mid new : List ℕ) (x : A) (xs others : List A) → xs ≡ x ∷ others →
    mid ≡ old ++ f x → new ≡ mid ++ flat_map (λ y. sep ++ f y) others → new ≡ old ++ join_by f sep xs
joined_more f sep old mid new x xs others is one rest =
    rw is (rest ∙ ap (λ (text : List ℕ). text ++ flat_map (λ y. sep ++ f y) others) one
    ∙ append_assoc old (f x) (flat_map (λ y. sep ++ f y) others))
