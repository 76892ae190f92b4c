-- Words that are put one after another.
use Rattle.std.proofs.Common.{◌≡◌, ◌++◌, ◌∷◌, ◌∙◌, ℕ, List, [], ap, append_assoc, append-nil, subst, sym}
use Rattle.std.proofs.lemmas.List.{map-append}
use Rattle.std.proofs.lemmas.List.Elements.{All-tail}
use Rattle.std.specs.Borrow.{Bor}
use Rattle.std.specs.List.{All}
use Rattle.std.specs.Str.{IsUtf8}
use Rattle.command_line.specs.Arguments.{texts_of}

-- a word was added
pub word_pushed : (old new : List (Bor (List ℕ))) (x : Bor (List ℕ)) (w : List ℕ) → new ≡ old ++ x ∷ [] → x.now ≡ w →
    texts_of new ≡ texts_of old ++ w ∷ []
word_pushed old new x w is same =
    ap texts_of is ∙ map-append (λ (s : Bor (List ℕ)). s.now) old (x ∷ []) ∙ ap (λ (t : List ℕ). texts_of old ++ t ∷ []) same

-- the next of some words was added
pub one_more : (old new all ws rest : List (List ℕ)) (w : List ℕ) → ws ≡ w ∷ rest → new ≡ old ++ w ∷ [] → old ++ ws ≡ all →
    new ++ rest ≡ all
one_more old new all ws rest w is pushed so_far =
    ap (λ (l : List (List ℕ)). l ++ rest) pushed ∙ append_assoc old (w ∷ []) rest
    ∙ ap (λ (l : List (List ℕ)). old ++ l) (sym is) ∙ so_far

-- no word is left
pub none_left : (old all ws : List (List ℕ)) → ws ≡ [] → old ++ ws ≡ all → old ≡ all
none_left old all ws none so_far = sym (append-nil old) ∙ ap (λ (l : List (List ℕ)). old ++ l) (sym none) ∙ so_far

-- of words that are texts, the others are texts too
pub other_texts : (ws rest : List (List ℕ)) (w : List ℕ) → ws ≡ w ∷ rest → All IsUtf8 ws → All IsUtf8 rest
other_texts ws rest w is texts = All-tail IsUtf8 w rest (subst (All IsUtf8) is texts)
