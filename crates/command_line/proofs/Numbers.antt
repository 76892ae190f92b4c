-- Reading words as numbers, one after the other.
use Rattle.command_line.proofs.Names.{ap, ap₂, sym, subst, ℕ, List, [], length, take, map, get_or, Bor, All, get_or-map, length-map, map-append, take_more}
use Rattle.command_line.proofs.Names.{All-get_or, All-more, IsUnsignedIn, Text, IsNumber, number_of, texts_of, greatest_number}
use Rattle.std.proofs.Common.{◌≡◌, ◌∙◌, ◌<◌, ◌+◌, ◌∷◌, ◌++◌}

-- the value for a missing word
abbrev pub no_word : Bor Text
no_word = record { ref_ptr = (0, 0); now = [] }

-- the first i words are these numbers
abbrev pub NumbersBefore : List (Bor Text) → ℕ → List ℕ → Type 0
NumbersBefore words i numbers = (numbers ≡ map number_of (take i (texts_of words)))
    × All (IsUnsignedIn 0 greatest_number) (take i (texts_of words))

module _ (words : List (Bor Text)) (i : ℕ) (d : Bor Text) (lt : i < length words) where
  abbrev word : Bor Text
  word = get_or words i d

  text_here : get_or (texts_of words) i word.now ≡ word.now
  text_here = get_or-map (λ (w : Bor Text). w.now) words i d word.now lt

  within : i < length (texts_of words)
  within = subst (λ n. i < n) (sym (length-map words (λ (w : Bor Text). w.now))) lt

  pub numbers_next : (numbers : List ℕ) (n : ℕ) → NumbersBefore words i numbers → IsNumber 0 greatest_number word.now n →
      NumbersBefore words (i + 1) (numbers ++ n ∷ [])
  numbers_next numbers n before is = (
    ap₂ (λ (a : List ℕ) (b : ℕ). a ++ b ∷ []) before.0 (is.1 ∙ ap number_of (sym text_here))
        ∙ sym (ap (map number_of) (take_more (texts_of words) i word.now within) ∙
        map-append number_of (take i (texts_of words)) (get_or (texts_of words) i word.now ∷ [])),
    All-more (IsUnsignedIn 0 greatest_number) (texts_of words) i word.now within before.1
        (subst (IsUnsignedIn 0 greatest_number) (sym text_here) is.0),
  )

  pub numbers_bad : (IsUnsignedIn 0 greatest_number word.now → ⊥) → All (IsUnsignedIn 0 greatest_number) (texts_of words) → ⊥
  numbers_bad bad all = bad (subst (IsUnsignedIn 0 greatest_number) text_here
      (All-get_or (IsUnsignedIn 0 greatest_number) _ i _ within all))
