-- Words with numbers, one after another.
use Rattle.std.proofs.Common.{◌≡◌, ◌++◌, ◌∷◌, ◌∙◌, ℕ, Bool, true, false, List, [], ap, append_assoc, append-nil, refl, subst, sym}
use Rattle.names.specs.Numbered.{IfUnknown, after_word, are_known, is_known, numbered_word, numbered_words}
use Rattle.names.specs.declared.name.Name.{Name}
use Rattle.names.specs.declared.numbering.Place.{Place}
use Rattle.names.specs.declared.numbering.Unnumbered.{Unnumbered}
use Rattle.names.specs.declared.numbering.Unnumbered.TheVariants as fault

module _ (names : List Name) (at : Place) (ws rest : List (List ℕ)) (w : List ℕ) (is : ws ≡ w ∷ rest) where
  -- a word and a space were added
  pub numbered_more : (next : Place) (line with_word with_space all : List ℕ) → next ≡ after_word at w →
      with_word ≡ line ++ numbered_word names at w → with_space ≡ with_word ++ 32 ∷ [] → line ++ numbered_words names at ws ≡ all →
      with_space ++ numbered_words names next rest ≡ all
  numbered_more next line with_word with_space all after word space so_far =
      ap (λ (p : Place). with_space ++ numbered_words names p rest) after
      ∙ ap (λ (l : List ℕ). l ++ numbered_words names (after_word at w) rest) (space ∙ ap (λ (l : List ℕ). l ++ 32 ∷ []) word)
      ∙ append_assoc (line ++ numbered_word names at w) (32 ∷ []) (numbered_words names (after_word at w) rest)
      ∙ append_assoc line (numbered_word names at w) (32 ∷ numbered_words names (after_word at w) rest)
      ∙ ap (λ (x : List (List ℕ)). line ++ numbered_words names at x) (sym is) ∙ so_far

  pub known_more : (next : Place) (all : Bool) → next ≡ after_word at w → is_known names at w ≡ true → all ≡ are_known names at ws →
      all ≡ are_known names next rest
  known_more next all after known so_far =
      let here : are_known names at (w ∷ rest) ≡ are_known names (after_word at w) rest = rw known refl in
      so_far ∙ ap (are_known names at) is ∙ here ∙ ap (λ (p : Place). are_known names p rest) (sym after)

  -- a word is a name that isn't known
  pub unknown_here : (all : Bool) → is_known names at w ≡ false → all ≡ are_known names at ws → all ≡ false
  unknown_here all unknown so_far =
      let here : are_known names at (w ∷ rest) ≡ false = rw unknown refl in
      so_far ∙ ap (are_known names at) is ∙ here

  pub unknown_told : (all : Bool) (e : Unnumbered) → IfUnknown e (λ u. (u ≡ w) × (is_known names at w ≡ false)) →
      all ≡ are_known names at ws → IfUnknown e (λ u. all ≡ false)
  unknown_told all fault.NoMemory told so_far = tt
  unknown_told all (fault.Unknown word) told so_far = unknown_here all told.1 so_far

-- memory ran out
pub memory_told : (e : Unnumbered) (P : List ℕ → Type 0) → e ≡ fault.NoMemory → IfUnknown e P
memory_told e P is = subst (λ (x : Unnumbered). IfUnknown x P) (sym is) tt

-- no word is left
pub all_numbered : (names : List Name) (at : Place) (ws : List (List ℕ)) (line all : List ℕ) → ws ≡ [] →
    line ++ numbered_words names at ws ≡ all → line ≡ all
all_numbered names at ws line all none so_far =
    sym (append-nil line) ∙ ap (λ (x : List (List ℕ)). line ++ numbered_words names at x) (sym none) ∙ so_far

pub all_known : (names : List Name) (at : Place) (ws : List (List ℕ)) (all : Bool) → ws ≡ [] → all ≡ are_known names at ws →
    all ≡ true
all_known names at ws all none so_far = so_far ∙ ap (are_known names at) none
