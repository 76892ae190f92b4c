-- Adding names to a text, byte by byte.
use Rattle.std.proofs.Common.{◌≡◌, ◌+◌, ◌<◌, ◌≤◌, ◌∷◌, ◌++◌, ◌∙◌, ℕ, List, [], ap, drop, get_or, length, sym, take}
use Rattle.std.proofs.lemmas.List.{append_assoc}
use Rattle.std.specs.Borrow.{Bor}
use Rattle.names.specs.Texts.{behind, byte_and_name, named_text}
use Rattle.names.specs.declared.name.Name.{Name}
use Rattle.script.proofs.NumberedLines.{lines_all, lines_before, lines_more}

module _ (kinds : List (Bor (List ℕ))) (names : List Name) (text : List ℕ) where
  pub named_more : (out pushed new before after : List ℕ) (i d : ℕ) → i < length text →
      out ≡ lines_before (byte_and_name kinds names text) text i → pushed ≡ out ++ get_or text i d ∷ [] → before ≡ take (i + 1) text →
      after ≡ drop (i + 1) text → new ≡ pushed ++ behind kinds names before after →
      new ≡ lines_before (byte_and_name kinds names text) text (i + 1)
  named_more out pushed new before after i d lt so_far push front back more =
      let label = behind kinds names (take (i + 1) text) (drop (i + 1) text) in
      more
      ∙ ap (λ (b : List ℕ). pushed ++ behind kinds names b after) front
      ∙ ap (λ (a : List ℕ). pushed ++ behind kinds names (take (i + 1) text) a) back
      ∙ ap (λ (l : List ℕ). l ++ label) push
      ∙ append_assoc out (get_or text i d ∷ []) label
      ∙ ap (λ (l : List ℕ). l ++ get_or text i d ∷ label) so_far
      ∙ sym (lines_more (byte_and_name kinds names text) text i d lt)

  pub named_all : (out : List ℕ) (i : ℕ) → length text ≤ i → out ≡ lines_before (byte_and_name kinds names text) text i →
      out ≡ named_text kinds names text
  unfolding named_text
  named_all out i le so_far = so_far ∙ lines_all (byte_and_name kinds names text) text i le
