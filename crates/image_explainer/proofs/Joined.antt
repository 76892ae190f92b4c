-- Assembling the text of a fault piece by piece.
use Rattle.image_explainer.proofs.Names.{arith, ℕ, List, append_assoc, nat_tests, codes, decimal, BadImage, ImageFault, reason_of, fault_text, reason_number}
use Rattle.image_explainer.proofs.Names.{place_text}
use Rattle.std.proofs.Common.{◌≡◌, ◌∷◌, ◌++◌}

module _ (l a b m n : List ℕ) (first : m ≡ l ++ a) (second : n ≡ m ++ b) where
  pub joined_2 : n ≡ l ++ (a ++ b)
  joined_2 = grind (arith, nat_tests, append_assoc)

  module _ (c o : List ℕ) (third : o ≡ n ++ c) where
    pub joined_3 : o ≡ l ++ (a ++ b ++ c)
    joined_3 = grind (arith, nat_tests, append_assoc)

    module _ (d p : List ℕ) (fourth : p ≡ o ++ d) where
      pub joined_4 : p ≡ l ++ (a ++ b ++ c ++ d)
      joined_4 = grind (arith, nat_tests, append_assoc)

      pub joined_6 : (e f q r : List ℕ) → q ≡ p ++ e → r ≡ q ++ f → r ≡ l ++ (a ++ b ++ c ++ d ++ e ++ f)
      joined_6 e f q r fifth sixth = grind (arith, nat_tests, joined_4, append_assoc)

-- the place, then the number of the reason, is the text of the fault
pub said : (fault : ImageFault) (reason : BadImage) (number : ℕ) (l m n o : List ℕ) → l ≡ place_text fault →
    m ≡ l ++ codes " (bad image" → reason ≡ reason_of fault → number ≡ reason_number reason
    → n ≡ m ++ 32 ∷ decimal number → o ≡ n ++ codes ")" → o ≡ fault_text fault
unfolding fault_text
said fault reason number l m n o place words is reported digits end = grind (arith, nat_tests)
