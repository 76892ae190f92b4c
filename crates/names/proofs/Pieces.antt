-- The pieces of a line between its spaces.
use Rattle.std.proofs.Common.{◌≡◌, ◌+◌, ◌-◌, ◌==◌, ◌∷◌}
use Rattle.std.proofs.lemmas.List.Quantifiers.{position-Some}
use Rattle.std.proofs.lemmas.List.Splits.{slice_split_none, slice_split_first}
use Rattle.std.proofs.lemmas.List.Sums.{position_or_len_is, fails_before_first}
use Rattle.std.proofs.lemmas.Bool.Decides.{nat_tests}
use Rattle.std.proofs.lemmas.List.{take_all, length-drop}
use Rattle.std.proofs.Common.{arith, take, drop, length, ℕ, List, [], None, Some}
use Rattle.std.specs.List.{position}
use Rattle.script.specs.Reading.{words_of}

pub no_space : (line : List ℕ) → position (λ b. b == 32) line ≡ None → words_of line ≡ line ∷ []
no_space line none = grind (arith, nat_tests, slice_split_none, fails_before_first)

pub first_piece : (line : List ℕ) (i : ℕ) → position (λ b. b == 32) line ≡ Some i
    → words_of line ≡ take i line ∷ words_of (take (length line - (i + 1)) (drop (i + 1) line))
first_piece line i some = grind (arith, nat_tests, position-Some, position_or_len_is, take_all, length-drop, slice_split_first)
