-- The pieces of a line between its spaces.
use Rattle.script.proofs.Names.{nat_tests, ℕ, Bool, List, [], None, Some, length, take, drop, refl, ap, inl, inr, arith, position, cases_lt, take_all}
use Rattle.script.proofs.Names.{length-drop, position-Some, slice_split_none, slice_split_first, length-slice_split, position_or_len_is, fails_before_first}
use Rattle.script.proofs.Names.{first_end, first_word, words_of}
use Rattle.std.proofs.Common.{◌≡◌, ◌+◌, ◌-◌, ◌==◌, ◌∷◌, ◌≤◌, ◌<◌}

abbrev is_space : ℕ → Bool
is_space b = b == 32

pub no_space : (line : List ℕ) → position is_space line ≡ None → words_of line ≡ line ∷ []
no_space line none = grind (arith, nat_tests, slice_split_none, fails_before_first)

pub first_piece : (line : List ℕ) (i : ℕ) → position is_space line ≡ Some i
    → words_of line ≡ take i line ∷ words_of (take (length line - (i + 1)) (drop (i + 1) line))
first_piece line i some = grind (arith, nat_tests, position-Some, position_or_len_is, take_all, length-drop, slice_split_first)

-- if the first word ends before the text does, the words are the first word and the words of the rest
pub word_and_more : (text : List ℕ) (end : ℕ) → end ≡ first_end text → end < length text
    → words_of text ≡ first_word text ∷ words_of (take (length text - (end + 1)) (drop (end + 1) text))
word_and_more text end is within = grind (arith, nat_tests, slice_split_first, take_all, length-drop)

pub word_alone : (text : List ℕ) (end : ℕ) → end ≡ first_end text → length text ≤ end → words_of text ≡ first_word text ∷ []
word_alone text end is past = grind (arith, nat_tests, take_all, slice_split_none, fails_before_first)

pub begins_with_word : (text : List ℕ) → (left : List (List ℕ)) × (words_of text ≡ first_word text ∷ left)
begins_with_word text = elim (cases_lt (first_end text) (length text)) [
  | inl lt ↦ (words_of (take (length text - (first_end text + 1)) (drop (first_end text + 1) text)), word_and_more text _ refl lt)
  | inr le ↦ ([], word_alone text _ refl le)
]

pub some_word : (line : List ℕ) → words_of line ≡ [] → ⊥
some_word line none = let long : length (words_of line) ≡ 0 = ap length none in omega (arith, length-slice_split is_space line)
