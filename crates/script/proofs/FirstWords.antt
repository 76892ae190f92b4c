-- The first word of a text, up to a space or the end.
use Rattle.script.proofs.Names.{ℕ, Bool, List, length, get_or, take, inl, inr, arith, cases_lt, nat_tests, get_or-take, take-take, fails_before_first}
use Rattle.script.proofs.Names.{passes_at_first, prefix_len-le-length, first_end, first_word, length-take-le}
use Rattle.std.proofs.Common.{◌≡◌, ◌≢◌, ◌<◌, ◌≤◌, ◌==◌}

abbrev is_space : ℕ → Bool
is_space b = b == 32

pub first_end_within : (text : List ℕ) → first_end text ≤ length text
first_end_within text = prefix_len-le-length _ text

-- the first word ends at the first space
pub ends_here : (text : List ℕ) (i : ℕ) → i ≤ first_end text → i < length text → get_or text i 0 ≡ 32 → i ≡ first_end text
ends_here text i before lt space = grind (arith, nat_tests, fails_before_first)

pub goes_on : (text : List ℕ) (i : ℕ) → i ≤ first_end text → i < length text → get_or text i 0 ≢ 32 → i < first_end text
goes_on text i before lt other =
    elim (cases_lt i (first_end text)) [
      | inl earlier ↦ earlier
      | inr le ↦
          let here : first_end text ≡ i = omega arith in
          let space = passes_at_first is_space text 0 (omega arith) in
          absurd (other (grind (arith, nat_tests)))
    ]

pub word_length : (text : List ℕ) → length (first_word text) ≡ first_end text
word_length text = length-take-le (first_end text) text (first_end_within text)

-- the bytes of the first word are those of the text
pub word_reads : (text : List ℕ) (i : ℕ) → i < first_end text
    → (i < length (first_word text)) × (get_or (first_word text) i 0 ≡ get_or text i 0) × (take i (first_word text) ≡ take i text)
word_reads text i lt = grind (arith, nat_tests, word_length, get_or-take, take-take)
