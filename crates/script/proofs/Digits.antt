-- Reading a word of one digit, which a space or the end of the text follows.
use Rattle.script.proofs.Names.{ℕ, List, [], Some, length, get_or, take, drop, decimal, sym, arith, IsInRange, nat_tests, decimal_digit, take_more}
use Rattle.script.proofs.Names.{position_or_len_is, first_end, first_word, number_at, words_of}
use Rattle.std.proofs.Common.{◌≡◌, ◌<◌, ◌≤◌, ◌-◌, ◌==◌}
use Rattle.script.proofs.Commands.{number_gives}
use Rattle.script.proofs.Split.{word_alone, word_and_more}

pub digit_alone : (text : List ℕ) (n : ℕ) → 2 ≤ length text → get_or text 1 0 ≡ 32 → IsInRange 48 57 (get_or text 0 0) →
    n ≡ get_or text 0 0 - 48 → number_at (words_of text) ≡ Some (n, words_of (take (length text - 2) (drop 2 text)))
digit_alone text n long space digit is =
    let ends : first_end text ≡ 1 = grind (arith, nat_tests, position_or_len_is) in
    let word : first_word text ≡ decimal n = grind (arith, nat_tests, take_more, decimal_digit) in
    number_gives (Some n) (first_word text) (words_of text) (words_of (take (length text - 2) (drop 2 text)))
    (word_and_more text 1 (sym ends) (omega arith)) (omega (arith, is, digit), word) tt

pub digit_last : (text : List ℕ) (n : ℕ) → 1 ≤ length text → length text < 2 → IsInRange 48 57 (get_or text 0 0) → n ≡ get_or text 0 0 - 48
    → number_at (words_of text) ≡ Some (n, [])
digit_last text n some last digit is =
    let ends : first_end text ≡ 1 = position_or_len_is (λ b. b == 32) text 1 0 (omega arith)
    (λ k small. let zero : k ≡ 0 = omega arith in rw zero (let other : get_or text 0 0 ≡ 32 →
    ⊥ = λ e. omega (arith, e, digit) in grind (arith, nat_tests)))
    (λ more. absurd (omega (arith, more, last))) in
    let word : first_word text ≡ decimal n = grind (arith, nat_tests, take_more, decimal_digit) in
    number_gives (Some n) (first_word text) (words_of text) [] (word_alone text 1 (sym ends) (omega arith)) (omega (arith, is, digit), word)
    tt
