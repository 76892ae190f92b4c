-- The decimal text of a number, and words that are decimal texts.
use Rattle.script.proofs.Names.{nat_tests, ℕ, List, Option, length, get_or, take, decimal, sym, ap, subst, arith, IfSome, IfNone, IsInRange, digit_value_digit}
use Rattle.script.proofs.Names.{AllDigits, digits_value, decimal_nonempty, first_decimal, decimal_digit, digits_decimal, digits_value-decimal}
use Rattle.script.proofs.Names.{decimal-digits_value, digits_value_more, digits_more, IsNumeralModel, numerals_by_value, tells_digits, digits_value-take-le}
use Rattle.script.proofs.Names.{first_end, first_word}
use Rattle.std.proofs.Common.{◌≡◌, ◌≢◌, ◌<◌, ◌≤◌, ◌^◌, ◌+◌, ◌-◌, ◌*◌, ◌∙◌}
use Rattle.script.proofs.FirstWords.{word_reads}

pub own : IsNumeralModel (AllDigits 10) (digits_value 10)
own = numerals_by_value (AllDigits 10) tells_digits

pub decimal_is_digits : (word : List ℕ) (n : ℕ) → n < 2 ^ 64 → word ≡ decimal n → AllDigits 10 word × (digits_value 10 word ≡ n)
decimal_is_digits word n small is = rw is (digits_decimal own n small, digits_value-decimal own n small)

pub decimal_not_empty : (word : List ℕ) (n : ℕ) → n < 2 ^ 64 → word ≡ decimal n → 0 < length word
decimal_not_empty word n small is = rw is (decimal_nonempty n small)

pub decimal_no_zero : (word : List ℕ) (n : ℕ) → n < 2 ^ 64 → word ≡ decimal n → 1 < length word → get_or word 0 0 ≡ 48 → ⊥
decimal_no_zero word n small is long first = grind (arith, nat_tests, decimal_digit, first_decimal)

pub digits_are_decimal : (word : List ℕ) → AllDigits 10 word → 0 < length word → (get_or word 0 0 ≡ 48 → length word ≡ 1)
    → digits_value 10 word < 2 ^ 64 → word ≡ decimal (digits_value 10 word)
digits_are_decimal word digits some first small = sym (decimal-digits_value own word digits some first small)

-- appending a digit multiplies the value by ten and adds the digit
pub value_more : (digits : List ℕ) (i value : ℕ) → i < length digits → AllDigits 10 (take i digits) →
    value ≡ digits_value 10 (take i digits) → IsInRange 48 57 (get_or digits i 0)
    → AllDigits 10 (take (i + 1) digits) × (value * 10 + (get_or digits i 0 - 48) ≡ digits_value 10 (take (i + 1) digits))
value_more digits i value lt so_far is digit = grind (arith, nat_tests, digit_value_digit, digits_more, digits_value_more)

-- if the value of the first digits is too great, so is that of the whole word
pub value_great : (digits : List ℕ) (i value : ℕ) → i < length digits → value ≡ digits_value 10 (take i digits)
    → IsInRange 48 57 (get_or digits i 0) → (value * 10 + (get_or digits i 0 - 48) < 2 ^ 64 → ⊥) → 2 ^ 64 ≤ digits_value 10 digits
value_great digits i value lt is digit great =
    omega (
      arith,
      digits_value_more 10 digits i lt,
      digit_value_digit (get_or digits i 0) digit,
      digits_value-take-le 10 digits (i + 1) (omega arith),
      great,
    )

-- if the value of the first digits and the next one is too great, the first word has no value below 2^64
pub word_great : (text : List ℕ) (i value : ℕ) → i < first_end text → value ≡ digits_value 10 (take i text)
    → IsInRange 48 57 (get_or text i 0) → (value * 10 + (get_or text i 0 - 48) < 2 ^ 64 → ⊥) → 2 ^ 64 ≤ digits_value 10 (first_word text)
word_great text i value lt is digit great =
    let reads = word_reads text i lt in
    value_great (first_word text) i value reads.0 (is ∙ ap (λ (w : List ℕ). digits_value 10 w) (sym reads.2))
    (subst (λ (d : ℕ). IsInRange 48 57 d) (sym reads.1) digit) (λ small. great
    (subst (λ (d : ℕ). value * 10 + (d - 48) < 2 ^ 64) reads.1 small))

-- a word without a leading zero is a number exactly if its digits have a value
pub number_found : (word : List ℕ) (r : Option ℕ) → 0 < length word → (get_or word 0 0 ≡ 48 → length word ≡ 1)
    → IfSome r (λ n. (n < 2 ^ 64) × AllDigits 10 word × (n ≡ digits_value 10 word))
    → IfSome r (λ n. (n < 2 ^ 64) × (word ≡ decimal n))
number_found word r some first found = grind (arith, nat_tests, digits_are_decimal)

pub number_none : (word : List ℕ) (r : Option ℕ) → IfNone r (AllDigits 10 word → 2 ^ 64 ≤ digits_value 10 word)
    → IfNone r ((n : ℕ) → n < 2 ^ 64 → word ≢ decimal n)
number_none word r none = grind (arith, nat_tests, decimal_is_digits)
