-- Reading a number at a place of a text, which a space or the end follows.
use Rattle.script.proofs.Names.{ℕ, List, [], Option, Some, IfSome, length, get_or, take, drop, decimal, refl, sym, ap, subst, arith, IsInRange, AllDigits}
use Rattle.script.proofs.Names.{digits_value, nat_tests, get_or-take, get_or-drop, take_all, length-drop, drop-drop, position_or_len_is, digit_at, first_end}
use Rattle.script.proofs.Names.{first_word, number_at, words_of, digits_value_short, length-take-le}
use Rattle.std.proofs.Common.{◌≡◌, ◌<◌, ◌≤◌, ◌^◌, ◌+◌, ◌*◌, ◌-◌, ◌==◌, ◌∙◌}
use Rattle.script.proofs.Commands.{number_gives}
use Rattle.script.proofs.Numbers.{digits_are_decimal, own, value_more}
use Rattle.script.proofs.Split.{word_alone, word_and_more}

-- the first word of the text has `size` bytes, all digits, without a leading zero, and its value is n
abbrev Begins : List ℕ → ℕ → ℕ → Type 0
Begins text size n =
    (0 < size) × (size ≤ length text) × AllDigits 10 (take size text) × (get_or text 0 0 ≡ 48 → size ≡ 1)
    × (n ≡ digits_value 10 (take size text)) ×
    (n < 2 ^ 64)

word_ends : (text : List ℕ) (size n : ℕ) → Begins text size n → (size < length text → get_or text size 0 ≡ 32) → first_end text ≡ size
word_ends text size n begins space =
    let long : length (take size text) ≡ size = length-take-le size text begins.1 in
    position_or_len_is (λ b. b == 32) text size 0 begins.1 (grind (arith, nat_tests, digit_at, get_or-take))
    (λ lt. let here = space lt in grind (arith, nat_tests))

word_is : (text : List ℕ) (size n : ℕ) → Begins text size n → first_end text ≡ size → first_word text ≡ decimal n
word_is text size n begins ends = grind (arith, nat_tests, length-take-le, digits_are_decimal, get_or-take)

digits_first : (text : List ℕ) (size n : ℕ) → Begins text size n → size < length text → get_or text size 0 ≡ 32
    → number_at (words_of text) ≡ Some (n, words_of (drop (size + 1) text))
digits_first text size n begins within space =
    let ends = word_ends text size n begins (λ _. space) in
    let left : take (length text - (size + 1)) (drop (size + 1) text) ≡ drop (size + 1) text =
    grind (arith, nat_tests, take_all, length-drop) in
    rw (← left) (number_gives (Some n) (first_word text) (words_of text) (words_of (take (length text - (size + 1)) (drop (size + 1) text)))
    (word_and_more text size (sym ends) within) (begins.5, word_is text size n begins ends) tt)

digits_alone : (text : List ℕ) (size n : ℕ) → Begins text size n → size ≡ length text → number_at (words_of text) ≡ Some (n, [])
digits_alone text size n begins whole =
    let ends = word_ends text size n begins (λ lt. absurd (omega (arith, lt, whole))) in
    number_gives (Some n) (first_word text) (words_of text) [] (word_alone text size (sym ends) (omega (arith, whole)))
    (begins.5, word_is text size n begins ends) tt

-- the value of the first digits after a place
abbrev pub Values : List ℕ → ℕ → ℕ → ℕ → Type 0
Values text at size n = AllDigits 10 (take size (drop at text)) × (n ≡ digits_value 10 (take size (drop at text)))

abbrev IsDigit : List ℕ → ℕ → ℕ → Type 0
IsDigit text at digit = IsInRange 48 57 (get_or text at 0) × (digit ≡ get_or text at 0 - 48)

digit_more : (text : List ℕ) (at size value digit : ℕ) → at + size < length text → Values text at size value →
    IsDigit text (at + size) digit → Values text at (size + 1) (value * 10 + digit)
digit_more text at size value digit within so_far is = grind (arith, nat_tests, get_or-drop, value_more, length-drop)

values_one : (text : List ℕ) (at one : ℕ) → at < length text → IsDigit text at one → Values text at 1 one
values_one text at one within first =
    let here : at ≡ at + 0 = omega arith in
    let more = digit_more text at 0 0 one (omega (arith, within)) (tt, refl) (subst (λ (k : ℕ). IsDigit text k one) here first) in
    (more.0, omega (arith, more.1))

values_two : (text : List ℕ) (at one two : ℕ) → at + 1 < length text → IsDigit text at one → IsDigit text (at + 1) two →
    Values text at 2 (one * 10 + two)
values_two text at one two within first second = digit_more text at 1 one two within (values_one text at one (omega (arith, within)) first)
    second

values_three : (text : List ℕ) (at one two three : ℕ) → at + 2 < length text → IsDigit text at one → IsDigit text (at + 1) two →
    IsDigit text (at + 2) three → Values text at 3 ((one * 10 + two) * 10 + three)
values_three text at one two three within first second third =
    digit_more text at 2 (one * 10 + two) three within (values_two text at one two (omega (arith, within)) first second) third

-- three digits in a row are this number
pub values_up_to_three : (text : List ℕ) (at one two three : ℕ) → at + 2 < length text → IsDigit text at one → IsDigit text (at + 1) two →
    IsDigit text (at + 2) three → Values text at (at + 3 - at) ((one * 10 + two) * 10 + three)
values_up_to_three text at one two three within first second third =
    let same : 3 ≡ at + 3 - at = omega arith in
    subst (λ (size : ℕ). Values text at size ((one * 10 + two) * 10 + three)) same
    (values_three text at one two three within first second third)

begins_behind : (text : List ℕ) (at size n : ℕ) → at + size ≤ length text → 0 < size → Values text at size n →
    (get_or text at 0 ≡ 48 → size ≡ 1) → n < 2 ^ 64 → Begins (drop at text) size n
begins_behind text at size n within some values first small = grind (arith, nat_tests, length-drop, get_or-drop)

number_read : (text : List ℕ) (at size next n : ℕ) → next ≡ at + size + 1 → at + size < length text → get_or text (at + size) 0 ≡ 32 →
    Begins (drop at text) size n
    → number_at (words_of (drop at text)) ≡ Some (n, words_of (drop next text))
number_read text at size next n behind within space begins =
    let rest : drop (size + 1) (drop at text) ≡ drop next text = drop-drop (size + 1) at text
    ∙ ap (λ (k : ℕ). drop k text) (omega (arith, behind)) in
    rw (← rest) (digits_first (drop at text) size n begins (omega (arith, within, length-drop at text))
    (get_or-drop at text size 0 ∙ space))

pub one_digit : (text : List ℕ) (at n : ℕ) → at + 1 < length text → IsDigit text at n → get_or text (at + 1) 0 ≡ 32
    → number_at (words_of (drop at text)) ≡ Some (n, words_of (drop (at + 2) text))
one_digit text at n within first space = number_read text at 1 _ n (omega arith) within space
    (begins_behind text at 1 n (omega (arith, within)) (omega arith) (values_one text at n (omega (arith, within)) first) (λ _. refl)
    (omega (arith, first)))

pub two_digits : (text : List ℕ) (at one two n : ℕ) → at + 2 < length text → IsDigit text at one → (get_or text at 0 ≡ 48 → ⊥) →
    IsDigit text (at + 1) two → get_or text (at + 2) 0 ≡ 32 → n ≡ one * 10 + two →
    number_at (words_of (drop at text)) ≡ Some (n, words_of (drop (at + 3) text))
two_digits text at one two n within first some second space is = rw is (number_read text at 2 _ _ (omega arith) within space
    (begins_behind text at 2 _ (omega (arith, within)) (omega arith) (values_two text at one two (omega (arith, within)) first second)
    (λ zero. absurd (some zero)) (omega (arith, first, second))))

pub three_digits : (text : List ℕ) (at one two three n : ℕ) → at + 3 < length text → IsDigit text at one → (get_or text at 0 ≡ 48 → ⊥) →
    IsDigit text (at + 1) two
    → IsDigit text (at + 2) three → get_or text (at + 3) 0 ≡ 32 → n ≡ (one * 10 + two) * 10 + three
    → number_at (words_of (drop at text)) ≡ Some (n, words_of (drop (at + 4) text))
three_digits text at one two three n within first some second third space is = rw is (number_read text at 3 _ _ (omega arith) within space
    (begins_behind text at 3 _ (omega (arith, within)) (omega arith) (values_three text at one two three (omega (arith, within)) first
    second third)
    (λ zero. absurd (some zero)) (omega (arith, first, second, third))))

-- a number of at most `most` digits is below 10^`most`
pub value_below : (text : List ℕ) (at size most n : ℕ) → at + size ≤ length text → size ≤ most → Values text at size n → n < 10 ^ most
value_below text at size most n within few values =
    let long : length (take size (drop at text)) ≡ size = length-take-le size (drop at text) (omega (arith, within, length-drop at text)) in
    rw values.1 (digits_value_short own (take size (drop at text)) most values.0 (omega (arith, long, few)))

-- appending a digit at a place multiplies the value by ten and adds the digit
pub place_more : (text : List ℕ) (at place value digit : ℕ) → at < place → place < length text → Values text at (place - at) value →
    IsDigit text place digit → Values text at (place + 1 - at) (value * 10 + digit)
place_more text at place value digit begun within so_far is =
    let here : place ≡ at + (place - at) = omega (arith, begun) in
    subst (λ (size : ℕ). Values text at size (value * 10 + digit)) (omega (arith, begun))
    (digit_more text at (place - at) value digit (omega (arith, begun, within)) so_far (subst (λ (k : ℕ). IsDigit text k digit) here is))

-- digits up to a space are read as their number
pub digits_read : (text : List ℕ) (at place n : ℕ) → at < place → place < length text → place ≤ at + 19 → get_or text place 0 ≡ 32 →
    (get_or text at 0 ≡ 48 → ⊥) → Values text at (place - at) n
    → number_at (words_of (drop at text)) ≡ Some (n, words_of (drop (place + 1) text))
digits_read text at place n begun within few space some values =
    let here : place ≡ at + (place - at) = omega (arith, begun) in
    let below : n < 10 ^ 19 = value_below text at (place - at) 19 n (omega (arith, begun, within)) (omega (arith, few)) values in
    number_read text at (place - at) (place + 1) n (omega (arith, begun)) (omega (arith, begun, within))
    (ap (λ (k : ℕ). get_or text k 0) (sym here) ∙ space)
    (begins_behind text at (place - at) n (omega (arith, begun, within)) (omega (arith, begun)) values (λ zero. absurd (some zero))
    (omega (arith, below)))

-- digits up to the end of the text are read as their number
pub digits_last : (text : List ℕ) (at place n : ℕ) → at < place → place ≡ length text → place ≤ at + 19 → (get_or text at 0 ≡ 48 → ⊥) →
    Values text at (place - at) n → number_at (words_of (drop at text)) ≡ Some (n, [])
digits_last text at place n begun whole few some values =
    let below : n < 10 ^ 19 = value_below text at (place - at) 19 n (omega (arith, begun, whole)) (omega (arith, few)) values in
    digits_alone (drop at text) (place - at) n
    (begins_behind text at (place - at) n (omega (arith, begun, whole)) (omega (arith, begun)) values (λ zero. absurd (some zero))
    (omega (arith, below)))
    (omega (arith, begun, whole, length-drop at text))

pub last_one : (text : List ℕ) (at n : ℕ) → length text ≡ at + 1 → IsDigit text at n → number_at (words_of (drop at text)) ≡ Some (n, [])
last_one text at n whole first = grind (arith, nat_tests, digits_alone, begins_behind, values_one, length-drop)

-- if the last byte of the text is a digit, it is read as its number
pub last_one_found : (text : List ℕ) (at : ℕ) (r : Option ℕ) → length text ≡ at + 1 → IfSome r (λ n. IsDigit text at n)
    → IfSome r (λ n. number_at (words_of (drop at text)) ≡ Some (n, []))
last_one_found text at r whole found = grind (arith, nat_tests, last_one)

pub last_two : (text : List ℕ) (at one two n : ℕ) → length text ≡ at + 2 → IsDigit text at one → (get_or text at 0 ≡ 48 → ⊥) →
    IsDigit text (at + 1) two → n ≡ one * 10 + two
    → number_at (words_of (drop at text)) ≡ Some (n, [])
last_two text at one two n whole first some second is = rw is (digits_alone _ 2 _
    (begins_behind text at 2 _ (omega (arith, whole)) (omega arith) (values_two text at one two (omega (arith, whole)) first second)
    (λ zero. absurd (some zero)) (omega (arith, first, second))) (omega (arith, whole, length-drop at text)))

pub last_three : (text : List ℕ) (at one two three n : ℕ) → length text ≡ at + 3 → IsDigit text at one → (get_or text at 0 ≡ 48 → ⊥) →
    IsDigit text (at + 1) two → IsDigit text (at + 2) three → n ≡ (one * 10 + two) * 10 + three →
    number_at (words_of (drop at text)) ≡ Some (n, [])
last_three text at one two three n whole first some second third is = rw is
    (digits_alone _ 3 _ (begins_behind text at 3 _ (omega (arith, whole)) (omega arith)
    (values_three text at one two three (omega (arith, whole)) first second third) (λ zero. absurd (some zero))
    (omega (arith, first, second, third)))
    (omega (arith, whole, length-drop at text)))
