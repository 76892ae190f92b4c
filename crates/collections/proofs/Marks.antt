-- The marks of numbers, and the bits that store them.
use Rattle.std.proofs.lemmas.Bool.Decides.{nat_tests}
use Rattle.std.proofs.Common.{◌≡◌, ◌≢◌, ℕ, ◌+◌, ◌-◌, ◌*◌, ◌/◌, ◌%◌, ◌^◌, ◌<◌, ◌≤◌, min, Bool, true, false, not, Option, Some, None, IfSome, List, []}
use Rattle.std.proofs.Common.{◌++◌, length, get_or, set, take, replicate, slice_index, slice_set, nat_eq, bit_and, bit_or, w64, sym, ap, ◌∙◌, inl, inr}
use Rattle.std.proofs.Common.{arith, length-set, get_or-set_same, get_or-set_other}
use Rattle.std.specs.Int.{bit_at, bit_not, div_ceil, trailing_zeros}
use Rattle.std.proofs.lemmas.Bool.{cases_eq, cases_lt}
use Rattle.std.proofs.lemmas.List.{get_or_past, take_all, length-replicate, get_or-replicate}
use Rattle.std.proofs.lemmas.List.FromFn.{length-map-range_with_len, get_or-map-range_with_len, fill_by_all}
use Rattle.std.proofs.lemmas.Nat.{shr-shr}
use Rattle.std.proofs.Math.Dec.{eqb-suc-zero}
use Rattle.std.proofs.Math.Nat.{div-le_self}
use Rattle.std.proofs.lemmas.Nat.Bits.{bit_at-zero, bit_at-lt, bit_at-trailing_zeros, bit_at_above, bit_at_not, shr_and_one, bit_at_set_same, bit_at_clear_same}
use Rattle.collections.specs.Marks.{is_marked, IsNextMarked, HasNoneMarked, IsNextUnmarked, HasAllMarked}
use Rattle.collections.specs.Bits.{bit_of, digit, marks_of, IsLowestFrom, IsFirstSet, HasNoneSet, IsFirstClear, IsBitPut, SumsUp, IsSummed}

-- ---- a bit and a Boolean

digit_one : (b : Bool) → nat_eq (digit b) 1 ≡ b
digit_one b = grind (arith, nat_tests)

digit_of_bit : (d : ℕ) → d < 2 → digit (nat_eq d 1) ≡ d
digit_of_bit d small = grind (arith, nat_tests)

-- min 1 n is 1 if n isn't 0, else 0
digit_some : (n : ℕ) → digit (not (nat_eq n 0)) ≡ min 1 n
digit_some n = grind (arith, nat_tests, eqb-suc-zero)

-- ---- the bits of one word

-- bit k of a word shifted right by `from` is bit from + k of the word
bit_past : (word from k : ℕ) → bit_at (word / 2 ^ from) k ≡ bit_at word (from + k)
bit_past word from k = ap (λ x. x % 2) (shr-shr word from k)

module _ (word from : ℕ) where
  -- if a word shifted right by `from` is 0, all its bits from `from` on are 0
  pub none_from : word / 2 ^ from ≡ 0 → (other : ℕ) → from ≤ other → bit_at word other ≡ 0
  none_from rest other after = grind (arith, nat_tests, bit_past word from (other - from), bit_at-zero (other - from))

  -- the lowest set bit from `from` on: shift the word right, and count its trailing zeros
  pub lowest_from : word < 2 ^ 64 → (word / 2 ^ from ≡ 0 → ⊥) → IsLowestFrom word from (from + trailing_zeros w64 (word / 2 ^ from))
  lowest_from fits rest =
      let left = word / 2 ^ from in
      let lowest = bit_at-trailing_zeros w64 left (omega arith) (omega (arith, div-le_self word (2 ^ from))) in
      let is_set : bit_at word (from + trailing_zeros w64 left) ≡ 1 = sym (bit_past word from (trailing_zeros w64 left)) ∙ lowest.1 in
      record {
        past = omega arith;
        inside = elim (cases_lt (from + trailing_zeros w64 left) 64) [
          | inl within ↦ within
          | inr out ↦ absurd (omega (arith, bit_at_above word 64 _ fits out, is_set))
        ];
        set = is_set;
        least = λ other after before.
            let split : from + (other - from) ≡ other = omega arith in
            sym (ap (bit_at word) split) ∙ sym (bit_past word from (other - from)) ∙ lowest.2 (other - from) (omega arith);
      }

-- setting or clearing one bit
module _ (word bit : ℕ) (set : Bool) (within : bit < 64) where
  -- or-ing a mask of one bit sets this bit
  pub set_here : set ≡ true → bit_at (bit_or word (1 * 2 ^ bit % 2 ^ 64)) bit ≡ digit set
  set_here is_set = bit_at_set_same w64 word bit within ∙ ap digit (sym is_set)

  -- and-ing with the complement of the mask clears this bit
  pub clear_here : set ≡ false → bit_at (bit_and word (bit_not w64 (1 * 2 ^ bit % 2 ^ 64))) bit ≡ digit set
  clear_here is_clear = bit_at_clear_same w64 word bit within ∙ ap digit (sym is_clear)

-- ---- the bits of a list of words

module _ (words : List ℕ) where
  -- the bit of number 64 w + i is bit i of word w
  bit_in_word : (w i : ℕ) → i < 64 → bit_of words (w * 64 + i) ≡ bit_at (slice_index words w) i
  unfolding bit_of
  bit_in_word w i within = grind (arith, nat_tests)

  -- the bit of number n is read by a shift and a mask
  pub read_bit : (n : ℕ) → bit_of words n ≡ digit (nat_eq (bit_and (slice_index words (n / 64) / 2 ^ (n % 64)) 1) 1)
  unfolding bit_of
  read_bit n = grind (arith, nat_tests, shr_and_one, digit_of_bit, bit_at-lt)

  -- a word that is 0, or past the end, has no set bit
  bit_of_zero : (n : ℕ) → slice_index words (n / 64) ≡ 0 → bit_of words n ≡ 0
  unfolding bit_of
  bit_of_zero n is_zero = ap (λ x. bit_at x (n % 64)) is_zero ∙ bit_at-zero (n % 64)

  -- no bit is set from an index past the last word on
  pub none_past_words : (from : ℕ) → length words ≤ from / 64 → HasNoneSet words from
  none_past_words from past m after = bit_of_zero m (get_or_past words (m / 64) 0 (omega arith))

  -- if no bit from `from` up to the last word is set, none is set from `from` on
  pub none_past_all : (from w : ℕ) → length words ≤ w → ((m : ℕ) → from ≤ m → m < w * 64 → bit_of words m ≡ 0) → HasNoneSet words from
  none_past_all from w past_all before m past = grind (arith, nat_tests, bit_of_zero, get_or_past)

  -- if no bit from `from` up to word w is set, the first set bit in word w is the first one from `from` on
  pub first_by_word : (from w low bit : ℕ) → low ≡ from - w * 64 → from / 64 ≤ w → ((m : ℕ) → from ≤ m → m < w * 64 → bit_of words m ≡ 0) →
      IsLowestFrom (slice_index words w) low bit → IsFirstSet words from (w * 64 + bit)
  first_by_word from w low bit is_low after before lowest = record {
    past = omega (arith, lowest.past);
    set = bit_in_word w bit lowest.inside ∙ lowest.set;
    least = λ m past within.
        elim (cases_lt m (w * 64)) [
          | inl lower ↦ before m past lower
          | inr here ↦
              let split : w * 64 + (m - w * 64) ≡ m = omega arith in
              sym (ap (bit_of words) split) ∙ bit_in_word w (m - w * 64) (omega (arith, lowest.inside))
              ∙ lowest.least (m - w * 64) (omega arith) (omega arith)
        ];
  }

  -- if no number before a word, nor in it, has a set bit, none before the next word has one
  pub none_by_word : (from w low : ℕ) → low ≡ from - w * 64 → from / 64 ≤ w → ((m : ℕ) → from ≤ m → m < w * 64 → bit_of words m ≡ 0) →
      ((other : ℕ) → low ≤ other → other < 64 → bit_at (slice_index words w) other ≡ 0) → (m : ℕ) → from ≤ m → m < (w + 1) * 64 →
      bit_of words m ≡ 0
  none_by_word from w low is_low after before none m past within = grind (arith, nat_tests, bit_in_word w (m - w * 64) (omega arith))

  -- replacing a word by one that differs only in the bit of n sets the bit of n, and no other
  pub bit_put : (n word bit : ℕ) → n / 64 < length words → bit_at word (n % 64) ≡ bit →
      ((other : ℕ) → other < 64 → other ≢ n % 64 → bit_at word other ≡ bit_at (slice_index words (n / 64)) other) →
      IsBitPut words n bit (slice_set words (n / 64) word)
  unfolding bit_of
  bit_put n word bit within here others = grind (arith, nat_tests, length-set, get_or-set_same, get_or-set_other)

-- a bit that is 0 in the complement of a word is 1 in the word
flipped_zero : (word i : ℕ) → word < 2 ^ 64 → i < 64 → bit_at (bit_not w64 word) i ≡ 0 → bit_at word i ≡ 1
flipped_zero word i fits within none = omega (arith, bit_at_not w64 word i fits within, bit_at-lt word i, none)

flipped_one : (word i : ℕ) → word < 2 ^ 64 → i < 64 → bit_at (bit_not w64 word) i ≡ 1 → bit_at word i ≡ 0
flipped_one word i fits within one = omega (arith, bit_at_not w64 word i fits within, bit_at-lt word i, one)

module _ (words : List ℕ) (from w low : ℕ) (fits : slice_index words w < 2 ^ 64) (is_low : low ≡ from - w * 64) (after : from / 64 ≤ w)
    (before : (m : ℕ) → from ≤ m → m < w * 64 → bit_of words m ≡ 1) where
  -- the bit of a number m in word w is bit m - 64 w of that word
  here_is : (m : ℕ) → w * 64 ≤ m → m < (w + 1) * 64 → bit_of words m ≡ bit_at (slice_index words w) (m - w * 64)
  here_is m past within = grind (arith, nat_tests, bit_in_word words w (m - w * 64) (omega arith))

  -- if no bit from `from` up to word w is clear, the first clear bit in word w is the first one from `from` on
  pub clear_by_word : (bit : ℕ) → IsLowestFrom (bit_not w64 (slice_index words w)) low bit → IsFirstClear words from (w * 64 + bit)
  clear_by_word bit lowest = grind (arith, nat_tests, bit_in_word, flipped_one, here_is, flipped_zero)

  -- if a word has no clear bit from `low` on, all numbers from `from` to the word's end have the bit 1
  pub full_by_word : ((other : ℕ) → low ≤ other → other < 64 → bit_at (bit_not w64 (slice_index words w)) other ≡ 0)
      → (m : ℕ) → from ≤ m → m < (w + 1) * 64 → bit_of words m ≡ 1
  full_by_word none m past within = grind (arith, nat_tests, here_is, flipped_zero)

-- ---- words with a summary

module _ (words summary : List ℕ) (summed : SumsUp words summary) where
  -- if bit w of the summary is set, word w exists
  later_within : (w : ℕ) → bit_of summary w ≡ 1 → w < length words
  later_within w is_set = grind (arith, nat_tests, get_or_past)

  -- the number of the lowest set bit of a word is below 2^64
  pub later_fits : (later : ℕ) → 64 * length words ≤ 2 ^ 64 → bit_of summary later ≡ 1 → slice_index words later < 2 ^ 64 →
      later * 64 + trailing_zeros w64 (slice_index words later) < 2 ^ 64
  later_fits later few is_set fits =
      let word = slice_index words later in
      let lowest = bit_at-trailing_zeros w64 word (omega (arith, summed later, is_set)) fits in
      omega (arith, later_within later is_set, lowest.0)

  module _ (from : ℕ) (none : (other : ℕ) → from % 64 ≤ other → other < 64 → bit_at (slice_index words (from / 64)) other ≡ 0) where
    -- no number from `from` to the end of its word has the bit 1
    none_here : (m : ℕ) → from ≤ m → m < (from / 64 + 1) * 64 → bit_of words m ≡ 0
    none_here = none_by_word words from (from / 64) (from % 64) (omega arith) (omega arith) (λ m past before. absurd (omega arith)) none

    -- the lowest set bit of the first later word that isn't 0 is the first set bit from `from` on
    pub first_later : (later : ℕ) → IsFirstSet summary (from / 64 + 1) later → slice_index words later < 2 ^ 64 →
        IsFirstSet words from (later * 64 + trailing_zeros w64 (slice_index words later))
    first_later later first fits =
        let word = slice_index words later in
        let lowest = bit_at-trailing_zeros w64 word (omega (arith, summed later, first.set)) fits in
        let before : (m : ℕ) → from ≤ m → m < later * 64 → bit_of words m ≡ 0 = λ m past within.
        elim (cases_lt m ((from / 64 + 1) * 64)) [
          | inl here ↦ none_here m past here
          | inr after ↦ bit_of_zero words m (omega (arith, summed (m / 64), first.least (m / 64) (omega arith) (omega arith)))
        ] in
        first_by_word words from later 0 _ (omega (arith, first.past)) (omega (arith, first.past)) before
        (record { past = omega arith; inside = lowest.0; set = lowest.1; least = λ other _ lower. lowest.2 other lower })

    -- if all later words are 0, no bit is set from `from` on
    pub none_later : HasNoneSet summary (from / 64 + 1) → HasNoneSet words from
    none_later none_summed m past = grind (arith, nat_tests, none_here, bit_of_zero)

-- ---- marks

module _ (count : ℕ) (words : List ℕ) where
  -- there are as many marks as numbers
  length_marks : length (marks_of count words) ≡ count
  unfolding marks_of
  length_marks = length-map-range_with_len (λ n. nat_eq (bit_of words n) 1) 0 count

  -- each mark is the bit of its number
  mark_within : (n : ℕ) → n < count → is_marked (marks_of count words) n ≡ nat_eq (bit_of words n) 1
  unfolding marks_of
  mark_within n within = get_or-map-range_with_len (λ k. nat_eq (bit_of words k) 1) 0 count n n false within (omega arith)

  -- if a list of marks marks exactly the numbers whose bits are set, it is `marks_of` the words
  same_marks : (marks : List Bool) → length marks ≡ count → ((n : ℕ) → n < count → is_marked marks n ≡ nat_eq (bit_of words n) 1) →
      marks ≡ marks_of count words
  unfolding marks_of
  same_marks marks long each = fill_by_all (λ k. nat_eq (bit_of words k) 1) marks count false long each

  -- if the bit of n was read as b, the mark of n is b
  mark_is : (n : ℕ) (b : Bool) → n < count → bit_of words n ≡ digit b → b ≡ is_marked (marks_of count words) n
  mark_is n b within is_bit = sym (mark_within n within ∙ ap (λ d. nat_eq d 1) is_bit ∙ digit_one b)

  module _ (none_past : HasNoneSet words count) where
    -- a number whose bit isn't set is not marked, even past the last
    unmarked : (n : ℕ) → bit_of words n ≡ 0 → is_marked (marks_of count words) n ≡ false
    unmarked n is_zero = grind (arith, nat_tests, mark_within, get_or_past, length_marks)

    -- the first bit that is 1 is the next marked number
    next_by_bits : (from n : ℕ) → IsFirstSet words from n → IsNextMarked (marks_of count words) from n
    next_by_bits from n first = grind (arith, nat_tests, length_marks, mark_within, unmarked)

    -- if no bit is set, no number is marked
    none_by_bits : (from : ℕ) → HasNoneSet words from → HasNoneMarked (marks_of count words) from
    none_by_bits from none m past = unmarked m (none m past)

    -- a number whose bit is set is marked
    marked : (n : ℕ) → n < count → bit_of words n ≡ 1 → is_marked (marks_of count words) n ≡ true
    marked n within is_one = mark_within n within ∙ ap (λ d. nat_eq d 1) is_one

    -- the first bit that is 0 is the next number that isn't marked
    next_clear_by_bits : (from n : ℕ) → n < count → IsFirstClear words from n → IsNextUnmarked (marks_of count words) from n
    next_clear_by_bits from n within first = record {
      past = first.past;
      inside = omega (arith, within, length_marks);
      unmarked = unmarked n first.clear;
      least = λ m past before. marked m (omega (arith, within, before)) (first.least m past before);
    }

-- setting or clearing the bit of n sets or clears the mark of n
marks_put : (count n : ℕ) (b : Bool) (words new : List ℕ) → IsBitPut words n (digit b) new →
    marks_of count new ≡ slice_set (marks_of count words) n b
marks_put count n b words new put =
    sym (same_marks count new (set (marks_of count words) n b) (length-set (marks_of count words) n b ∙ length_marks count words)
    (λ m within.
    elim (cases_eq m n) [
      | inl same ↦ rw same (get_or-set_same (marks_of count words) n b false (omega (arith, length_marks count words)) ∙
          sym (ap (λ d. nat_eq d 1) put.here ∙ digit_one b))
      | inr differs ↦ get_or-set_other (marks_of count words) n m b false differs ∙ mark_within count words m within ∙
          sym (ap (λ d. nat_eq d 1) (put.others m differs))
    ]))

-- ---- facts for the methods of a set: its marks, from its words and their summary

module _ (count : ℕ) (words summary : List ℕ) (sums : IsSummed count words summary) (marks : List Bool)
    (is_marks : marks_of count words ≡ marks) where
  count_is : length marks ≡ count
  count_is = sym (ap length is_marks) ∙ length_marks count words

  -- the number of marks is below 2^64
  pub few_marks : length marks < 2 ^ 64
  few_marks = omega (arith, count_is, sums.fits)

  module _ (seen : List ℕ) (is_seen : seen ≡ words) where
    -- each number has a word
    pub has_word : (n : ℕ) → n < length marks → n / 64 < length seen
    has_word n within = omega (arith, count_is, ap length is_seen, sums.words_each)

    -- the bit of a number, as the code reads it, is its mark
    pub mark_read : (n : ℕ) (b : Bool) → n < length marks → bit_of seen n ≡ digit b → b ≡ is_marked marks n
    mark_read n b within is_bit = rw (← is_marks) (mark_is count words n b (omega (arith, count_is)) (rw is_seen at is_bit))

    -- the first bit that is found is the next marked number
    pub next_is_marked : (from : ℕ) (found : Option ℕ) → IfSome found (λ n. IsFirstSet seen from n) →
        IfSome found (λ n. IsNextMarked marks from n)
    next_is_marked from None _ = tt
    next_is_marked from (Some n) first = rw (← is_marks) (next_by_bits count words sums.past from n (rw is_seen at first))

    -- if no set bit is found, no number is marked
    pub none_is_marked : (from : ℕ) → HasNoneSet seen from → HasNoneMarked marks from
    none_is_marked from none = rw (← is_marks) (none_by_bits count words sums.past from (rw is_seen at none))

    -- the first clear bit that is found is the next number that isn't marked
    pub missing_is_unmarked : (from n : ℕ) → n < count → IsFirstClear seen from n → IsNextUnmarked marks from n
    missing_is_unmarked from n within first = rw (← is_marks) (next_clear_by_bits count words sums.past from n within (rw is_seen at first))

    -- if the bits of all numbers from one on are set, all of these are marked
    pub all_are_marked : (from : ℕ) → ((m : ℕ) → from ≤ m → m < count → bit_of seen m ≡ 1) → HasAllMarked marks from
    all_are_marked from each = grind (arith, nat_tests, marked, count_is)

    -- each number has a word
    pub words_hold : (m : ℕ) → m < count → m < length seen * 64
    words_hold m within = omega (arith, ap length is_seen, sums.words_each, within)

  -- the word of a number has a bit in the summary
  pub has_word_above : (seen : List ℕ) → seen ≡ summary → (n : ℕ) → n < length marks → n / 64 / 64 < length seen
  has_word_above seen is_seen n within = omega (arith, count_is, ap length is_seen, sums.summary_each, sums.words_each)

  module _ (n : ℕ) (b : Bool) (within : n < length marks) (seen new : List ℕ) (is_seen : seen ≡ words) (put : IsBitPut seen n (digit b) new)
      (stored : List ℕ)
      (is_stored : stored ≡ new) where
    -- setting or clearing a bit sets or clears the mark
    pub marks_set : marks_of count stored ≡ slice_set marks n b
    marks_set = ap (marks_of count) is_stored ∙ marks_put count n b words new (rw is_seen at put) ∙ ap (λ ms. slice_set ms n b) is_marks

    module _ (seen_summary new_summary : List ℕ) (word : ℕ) (is_seen_summary : seen_summary ≡ summary)
        (is_word : word ≡ slice_index new (n / 64))
        (put_above : IsBitPut seen_summary (n / 64) (digit (not (nat_eq word 0))) new_summary) where
      -- the summary stays right if the bit of the changed word is updated
      pub set_summed : (stored_summary : List ℕ) → stored_summary ≡ new_summary → IsSummed count stored stored_summary
      set_summed stored_summary is_stored_summary = grind (arith, nat_tests, count_is, digit_some)

-- ---- no number is marked

-- a word of a list of zeros is 0, also past its end
zeros : (k i : ℕ) → slice_index (replicate k 0) i ≡ 0
zeros k i = grind (arith, nat_tests, get_or-replicate, get_or_past, length-replicate)

-- an empty list, extended by zeros to length k, is k zeros
pub fresh : (k n : ℕ) (none zeros : List ℕ) → none ≡ [] → n ≡ 0 → zeros ≡ take k none ++ replicate (k - n) 0 → zeros ≡ replicate k 0
fresh k n none zeros is_none is_zero made = grind (arith, nat_tests, take_all)

module _ (count k : ℕ) (words : List ℕ) (are_zero : words ≡ replicate k 0) where
  -- words that are 0 have no set bit
  none_set : HasNoneSet words 0
  none_set m _ = bit_of_zero words m (ap (λ ws. get_or ws (m / 64) 0) are_zero ∙ zeros k (m / 64))

  -- no number is marked
  pub no_marks : marks_of count words ≡ replicate count false
  no_marks = sym (same_marks count words (replicate count false) (length-replicate count false)
      (λ n within. get_or-replicate count n false false within ∙ sym (ap (λ d. nat_eq d 1) (none_set n (omega arith)))))

  -- a summary of zeros is right for words that are all zeros
  pub zeros_summed : (l : ℕ) (summary : List ℕ) → count < 2 ^ 64 → summary ≡ replicate l 0 → k ≡ div_ceil count 64 → l ≡ div_ceil k 64 →
      IsSummed count words summary
  zeros_summed l summary fits summary_zero is_k is_l = grind (arith, nat_tests, length-replicate, none_set, bit_of_zero, zeros)

-- setting the words of a set, and their summary, to 0
module _ (count : ℕ) (words summary : List ℕ) (sums : IsSummed count words summary) (marks : List Bool)
    (is_marks : marks_of count words ≡ marks)
    (zero_words : List ℕ) (are_zero : zero_words ≡ replicate (length words) 0) where
  pub cleared : marks_of count zero_words ≡ replicate (length marks) false
  cleared = no_marks count (length words) zero_words are_zero ∙ ap (λ k. replicate k false)
      (sym (count_is count words summary sums marks is_marks))

  pub cleared_sums : (zero_summary : List ℕ) → zero_summary ≡ replicate (length summary) 0 → IsSummed count zero_words zero_summary
  cleared_sums zero_summary are_zero_too = search zeros_summed
