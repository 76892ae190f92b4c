-- How a set of numbers is stored: bits in words of 64, and a summary of the words. No public clause cites this.
use Rattle.std.specs.Prelude.{◌≡◌, ◌≢◌, ℕ, ◌*◌, ◌/◌, ◌%◌, ◌^◌, ◌<◌, ◌≤◌, min, Bool, true, false, List, length, map}
use Rattle.std.specs.Prelude.{nat_eq, slice_index}
use Rattle.std.specs.Int.{bit_at, div_ceil}
use Rattle.std.specs.List.{range_with_len}

-- the bit of number n, in words of 64 bits
unfoldable pub bit_of : List ℕ → ℕ → ℕ
bit_of words n = bit_at (slice_index words (n / 64)) (n % 64)

-- a mark as a bit
abbrev pub digit : Bool → ℕ
digit true = 1
digit false = 0

-- the marks of the numbers below `count`, read from their bits
unfoldable pub marks_of : ℕ → List ℕ → List Bool
marks_of count words = map (λ n. nat_eq (bit_of words n) 1) (range_with_len 0 count)

-- `bit` is the lowest bit of `word`, from bit `from` on, that is 1
pub record IsLowestFrom (word from bit : ℕ) : Type 0 where
  pub past : from ≤ bit
  pub inside : bit < 64
  pub set : bit_at word bit ≡ 1
  pub least : (other : ℕ) → from ≤ other → other < bit → bit_at word other ≡ 0

-- n is the least number from `from` on whose bit is 1
pub record IsFirstSet (words : List ℕ) (from n : ℕ) : Type 0 where
  pub past : from ≤ n
  pub set : bit_of words n ≡ 1
  pub least : (m : ℕ) → from ≤ m → m < n → bit_of words m ≡ 0

-- no number from `from` on has the bit 1
abbrev pub HasNoneSet : List ℕ → ℕ → Type 0
HasNoneSet words from = (m : ℕ) → from ≤ m → bit_of words m ≡ 0

-- n is the least number from `from` on whose bit is 0
pub record IsFirstClear (words : List ℕ) (from n : ℕ) : Type 0 where
  pub past : from ≤ n
  pub clear : bit_of words n ≡ 0
  pub least : (m : ℕ) → from ≤ m → m < n → bit_of words m ≡ 1

-- each number from `from` to the end of the words has the bit 1
abbrev pub HasNoneClear : List ℕ → ℕ → Type 0
HasNoneClear words from = (m : ℕ) → from ≤ m → m < length words * 64 → bit_of words m ≡ 1

-- `new` is `old`, with n's bit set to `bit`
pub record IsBitPut (old : List ℕ) (n bit : ℕ) (new : List ℕ) : Type 0 where
  pub same_length : length new ≡ length old
  pub here : bit_of new n ≡ bit
  pub others : (m : ℕ) → m ≢ n → bit_of new m ≡ bit_of old m
  pub other_words : (w : ℕ) → w ≢ n / 64 → slice_index new w ≡ slice_index old w

-- the bits of a summary say which words are not 0
abbrev pub SumsUp : List ℕ → List ℕ → Type 0
SumsUp words summary = (w : ℕ) → bit_of summary w ≡ min 1 (slice_index words w)

-- words and summary have the lengths for `count` numbers, no bit past these is 1, and the summary is right
pub record IsSummed (count : ℕ) (words summary : List ℕ) : Type 0 where
  pub fits : count < 2 ^ 64
  pub words_each : length words ≡ div_ceil count 64
  pub summary_each : length summary ≡ div_ceil (length words) 64
  pub past : HasNoneSet words count
  pub summed : SumsUp words summary
