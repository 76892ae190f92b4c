-- Numbers in the order of their last use, the one used last first.
use Rattle.cache_entries.specs.Names.{ℕ, Bool, true, false, Option, Some, None, is_some, nat_lt, option_map, List, []}
use Rattle.cache_entries.specs.Names.{length, map, take, slice_get, slice_index, slice_index_or, slice_set, is_member}
use Rattle.cache_entries.specs.Names.{Cap, held_at, Content}
use Rattle.std.specs.Prelude.{◌≡◌, ◌==◌, ◌-◌, ◌<◌, ◌≤◌, if◌then◌else◌, ◌∷◌}
use Rattle.cache_entries.specs.Entries.{Entry, entry_at, new_entry, with_entry}

-- no number occurs twice
abbrev pub AllDiffer : List ℕ → Type 0
AllDiffer [] = Unit {0}
AllDiffer (n ∷ ns) = (is_member ns n ≡ false) × AllDiffer ns

-- the order without a number
abbrev pub without : ℕ → List ℕ → List ℕ
without n [] = []
without n (m ∷ ms) = if n == m then ms else m ∷ without n ms

-- the keys are the numbers below `count`, each once
pub record IsFilled (keys : List ℕ) (count : ℕ) : Type 0 where
  pub once : AllDiffer keys
  pub all : length keys ≡ count
  pub known : (p : ℕ) → is_member keys p ≡ true → p < count

-- the number used longest ago
abbrev pub used_longest_ago : List ℕ → Option ℕ
used_longest_ago ns = slice_get ns (length ns - 1)

-- the order after these numbers were used in turn
abbrev pub used_in_turn : List ℕ → List ℕ → List ℕ
used_in_turn [] order = order
used_in_turn (n ∷ ns) order = used_in_turn ns (n ∷ without n order)

-- numbers in the order of their last use, the place of each, and how many numbers there may be
pub record OrderState : Type 0 where
  pub numbers : List ℕ
  pub places : List (Option ℕ)
  pub most : ℕ

abbrev pub place_at : List (Option ℕ) → ℕ → Option ℕ
place_at ps n = slice_index_or ps n None

-- the order after n, one of its numbers, was used
abbrev pub used_last : ℕ → OrderState → OrderState
used_last n s = record { numbers = n ∷ without n s.numbers; places = s.places; most = s.most }

-- the order after these of its numbers were used in turn
abbrev pub used_all : List ℕ → OrderState → OrderState
used_all ns s = record { numbers = used_in_turn ns s.numbers; places = s.places; most = s.most }

-- the order contains exactly the numbers that have a place, each once; no two have the same place
pub record AreSpread (s : OrderState) : Type 0 where
  pub listed : (n : ℕ) → is_member s.numbers n ≡ is_some (place_at s.places n)
  pub once : AllDiffer s.numbers
  pub few : length s.numbers ≤ s.most
  pub within : (n p : ℕ) → place_at s.places n ≡ Some p → p < s.most
  pub apart : (n m p : ℕ) → place_at s.places n ≡ Some p → place_at s.places m ≡ Some p → n ≡ m

-- a place, or `None` if p is past all places
abbrev pub place_below : ℕ → ℕ → Option ℕ
place_below most p = if nat_lt p most then Some p else None

-- An order, from the list of all places by their last use, the number of each place, and the place of each number.
-- Only the first `count` places in the list have a number.
abbrev pub order_of : List ℕ → List ℕ → List ℕ → ℕ → OrderState
order_of keys numbers places count = record {
  numbers = map (slice_index numbers) (take count keys);
  places = map (place_below (length numbers)) places;
  most = length numbers;
}

pub record ArePlaced (keys numbers places : List ℕ) (count : ℕ) : Type 0 where
  pub filled : IsFilled keys (length numbers)
  pub some : 0 < length numbers
  pub few : count ≤ length numbers
  pub back : (p : ℕ) → is_member (take count keys) p ≡ true
      → slice_index_or places (slice_index numbers p) (length numbers) ≡ p
  pub used : (n : ℕ) → slice_index_or places n (length numbers) < length numbers
      → is_member (take count keys) (slice_index_or places n (length numbers)) ≡ true
  pub forth : (n : ℕ) → slice_index_or places n (length numbers) < length numbers
      → slice_index numbers (slice_index_or places n (length numbers)) ≡ n

-- a log of uses: the numbers used, in turn; a bound on these numbers; and the most uses that fit
pub record LogState : Type 0 where
  pub uses : List ℕ
  pub count : ℕ
  pub most : ℕ

-- the use at index i is of number n
pub record IsUseAt (uses : List ℕ) (i n : ℕ) : Type 0 where
  pub within : i < length uses
  pub there : slice_index uses i ≡ n

-- each number in the log has a stamp: the index of one of its uses
pub record AreStamped (uses stamps : List ℕ) : Type 0 where
  pub known : (n : ℕ) → is_member uses n ≡ true → n < length stamps
  pub stamped : (n : ℕ) → is_member uses n ≡ true → IsUseAt uses (slice_index stamps n) n

-- the log uses only numbers of this order
pub record IsLogOf (l : LogState) (s : OrderState) : Type 0 where
  pub listed : (n : ℕ) → is_member l.uses n ≡ true → is_member s.numbers n ≡ true
  pub count : l.count ≡ length s.places
  pub some : 0 < l.most

-- the first `count` numbers of the list were used in turn; all of them, if `said`
pub record Uses (s t : OrderState) (ns : List ℕ) (said : Bool) : Type 0 where
  pub count : ℕ
  pub used : t ≡ used_all (take count ns) s
  pub listed : (n : ℕ) → is_member (take count ns) n ≡ true → is_member s.numbers n ≡ true
  pub whole : said ≡ true → length ns ≤ count

-- entries by number, the numbers with an entry in the order of their last use, and how many entries there may be
pub record EntriesState : Type 0 where
  pub at : List (Option Entry)
  pub order : List ℕ
  pub most : ℕ

-- the entry at a place: its present body, and its frozen copy if the place is marked
abbrev pub entry_in : List (Content Cap) → List (Content Cap) → List Bool → ℕ → Entry
entry_in presents kepts marks p = record {
  present = held_at presents p;
  kept = if slice_index_or marks p false then Some (held_at kepts p) else None;
}

abbrev pub entries_of : OrderState → List (Content Cap) → List (Content Cap) → List Bool → EntriesState
entries_of o presents kepts marks = record {
  at = map (option_map (entry_in presents kepts marks)) o.places;
  order = o.numbers;
  most = o.most;
}

-- at least eight places, each with a present body, a frozen copy, and a mark that says whether the copy counts
pub record AreStored (most : ℕ) (ps ks : List (Content Cap)) (ms : List Bool) : Type 0 where
  pub least : 8 ≤ most
  pub presents : length ps ≡ most
  pub kepts : length ks ≡ most
  pub marks : length ms ≡ most

-- the order contains each number with an entry, once; there are at most `most`, which is at least eight
pub record AreOrdered (s : EntriesState) : Type 0 where
  pub listed : (n : ℕ) → is_member s.order n ≡ is_some (entry_at s.at n)
  pub once : AllDiffer s.order
  pub few : length s.order ≤ s.most
  pub least : 8 ≤ s.most

-- the entries, with that of number n changed
abbrev pub with_entry_of : (Entry → Entry) → ℕ → EntriesState → EntriesState
with_entry_of change n s = record { at = with_entry change n s.at; order = s.order; most = s.most }

-- the entries with a new one for number n, which was used last
abbrev pub with_new : ℕ → Content Cap → EntriesState → EntriesState
with_new n c s = record { at = slice_set s.at n (Some (new_entry c)); order = n ∷ s.order; most = s.most }

-- the entries without that of number n
abbrev pub without_entry : ℕ → EntriesState → EntriesState
without_entry n s = record { at = slice_set s.at n None; order = without n s.order; most = s.most }

-- the entries after number n was used
abbrev pub used_now : ℕ → EntriesState → EntriesState
used_now n s = record { at = s.at; order = n ∷ without n s.order; most = s.most }
