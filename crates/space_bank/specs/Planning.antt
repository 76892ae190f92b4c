-- What the planning of a bank's order reads.
use Rattle.space_bank.specs.Names.{ℕ, Bool, true, false, List, [], length, slice_index, Capability, Process, Operation}
use Rattle.space_bank.specs.Names.{Call, Return, Send, Object, is_free, annex_at, content_at, is_marked, is_under}
use Rattle.space_bank.specs.Names.{owned_by, under, object_at, owner_at, not}
use Rattle.std.specs.Prelude.{◌≡◌, ◌+◌, ◌<◌, ◌≤◌, ◌++◌, ◌∷◌, ◌==◌, ◌&&◌, ◌||◌, if◌then◌else◌}
use Rattle.space_bank.specs.Banks.{BanksState}

-- the annex of the process that a capability names, if it names one
abbrev pub annex_of : List Object → Capability → List ℕ
annex_of os (Process p) = annex_at os p ∷ []
annex_of os _ = []

-- the annex of the process that a capability names, looked up in the recorded annexes
abbrev pub annex_among : List ℕ → Capability → List ℕ
annex_among annexes (Process p) = slice_index annexes p ∷ []
annex_among annexes _ = []

-- whether n is listed for bank b: if `deep`, the bank and all objects under it are, else those that it owns itself
abbrev pub is_listed : List Object → ℕ → Bool → ℕ → Bool
is_listed os b deep n = if deep then (n == b) || is_under os b (object_at os n) else
    not (is_free (content_at os n)) && (owner_at os n == b)

abbrev pub listed_by : List Object → ℕ → Bool → List ℕ
listed_by os b deep = if deep then under os b else owned_by os b

-- bank b has a usage and a limit, and the usage is within the limit
pub record HasLeft (s : BanksState) (b : ℕ) : Type 0 where
  pub usage : b < length s.usages
  pub limit : b < length s.limits
  pub within : slice_index s.usages b ≤ slice_index s.limits b

-- the marks, nodes first, say which numbers are free
pub record AreFree (os : List Object) (nodes pages : List Bool) : Type 0 where
  pub each : length nodes + length pages ≡ length os
  pub free : (n : ℕ) → n < length os → is_marked (nodes ++ pages) n ≡ is_free (content_at os n)

-- n is the least number from `from` on that isn't free
pub record IsNextUsed (os : List Object) (from n : ℕ) : Type 0 where
  pub past : from ≤ n
  pub inside : n < length os
  pub used : is_free (content_at os n) ≡ false
  pub least : (m : ℕ) → from ≤ m → m < n → is_free (content_at os m) ≡ true

-- all numbers from `from` on are free
abbrev pub HasNoneUsed : List Object → ℕ → Type 0
HasNoneUsed os from = (m : ℕ) → from ≤ m → m < length os → is_free (content_at os m) ≡ true

-- the numbers that an invocation of a kernel object writes itself: for a call the process and its annex, for a return
-- the process, else none
abbrev pub writers : Operation → ℕ → ℕ → List ℕ
writers operation p annex = elim operation [ Call ↦ p ∷ annex ∷ [] | Return ↦ p ∷ [] | Send ↦ [] ]

-- how many numbers `writers` has
abbrev pub writer_count : Operation → ℕ
writer_count Call = 2
writer_count Return = 1
writer_count Send = 0
