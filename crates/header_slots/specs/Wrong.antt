-- Weaker protocols, and what each gets wrong.
use Rattle.std.specs.Prelude.{◌≡◌, ◌⊎◌, ℕ, ◌+◌, ◌%◌, ◌≤◌, List, None, Some}
use Rattle.header_slots.specs.Publish.{OthersStay, TearsHeader}
use Rattle.header_slots.specs.Slots.{Counts, IsGreatestPair, Opens, Slots}

-- with one sync for header and gate, both may be torn at once, so a header could be committed that nobody wrote
abbrev pub OneSyncIsTooFew : Type 0
OneSyncIsTooFew = ((old new : Slots) (s : ℕ) (a b : List ℕ) → Opens old s a → OthersStay ((s + 1) % 3) old new →
    Opens new s a ⊎ Opens new (s + 1) b) → ⊥

-- a weaker rule without neighbours: the committed header is the greatest that counts
pub record IsGreatestAlone (slots : Slots) (s : ℕ) : Type 0 where
  pub counts : Counts slots s
  pub greatest : (n : ℕ) → Counts slots n → n ≤ s
  pub next : (slots ((s + 1) % 3)).gate ≡ Some (s + 1) → ⊥

-- by this rule a torn header could become committed
abbrev pub NeighboursAreNeeded : Type 0
NeighboursAreNeeded = ((old new : Slots) (s : ℕ) → IsGreatestAlone old s → TearsHeader s old new →
    IsGreatestAlone new s) → ⊥

-- by a rule that ignores the next gate, a torn header could become committed
abbrev pub NextGateIsNeeded : Type 0
NextGateIsNeeded = ((old new : Slots) (s : ℕ) → IsGreatestPair old s → TearsHeader s old new → IsGreatestPair new s) → ⊥

-- by the same rule, if the committed header breaks, the one before it becomes committed
abbrev pub NextGateShowsDamage : Type 0
NextGateShowsDamage = ((old new : Slots) (s t : ℕ) → IsGreatestPair old s → OthersStay (s % 3) old new →
    (new (s % 3)).gate ≡ (old (s % 3)).gate → (new (s % 3)).header ≡ None → IsGreatestPair new t → t ≡ s) → ⊥
