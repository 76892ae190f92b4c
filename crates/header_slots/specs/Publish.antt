-- What a crash leaves in the header slots while header s + 1 is published after header s.
use Rattle.std.specs.Prelude.{◌≡◌, ◌⊎◌, ℕ, ◌+◌, ◌%◌, List, [], ◌∷◌, Some}
use Rattle.header_slots.specs.Slots.{IsCommitted, Slots}

-- all slots except one are unchanged
abbrev pub OthersStay : ℕ → Slots → Slots → Type 0
OthersStay slot old new = (k : ℕ) → (k ≡ slot → ⊥) → new k ≡ old k

-- header s + 1 is being written: its sector may decode to any header or none
pub record TearsHeader (s : ℕ) (old new : Slots) : Type 0 where
  pub others : OthersStay ((s + 1) % 3) old new
  pub gate : (new ((s + 1) % 3)).gate ≡ (old ((s + 1) % 3)).gate

-- header s + 1 is durable, and its gate is being written: the gate may have any number or none
pub record TearsGate (s : ℕ) (row : List ℕ) (old new : Slots) : Type 0 where
  pub others : OthersStay ((s + 1) % 3) old new
  pub header : (new ((s + 1) % 3)).header ≡ Some (s + 1)
  pub bytes : (new ((s + 1) % 3)).bytes ≡ row

-- header s + 1 and its gate are durable
pub record IsPublished (s : ℕ) (row : List ℕ) (old new : Slots) : Type 0 where
  pub others : OthersStay ((s + 1) % 3) old new
  pub header : (new ((s + 1) % 3)).header ≡ Some (s + 1)
  pub bytes : (new ((s + 1) % 3)).bytes ≡ row
  pub gate : (new ((s + 1) % 3)).gate ≡ Some (s + 1)

-- Publishes one after another, each completed or cut off by a crash; each follows the header committed at that time.
-- The list has the headers whose gates were written, even if torn, the last one first.
pub data Runs : Slots → List (List ℕ) → Slots → Type 0 where
  none : {slots : Slots} → Runs slots [] slots
  cut_at_header : {first old new : Slots} {published : List (List ℕ)} {s : ℕ} →
      Runs first published old → IsCommitted old s → TearsHeader s old new → Runs first published new
  came_to_gate : {first old new : Slots} {published : List (List ℕ)} {s : ℕ} {bytes : List ℕ} →
      Runs first published old → IsCommitted old s → TearsGate s bytes old new → Runs first (bytes ∷ published) new

-- x is in this list
abbrev pub IsOneOf : List ℕ → List (List ℕ) → Type 0
IsOneOf x [] = ⊥
IsOneOf x (y ∷ ys) = (x ≡ y) ⊎ IsOneOf x ys
