-- Which header is committed after a publish, and what damage to a header can do.
use Rattle.std.specs.Prelude.{◌≡◌, ◌⊎◌, ℕ, ◌+◌, ◌%◌, ◌≤◌, List, None}
use Rattle.header_slots.specs.Slots.{IsCommitted, Opens, Slots}
use Rattle.header_slots.specs.Publish.{IsOneOf, IsPublished, OthersStay, Runs, TearsGate, TearsHeader}

abbrev pub OneIsCommitted : Type 0
OneIsCommitted = (slots : Slots) (s t : ℕ) → IsCommitted slots s → IsCommitted slots t → s ≡ t

-- while header s + 1 is being written, header s stays committed
abbrev pub HeaderCommitsNothing : Type 0
HeaderCommitsNothing = (old new : Slots) (s : ℕ) (a : List ℕ) → Opens old s a → TearsHeader s old new → Opens new s a

-- while the gate of header s + 1 is being written, header s or s + 1 is committed
abbrev pub GateCommits : Type 0
GateCommits = (old new : Slots) (s : ℕ) (a b : List ℕ) → Opens old s a → TearsGate s b old new →
    Opens new s a ⊎ Opens new (s + 1) b

-- after header s + 1 and its gate are written, header s + 1 is committed
abbrev pub PublishedIsCommitted : Type 0
PublishedIsCommitted = (old new : Slots) (s : ℕ) (a b : List ℕ) → Opens old s a → IsPublished s b old new →
    Opens new (s + 1) b

-- after any run the first header is committed, or a later one that was published since
abbrev pub RunsCommit : Type 0
RunsCommit = (first last : Slots) (published : List (List ℕ)) (s : ℕ) (a : List ℕ) → Opens first s a →
    Runs first published last → (t : ℕ) × (b : List ℕ) × (s ≤ t) × (b ≡ a ⊎ IsOneOf b published) × Opens last t b

-- if header s is committed, and then some header is no longer sound, or the header in the slot of s + 1 changes in any
-- way, header s stays committed, or none is
abbrev pub BrokenHeadersAreSeen : Type 0
BrokenHeadersAreSeen = (old new : Slots) (s slot t : ℕ) (a b : List ℕ) → Opens old s a → OthersStay slot old new →
    (new slot).gate ≡ (old slot).gate → ((new slot).header ≡ None ⊎ (slot ≡ (s + 1) % 3)) → Opens new t b →
    (t ≡ s) × (b ≡ a)
