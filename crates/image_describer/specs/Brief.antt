-- Descriptions that omit defaults, and list the rest in rising order.
use Rattle.image_describer.specs.Names.{ℕ, List, [], map, length, slice_index_or, unwrap_or, Some, All, Capability}
use Rattle.image_describer.specs.Names.{Void, Description, SlotEntry, WordEntry, first_named}
use Rattle.std.specs.Prelude.{◌≡◌, ◌≢◌, ◌<◌, ◌∷◌}

-- each number is greater than the one before it
abbrev pub AreRising : List ℕ → Type 0
AreRising [] = Unit {0}
AreRising (n ∷ ns) = All (λ m. n < m) ns × AreRising ns

-- there is an entry for each item of a list that isn't the default, in order
pub record Names {E V : Type 0} (index : E → ℕ) (value : E → V) (default : V) (xs : List V) (es : List E) : Type 0 where
  pub each : (i : ℕ) → first_named index value default es i ≡ slice_index_or xs i default
  pub some : All (λ e. value e ≢ default) es
  pub within : All (λ e. index e < length xs) es
  pub rising : AreRising (map index es)

-- there is an entry for each capability that isn't void
abbrev pub NamesSlots : List Capability → List SlotEntry → Type 0
NamesSlots slots entries = Names (λ s. s.index) (λ s. unwrap_or s.capability Void) Void slots entries

-- there is an entry for each word that isn't 0
abbrev pub NamesWords : List ℕ → List WordEntry → Type 0
NamesWords words entries = Names (λ w. w.index) (λ w. w.word) 0 words entries

-- slots in rising order, none of them void
abbrev pub AreBriefSlots : List SlotEntry → Type 0
AreBriefSlots slots = AreRising (map (λ s. s.index) slots) × All (λ s. s.capability ≢ Some Void) slots

-- words in rising order, none of them 0
abbrev pub AreBriefWords : List WordEntry → Type 0
AreBriefWords words = AreRising (map (λ w. w.index) words) × All (λ w. w.word ≢ 0) words

-- the description lists nothing that has its default, and all numbers rise
pub record IsBrief (d : Description) : Type 0 where
  pub banks : AreRising (map (λ b. b.number) d.banks.items)
  pub processes : AreRising (map (λ p. p.root) d.processes.items)
  pub nodes : AreRising (map (λ n. n.number) d.nodes.items)
  pub pages : AreRising (map (λ p. p.number) d.pages.items)
  pub registers : All (λ p. AreBriefSlots p.registers.items) d.processes.items
  pub slots : All (λ n. AreBriefSlots n.slots.items) d.nodes.items
  pub words : All (λ p. AreBriefWords p.words.items) d.pages.items
