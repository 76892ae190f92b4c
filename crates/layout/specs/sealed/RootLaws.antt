-- Which damage the root and the directory sums show.
use Rattle.layout.specs.Names.{ℕ, List, Fit, Sums}
use Rattle.std.specs.Prelude.{◌≡◌, ◌∷◌, ◌++◌}
use Rattle.layout.specs.sealed.Root.{Unit, directory_sums, root_of}

abbrev pub unit_of : ℕ → Sums → Unit
unit_of number seal = record { number = number; seal = seal }

-- if one unit gets another seal, the root changes
abbrev pub OneOldUnitIsSeen : Type 0
OneOldUnitIsSeen = (before after : List Unit) (number : ℕ) (s t : Sums) → Fit s → Fit t →
    root_of (before ++ unit_of number s ∷ after) ≡ root_of (before ++ unit_of number t ∷ after) → s ≡ t

-- the order of the units doesn't matter
abbrev pub UnitsHaveNoOrder : Type 0
UnitsHaveNoOrder = (before after : List Unit) (u : Unit) → root_of (before ++ u ∷ after) ≡ root_of (u ∷ before ++ after)

-- if one sector of a directory gets another seal, the directory's sums change
abbrev pub OneOldSectorIsSeen : Type 0
OneOldSectorIsSeen = (before after : List Sums) (s t : Sums) → Fit s → Fit t →
    directory_sums (before ++ s ∷ after) ≡ directory_sums (before ++ t ∷ after) → s ≡ t
