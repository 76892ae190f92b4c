-- How many numbers weren't found. No public clause uses this.
use Rattle.std.specs.Prelude.{ℕ, suc, Option, None, Some, List, [], ◌∷◌}

-- how many items of a list are `None`
abbrev pub missing : {X : Type 0} → List (Option X) → ℕ
missing [] = 0
missing (None ∷ xs) = suc (missing xs)
missing (Some x ∷ xs) = missing xs
