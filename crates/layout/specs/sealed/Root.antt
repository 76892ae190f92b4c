-- The root: sums over all units of an image. Also the sums over a directory.
use Rattle.std.specs.Prelude.{ℕ, ◌+◌, ◌*◌, ◌^◌, ◌%◌, List, [], ◌∷◌}
use Rattle.seal.specs.declared.sums.Sums.{Sums}

-- a unit, by its number and its seal: a cluster with its least number, or the header sector of a page
pub record Unit : Type 0 where
  pub number : ℕ
  pub seal : Sums

-- one of the three root sums: each unit's sum counts 2 n + 1 times, n being its number
abbrev pub units_total : (Sums → ℕ) → List Unit → ℕ
units_total part [] = 0
units_total part (u ∷ us) = (2 * u.number + 1) * part u.seal + units_total part us

abbrev pub modulo : ℕ → ℕ → ℕ → Sums
modulo a b c = record { a = a % 2 ^ 64; b = b % 2 ^ 64; c = c % 2 ^ 64 }

unfoldable pub root_of : List Unit → Sums
root_of us = modulo (units_total (λ s. s.a) us) (units_total (λ s. s.b) us) (units_total (λ s. s.c) us)

-- one of the three sums over all seals
abbrev pub seals_total : (Sums → ℕ) → List Sums → ℕ
seals_total part [] = 0
seals_total part (s ∷ ss) = part s + seals_total part ss

unfoldable pub directory_sums : List Sums → Sums
directory_sums ss = modulo (seals_total (λ s. s.a) ss) (seals_total (λ s. s.b) ss) (seals_total (λ s. s.c) ss)

-- the sums with a seal added, times a weight, modulo 2^64
abbrev pub weighed : Sums → ℕ → Sums → Sums
weighed sums weight seal = modulo (sums.a + weight * seal.a) (sums.b + weight * seal.b) (sums.c + weight * seal.c)
