-- The halves of the log, as extents of a plan.
use Rattle.layout.proofs.Names.{[], ℕ, length, Bool, subst, inl, inr, arith, ⊎_elim, nat_tests, length-map, get_or-append_right, Extent, Half, First, Second}
use Rattle.layout.proofs.Names.{half_of, Plan, IsPlan, IsWithin, IsApart, IsInside, extent_at, extents, half_extent, half_start, half_sector}
use Rattle.layout.proofs.Names.{directory_length}
use Rattle.std.proofs.Common.{◌≡◌, ◌+◌, ◌*◌, ◌%◌, ◌<◌, ◌≤◌, ◌∷◌, length-append}
use Rattle.std.specs.Prelude.{◌==◌, if◌then◌else◌}
use Rattle.layout.proofs.Versions.{half_has}

pub itself : (e : Extent) → IsInside e e
itself e = record { starts = omega arith; ends = omega arith }

pub apart_inside : (d e outer_d outer_e : Extent) → IsInside d outer_d → IsInside e outer_e → IsApart outer_d outer_e → IsApart d e
apart_inside d e outer_d outer_e in_d in_e apart = grind (arith, nat_tests)

pub apart_turned : (d e : Extent) → IsApart d e → IsApart e d
apart_turned d e apart = ⊎_elim (λ le. inr le) (λ le. inl le) apart

pub within_inside : (total : ℕ) (d outer : Extent) → IsInside d outer → IsWithin total outer → IsWithin total d
within_inside total d outer inside within = (omega (arith, inside.starts, within.0), omega (arith, inside.ends, within.1))

-- a plan has two extents more than ranges: those of the halves
pub many : (p : Plan) → length (extents p) ≡ length p.ranges + 2
many p = grind (arith, nat_tests, length-append, length-map)

pub half_at : (p : Plan) (k : ℕ) →
    extent_at (extents p) (length p.ranges + k) ≡ extent_at (half_extent p.version p.geometry p.half_0 ∷ half_extent p.version p.geometry
    p.half_1 ∷ []) k
half_at p k = grind (arith, nat_tests, length-map, get_or-append_right)

within_at : (p : Plan) (k : ℕ) → IsPlan p → k < 2 → IsWithin p.total (extent_at
    (half_extent p.version p.geometry p.half_0 ∷ half_extent p.version p.geometry p.half_1 ∷ []) k)
within_at p k fits few = subst (IsWithin p.total) (half_at p k) (fits.within (length p.ranges + k) (record { sector = 0; length = 0 })
    (omega (arith, many p)))

within_by : (p : Plan) (h : Half) → IsPlan p → IsWithin p.total (half_extent p.version p.geometry (half_start p h))
within_by p First fits = within_at p 0 fits (omega arith)
within_by p Second fits = within_at p 1 fits (omega arith)

halves_apart : (p : Plan) → IsPlan p → IsApart (half_extent p.version p.geometry p.half_0) (half_extent p.version p.geometry p.half_1)
halves_apart p fits = grind (arith, nat_tests, many p, half_at p 0, half_at p 1)

apart_by : (p : Plan) (h other : Half) → IsPlan p → (h ≡ other → ⊥) →
    IsApart (half_extent p.version p.geometry (half_start p h)) (half_extent p.version p.geometry (half_start p other))
apart_by p h other fits differ = grind (arith, nat_tests, halves_apart, apart_turned)

same_test : (b c : Bool) → (if b then First else Second) ≡ (if c then First else Second) → b ≡ c
same_test b c e = grind (arith, nat_tests)

even_same : (a b : ℕ) → (a % 2 == 0) ≡ (b % 2 == 0) → a % 2 ≡ b % 2
even_same a b same = grind (arith, nat_tests)

same_parity : (a b : ℕ) → half_of a ≡ half_of b → a % 2 ≡ b % 2
same_parity a b same = even_same a b (same_test (a % 2 == 0) (b % 2 == 0) same)

-- the half of a generation lies after the headers and before the end
pub half_within : (p : Plan) (generation : ℕ) → IsPlan p → IsWithin p.total (half_extent p.version p.geometry (half_sector p generation))
half_within p generation fits = within_by p (half_of generation) fits

-- each half begins at sector 5 or later; its slots and its directory end before the total
pub half_lies : (p : Plan) (generation : ℕ) → IsPlan p → (5 ≤ half_sector p generation)
    × (half_sector p generation + 9 * p.geometry.log + directory_length p.version p.geometry.log ≤ p.total)
half_lies p generation fits =
    let within = half_within p generation fits in
    let has = half_has p.version p.geometry in
    (within.0, omega (arith, within.1, has))

-- the halves of generations with different remainders mod 2 don't overlap
pub half_apart : (p : Plan) (a b : ℕ) → IsPlan p → (a % 2 ≡ b % 2 → ⊥) →
    IsApart (half_extent p.version p.geometry (half_sector p a)) (half_extent p.version p.geometry (half_sector p b))
half_apart p a b fits differ = apart_by p (half_of a) (half_of b) fits (λ same. differ (same_parity a b same))
