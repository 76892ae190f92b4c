-- The root sums, and which changes they detect.
use Rattle.layout.proofs.Names.{ℕ, List, [], zero, suc, ap, sym, refl, inl, inr, arith, add-mul, mul-add, mul_assoc, mul_comm, pow-suc, cases_lt, Sums}
use Rattle.layout.proofs.Names.{same_sums, Unit, directory_sums, root_of, seals_total, units_total, weighed, OneOldSectorIsSeen, OneOldUnitIsSeen}
use Rattle.layout.proofs.Names.{UnitsHaveNoOrder, unit_of}
use Rattle.std.proofs.Common.{◌≡◌, ◌+◌, ◌-◌, ◌*◌, ◌/◌, ◌%◌, ◌^◌, ◌<◌, ◌≤◌, ◌∷◌, ◌++◌, ◌∙◌}

-- ---- the sums with one unit more or less

sum_more : (t x : ℕ) → (t % 2 ^ 64 + x) % 2 ^ 64 ≡ (x + t) % 2 ^ 64
sum_more t x = omega arith

sum_less : (r x t : ℕ) → r < 2 ^ 64 → (r + x) % 2 ^ 64 ≡ (x + t) % 2 ^ 64 → r ≡ t % 2 ^ 64
sum_less r x t small e = omega (arith, small, e)

sum_more' : (t x : ℕ) → (t % 2 ^ 64 + 1 * x) % 2 ^ 64 ≡ (x + t) % 2 ^ 64
sum_more' t x = omega arith

pub unit_more : (number : ℕ) (seal root result : Sums) (us : List Unit) → result ≡ weighed root (2 * number + 1) seal → root ≡ root_of us →
    result ≡ root_of (unit_of number seal ∷ us)
unfolding root_of
unit_more number seal root result us is was =
    let w : ℕ = 2 * number + 1 in
    is ∙ ap (λ (r : Sums). weighed r w seal) was
    ∙ same_sums (weighed (root_of us) w seal) (root_of (unit_of number seal ∷ us)) (sum_more (units_total (λ s. s.a) us) (w * seal.a))
    (sum_more (units_total (λ s. s.b) us) (w * seal.b)) (sum_more (units_total (λ s. s.c) us) (w * seal.c))

pub sector_more : (seal sums result : Sums) (ss : List Sums) → result ≡ weighed sums 1 seal → sums ≡ directory_sums ss →
    result ≡ directory_sums (seal ∷ ss)
unfolding directory_sums
sector_more seal sums result ss is was =
    is ∙ ap (λ (r : Sums). weighed r 1 seal) was
    ∙ same_sums (weighed (directory_sums ss) 1 seal) (directory_sums (seal ∷ ss)) (sum_more' (seals_total (λ s. s.a) ss) seal.a)
    (sum_more' (seals_total (λ s. s.b) ss) seal.b) (sum_more' (seals_total (λ s. s.c) ss) seal.c)

pub unit_less : (number : ℕ) (seal root result : Sums) (us : List Unit) → result.a < 2 ^ 64 → result.b < 2 ^ 64 → result.c < 2 ^ 64
    → weighed result (2 * number + 1) seal ≡ root → root ≡ root_of (unit_of number seal ∷ us) → result ≡ root_of us
unfolding root_of
unit_less number seal root result us a b c is was =
    let w : ℕ = 2 * number + 1 in
    let same : weighed result w seal ≡ root_of (unit_of number seal ∷ us) = is ∙ was in
    same_sums result (root_of us)
    (sum_less result.a (w * seal.a) (units_total (λ s. s.a) us) a (ap (λ (s : Sums). s.a) same))
    (sum_less result.b (w * seal.b) (units_total (λ s. s.b) us) b (ap (λ (s : Sums). s.b) same))
    (sum_less result.c (w * seal.c) (units_total (λ s. s.c) us) c (ap (λ (s : Sums). s.c) same))

-- ---- divisibility by 2^k

product : (u d : ℕ) → (2 * u + 1) * d ≡ 2 * (u * d) + d
product u d = add-mul (2 * u) 1 d ∙ ap (λ (x : ℕ). x + 1 * d) (mul_assoc 2 u d) ∙ omega arith

mul_left_comm : (a b c : ℕ) → a * (b * c) ≡ b * (a * c)
mul_left_comm a b c = sym (mul_assoc a b c) ∙ ap (λ (x : ℕ). x * c) (mul_comm a b) ∙ mul_assoc b a c

power_more : (k m : ℕ) → 2 ^ suc k * m ≡ 2 * (2 ^ k * m)
power_more k m = ap (λ (x : ℕ). x * m) (pow-suc 2 k ∙ mul_comm (2 ^ k) 2) ∙ mul_assoc 2 (2 ^ k) m

half_of : (u d q : ℕ) → (2 * u + 1) * d ≡ 2 * q → (e : ℕ) × (d ≡ 2 * e) × ((2 * u + 1) * e ≡ q)
half_of u d q is =
    let split : (2 * u + 1) * d ≡ 2 * (u * d) + d = product u d in
    let e : ℕ = q - u * d in
    let even : d ≡ 2 * e = omega (arith, is, split) in
    let double : (2 * u + 1) * d ≡ 2 * ((2 * u + 1) * e) =
    ap (λ (x : ℕ). (2 * u + 1) * x) even ∙ mul_left_comm (2 * u + 1) 2 e in
    (e, even, omega (arith, is, double))

-- if an odd number times d is a multiple of 2^k, d is a multiple of 2^k
odd_factor : (k u d m : ℕ) → (2 * u + 1) * d ≡ 2 ^ k * m → (e : ℕ) × (d ≡ 2 ^ k * e)
odd_factor zero u d m is = (d, omega arith)
odd_factor (suc k) u d m is =
    let power : 2 ^ suc k * m ≡ 2 * (2 ^ k * m) = power_more k m in
    let half = half_of u d (2 ^ k * m) (is ∙ power) in
    let rest = odd_factor k u half.0 m half.2 in
    (rest.0, half.1 ∙ ap (λ (x : ℕ). 2 * x) rest.1 ∙ sym (power_more k rest.0))

none_between : (d e : ℕ) → 0 < d → d < 2 ^ 60 → d ≡ 2 ^ 64 * e → ⊥
none_between d e some small is = omega (arith, some, small, is)

-- ---- one unit with a different seal

-- numbers that are equal modulo 2^64 after adding t differ by a multiple of 2^64
multiple : (t x y : ℕ) → x ≤ y → (x + t) % 2 ^ 64 ≡ (y + t) % 2 ^ 64 → y ≡ x + 2 ^ 64 * ((y + t) / 2 ^ 64 - (x + t) / 2 ^ 64)
multiple t x y le e = omega (arith, le, e)

no_less : (t u a b : ℕ) → b < 2 ^ 60 → a < b → ((2 * u + 1) * a + t) % 2 ^ 64 ≡ ((2 * u + 1) * b + t) % 2 ^ 64 → ⊥
no_less t u a b small lt e =
    let w : ℕ = 2 * u + 1 in
    let d : ℕ = b - a in
    let apart : w * b ≡ w * a + w * d = ap (λ (x : ℕ). w * x) (omega (arith, lt)) ∙ mul-add w a d in
    let m : ℕ = (w * b + t) / 2 ^ 64 - (w * a + t) / 2 ^ 64 in
    let far : w * b ≡ w * a + 2 ^ 64 * m = multiple t (w * a) (w * b) (omega (arith, apart)) e in
    let divided = odd_factor 64 u d m (omega (arith, apart, far)) in
    none_between d divided.0 (omega (arith, lt)) (omega (arith, small)) divided.1

same_part : (t u a b : ℕ) → a < 2 ^ 60 → b < 2 ^ 60 → ((2 * u + 1) * a + t) % 2 ^ 64 ≡ ((2 * u + 1) * b + t) % 2 ^ 64 → a ≡ b
same_part t u a b fa fb e =
    elim (cases_lt a b) [
      | inl less ↦ absurd (no_less t u a b fb less e)
      | inr ge ↦
          elim (cases_lt b a) [
            | inl less ↦ absurd (no_less t u b a fa less (sym e))
            | inr le ↦ omega (arith, ge, le)
          ]
    ]

-- the sums don't depend on where in the list a unit is
total_moved : (part : Sums → ℕ) (before after : List Unit) (u : Unit) → units_total part (before ++ u ∷ after)
    ≡ units_total part (u ∷ before ++ after)
total_moved part [] after u = refl
total_moved part (x ∷ before) after u = omega (arith, total_moved part before after u)

pub no_order : UnitsHaveNoOrder
unfolding root_of
no_order before after u =
    same_sums (root_of (before ++ u ∷ after)) (root_of (u ∷ before ++ after))
    (ap (λ (n : ℕ). n % 2 ^ 64) (total_moved (λ s. s.a) before after u))
    (ap (λ (n : ℕ). n % 2 ^ 64) (total_moved (λ s. s.b) before after u))
    (ap (λ (n : ℕ). n % 2 ^ 64) (total_moved (λ s. s.c) before after u))

pub one_old_unit : OneOldUnitIsSeen
unfolding root_of
one_old_unit before after n s t fs ft e =
    let rest : List Unit = before ++ after in
    let same : root_of (unit_of n s ∷ rest) ≡ root_of (unit_of n t ∷ rest) =
    sym (no_order before after (unit_of n s)) ∙ e ∙ no_order before after (unit_of n t) in
    same_sums s t
    (same_part (units_total (λ x. x.a) rest) n s.a t.a fs.a ft.a (ap (λ (r : Sums). r.a) same))
    (same_part (units_total (λ x. x.b) rest) n s.b t.b fs.b ft.b (ap (λ (r : Sums). r.b) same))
    (same_part (units_total (λ x. x.c) rest) n s.c t.c fs.c ft.c (ap (λ (r : Sums). r.c) same))

seals_moved : (part : Sums → ℕ) (before after : List Sums) (s : Sums) → seals_total part (before ++ s ∷ after)
    ≡ part s + seals_total part (before ++ after)
seals_moved part [] after s = refl
seals_moved part (x ∷ before) after s = omega (arith, seals_moved part before after s)

same_seal_part : (part : Sums → ℕ) (before after : List Sums) (s t : Sums) → part s < 2 ^ 60 → part t < 2 ^ 60
    → seals_total part (before ++ s ∷ after) % 2 ^ 64 ≡ seals_total part (before ++ t ∷ after) % 2 ^ 64 → part s ≡ part t
same_seal_part part before after s t fs ft e = omega (arith, seals_moved part before after s, seals_moved part before after t, fs, ft, e)

pub one_old_sector : OneOldSectorIsSeen
unfolding directory_sums
one_old_sector before after s t fs ft e =
    same_sums s t
    (same_seal_part (λ x. x.a) before after s t fs.a ft.a (ap (λ (r : Sums). r.a) e))
    (same_seal_part (λ x. x.b) before after s t fs.b ft.b (ap (λ (r : Sums). r.b) e))
    (same_seal_part (λ x. x.c) before after s t fs.c ft.c (ap (λ (r : Sums). r.c) e))
