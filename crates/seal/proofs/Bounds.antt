-- The sums of few numbers are small.
use Rattle.seal.proofs.Names.{ℕ, zero, suc, List, [], length, get_or, inl, inr, arith, lit≤, cases_lt, mul-le, add-mul, Fit, weighted}
use Rattle.std.proofs.Common.{◌≡◌, ◌+◌, ◌-◌, ◌*◌, ◌^◌, ◌<◌, ◌≤◌, ◌∷◌}
use Rattle.seal.proofs.Weights.{one, place, sums, triangle}

-- the sum of the weights of n places
abbrev weights : (ℕ → ℕ) → ℕ → ℕ
weights weight zero = 0
weights weight (suc n) = weight (suc n) + weights weight n

weights_rise : (weight : ℕ → ℕ) (m n : ℕ) → m ≤ n → weights weight m ≤ weights weight n
weights_rise weight m zero le = let e : m ≡ 0 = omega (arith, le) in rw e (omega arith)
weights_rise weight m (suc n) le =
    elim (cases_lt m (suc n)) [
      | inl lt ↦ omega (arith, weights_rise weight m n (omega (arith, lt)))
      | inr ge ↦ let e : m ≡ suc n = omega (arith, le, ge) in rw e (omega arith)
    ]

abbrev pub AreBelow : ℕ → List ℕ → Type 0
AreBelow bound hs = (k : ℕ) → get_or hs k 0 ≤ bound

-- the weighted sum of numbers up to a bound is at most the bound times the sum of the weights
weighted_most : (weight : ℕ → ℕ) (bound : ℕ) (hs : List ℕ) → AreBelow bound hs → weighted weight hs ≤ weights weight (length hs) * bound
weighted_most weight bound [] small = omega arith
weighted_most weight bound (h ∷ hs) small =
    let n : ℕ = suc (length hs) in
    let first : weight n * h ≤ weight n * bound = mul-le (weight n) h (weight n) bound (omega arith) (small 0) in
    let rest = weighted_most weight bound hs (λ k. small (suc k)) in
    omega (arith, first, rest, add-mul (weight n) (weights weight (length hs)) bound)

few_weights : (weights one 1024 ≤ 2 ^ 28) × (weights place 1024 ≤ 2 ^ 28) × (weights triangle 1024 ≤ 2 ^ 28)
few_weights = (lit≤ tt, lit≤ tt, lit≤ tt)

fits : (weight : ℕ → ℕ) (n : ℕ) (hs : List ℕ) → weights weight n ≤ 2 ^ 28 → length hs ≤ n → AreBelow (2 ^ 32 - 1) hs →
    weighted weight hs < 2 ^ 60
fits weight n hs few short small = omega (arith, weighted_most weight (2 ^ 32 - 1) hs small, weights_rise weight (length hs) n short, few)

pub sums_fit : (hs : List ℕ) → length hs ≤ 1024 → AreBelow (2 ^ 32 - 1) hs → Fit (sums hs)
sums_fit hs short small = record {
  a = fits one 1024 hs few_weights.0 short small;
  b = fits place 1024 hs few_weights.1 short small;
  c = fits triangle 1024 hs few_weights.2 short small;
}
