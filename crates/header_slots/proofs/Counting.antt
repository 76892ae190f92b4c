-- Which headers count.
use Rattle.std.proofs.Common.{◌≡◌, ℕ, ◌+◌, ◌-◌, ◌%◌, ◌<◌, ◌≤◌, ◌⊎◌, Option, None, Some, ap, subst, sym, ◌∙◌, inl, inr, arith}
use Rattle.std.proofs.lemmas.Bool.{cases_eq}
use Rattle.std.proofs.lemmas.Option.{same_Some}
use Rattle.header_slots.specs.Publish.{OthersStay}
use Rattle.header_slots.specs.Slots.{Counts, IsCommitted, IsGreatestPair, Slot, Slots}

-- in each slot at most one header counts
pub one_each : (slots : Slots) (m n : ℕ) → Counts slots m → Counts slots n → m % 3 ≡ n % 3 → m ≡ n
one_each slots m n a b same = same_Some m n (sym a.header ∙ ap (λ (k : ℕ). (slots k).header) same ∙ b.header)

-- if a header counts in a slot that didn't change, it counted before
pub counts_before : (slot : ℕ) (old new : Slots) (n : ℕ) → OthersStay slot old new → (n % 3 ≡ slot → ⊥) → Counts new n → Counts old n
counts_before slot old new n others other counts = record {
  header = sym (ap (λ (it : Slot). it.header) (others (n % 3) other)) ∙ counts.header;
  gate = sym (ap (λ (it : Slot). it.gate) (others (n % 3) other)) ∙ counts.gate;
}

pub counts_after : (slot : ℕ) (old new : Slots) (n : ℕ) → OthersStay slot old new → (n % 3 ≡ slot → ⊥) → Counts old n → Counts new n
counts_after slot old new n others other counts = record {
  header = ap (λ (it : Slot). it.header) (others (n % 3) other) ∙ counts.header;
  gate = ap (λ (it : Slot). it.gate) (others (n % 3) other) ∙ counts.gate;
}

-- if s and s - 1 count, no other header counts outside the third slot
pub is_known : (slots : Slots) (s n : ℕ) → 0 < s → Counts slots s → Counts slots (s - 1) → Counts slots n → (n % 3 ≡ (s + 1) % 3 → ⊥) →
    (n ≡ s) ⊎ (n ≡ s - 1)
is_known slots s n positive counts neighbour it other =
    elim (cases_eq (n % 3) (s % 3)) [
      | inl here ↦ inl (one_each slots n s it counts here)
      | inr elsewhere ↦ inr (one_each slots n (s - 1) it neighbour (omega (arith, other, elsewhere, positive)))
    ]

pub is_number : (gate : Option ℕ) (n : ℕ) → (gate ≡ Some n) ⊎ (gate ≡ Some n → ⊥)
is_number None n = inr (λ e. cc)
is_number (Some m) n =
    elim (cases_eq m n) [
      | inl e ↦ inl (ap (λ (k : ℕ). Some k) e)
      | inr ne ↦ inr (λ e. ne (same_Some m n e))
    ]

-- if t and t - 1 count, t isn't greater than the greatest pair
pub below_greatest : (slots : Slots) (s t : ℕ) → 0 < t → Counts slots t → Counts slots (t - 1) → IsGreatestPair slots s → t ≤ s
below_greatest slots s t positive counts neighbour is =
    let same : t ≡ t - 1 + 1 = omega (arith, positive) in
    let most = is.greatest (t - 1) neighbour (subst (λ (n : ℕ). Counts slots n) same counts) in
    omega (arith, most, same)

pub one_committed : (slots : Slots) (s t : ℕ) → IsCommitted slots s → IsCommitted slots t → s ≡ t
one_committed slots s t a b =
    let up = below_greatest slots t s a.pair.positive a.pair.counts a.pair.neighbour b.pair in
    let down = below_greatest slots s t b.pair.positive b.pair.counts b.pair.neighbour a.pair in
    omega (arith, up, down)
