-- Which damage the number of a gate survives.
use Rattle.std.specs.Prelude.{◌≡◌, ◌⊎◌, ◌↔◌, ℕ, ◌^◌, ◌<◌, ◌≤◌, List, length}
use Rattle.seal.specs.Damage.{DifferInBurst, IsRow}
use Rattle.layout.specs.sealed.Gate.{HasNumber, copies, numbered_gate_bytes, gate_numbers}

-- a whole gate: 35 copies hold one number, or no number has more than 30 copies
abbrev pub IsWhole : List ℕ → Type 0
IsWhole bytes = ((n : ℕ) × (35 ≤ copies n (gate_numbers bytes))) ⊎ ((n : ℕ) → copies n (gate_numbers bytes) ≤ 30)

abbrev pub GatesHaveOneNumber : Type 0
GatesHaveOneNumber = (bytes : List ℕ) (m n : ℕ) → HasNumber bytes m → HasNumber bytes n → m ≡ n

abbrev pub WrittenGatesHaveTheirNumber : Type 0
WrittenGatesHaveTheirNumber = (n : ℕ) → 0 < n → n < 2 ^ 64 →
    HasNumber (numbered_gate_bytes n) n × IsWhole (numbered_gate_bytes n)

abbrev pub ClosedGatesHaveNone : Type 0
ClosedGatesHaveNone = (n : ℕ) → HasNumber (numbered_gate_bytes 0) n → ⊥

-- a burst changes neither the number of a whole gate, nor that it has none
abbrev pub BurstsKeepNumbers : Type 0
BurstsKeepNumbers = (i : ℕ) (x y : List ℕ) (n : ℕ) → IsRow x → IsRow y → length x ≡ 512 → DifferInBurst i x y →
    IsWhole x → HasNumber x n ↔ HasNumber y n
