use Rattle.std.proofs.Common.{◌<◌, ◌≤◌, ℕ, get_or}
use Rattle.layout.specs.sealed.Gate.{copies}
use Rattle.layout.proofs.sealed.gate.majority.Given as goal

abbrev pub invariant-loop-number : goal.invariant-loop-number
invariant-loop-number l = (k : ℕ) → k < l.number-index → 0 < get_or l.numbers k 0 → 33 ≤ copies (get_or l.numbers k 0) l.numbers → ⊥
