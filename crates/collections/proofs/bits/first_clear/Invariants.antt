use Rattle.std.proofs.Common.{◌≡◌, ℕ, ◌*◌, ◌<◌, ◌≤◌}
use Rattle.collections.specs.Bits.{bit_of}
use Rattle.collections.proofs.bits.first_clear.Given as goal

abbrev pub invariant-loop-word : goal.invariant-loop-word
invariant-loop-word l = (m : ℕ) → l.from ≤ m → m < l.word * 64 → bit_of l.words m ≡ 1
