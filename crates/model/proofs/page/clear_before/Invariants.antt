use Rattle.std.proofs.Common.{◌≡◌, ℕ, ◌<◌, length, slice_index}
use Rattle.model.specs.Words.{IsZeroFrom}
use Rattle.model.proofs.page.clear_before.Given as goal

-- the words before the index are 0, and those from `end` on
abbrev pub invariant-loop-index : goal.invariant-loop-index
invariant-loop-index l = ((i : ℕ) → i < l.index → slice_index l.words i ≡ 0) × IsZeroFrom l.end l.words × (length l.words ≡ 512)
