use Rattle.queries.proofs.Names.{ℕ, List, drop, position_from}
use Rattle.std.proofs.Common.{◌≡◌, ◌+◌, ◌≤◌}
use Rattle.queries.proofs.explaining.position_after.Given as goal

-- the position so far is that of the text before it, and its numbers are bounded
pub record IsPosition (before : List ℕ) (at line column : ℕ) : Type 0 where
  pub position : position_from line column (drop at before) ≡ position_from 1 1 before
  pub lines : line ≤ at + 1
  pub columns : column ≤ at + 1

abbrev pub invariant-loop-byte : goal.invariant-loop-byte
invariant-loop-byte l = IsPosition l.before l.byte-index l.line l.column
