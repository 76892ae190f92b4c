use Rattle.reach.proofs.Names.{ℕ, IsTrue, is_process}
use Rattle.std.specs.Prelude.{slice_index_or}
use Rattle.std.proofs.Common.{◌<◌}
use Rattle.reach.proofs.process.missing_process.Given as goal

abbrev pub invariant-loop-number : goal.invariant-loop-number
invariant-loop-number l = (k d : ℕ) → k < l.number-index → IsTrue (is_process l.objects (slice_index_or l.numbers k d))
