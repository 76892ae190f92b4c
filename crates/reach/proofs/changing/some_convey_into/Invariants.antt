use Rattle.reach.proofs.Names.{ℕ, Capability, is_marked, others, StaysFor, links}
use Rattle.std.specs.Prelude.{slice_index_or}
use Rattle.std.proofs.Common.{◌<◌}
use Rattle.reach.proofs.changing.some_convey_into.Given as goal

abbrev pub invariant-loop-capability : goal.invariant-loop-capability
invariant-loop-capability l = (k : ℕ) (d : Capability) → k < l.capability-index →
    StaysFor (links l.purpose (is_marked l.trusted)) (others (is_marked l.inside)) (slice_index_or l.capabilities k d)
