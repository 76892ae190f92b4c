use Rattle.migrator.proofs.Names.{ℕ, None, IsComplete, Keeps}
use Rattle.std.proofs.Common.{◌≡◌, ◌<◌}
use Rattle.migrator.proofs.cluster_buffer.ClusterBuffer.complete_slots.Given as goal

abbrev pub invariant-loop-index : goal.invariant-loop-index
invariant-loop-index g l =
    (l.self ≡ None) × Keeps l.plan l.generation l.entries (g.D.Device.disk l.fn.device) l.fn.self (g.D.Device.disk l.device) None
    × ((i : ℕ) → i < l.index → IsComplete (g.D.Device.disk l.device).seen l.plan l.generation l.entries i) ×
    ((g.D.Device.disk l.device).failures ≡ (g.D.Device.disk l.fn.device).failures)
