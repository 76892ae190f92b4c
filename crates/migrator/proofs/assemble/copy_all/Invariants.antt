use Rattle.migrator.proofs.Names.{length, AreEnded, AreIn, ReadsOnly, new_bytes}
use Rattle.std.proofs.Common.{◌≡◌}
use Rattle.migrator.proofs.assemble.copy_all.Given as goal

abbrev pub invariant-loop-k : goal.invariant-loop-k
invariant-loop-k g l =
    ReadsOnly (g.D.Device.disk l.fn.device) (g.D.Device.disk l.device) × ((g.D.Device.disk l.device).failures
    ≡ (g.D.Device.disk l.fn.device).failures)
    × AreIn l.plan (new_bytes (g.D.Device.disk l.fn.device).seen l.plan l.generation l.entries) l.first l.k l.block
    × AreEnded l.plan l.first l.k l.block
    × (length l.block ≡ length l.fn.block)
