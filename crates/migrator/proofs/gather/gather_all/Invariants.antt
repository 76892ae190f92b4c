use Rattle.migrator.proofs.Names.{length, frame_in, AreEnded, AreIn, ReadsOnly}
use Rattle.std.proofs.Common.{◌≡◌}
use Rattle.migrator.proofs.gather.gather_all.Given as goal

abbrev pub invariant-loop-k : goal.invariant-loop-k
invariant-loop-k g l =
    ReadsOnly (g.D.Device.disk l.fn.device) (g.D.Device.disk l.device) × ((g.D.Device.disk l.device).failures
    ≡ (g.D.Device.disk l.fn.device).failures)
    × AreIn l.plan (frame_in (g.D.Device.disk l.fn.device).seen l.plan l.generation l.directory) l.first l.k l.block
    × AreEnded l.plan l.first l.k l.block
    × (length l.block ≡ length l.fn.block)
