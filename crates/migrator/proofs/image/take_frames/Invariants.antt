use Rattle.migrator.proofs.Names.{ℕ, IsSpelt, ReadsOnly, count_of}
use Rattle.std.proofs.Common.{◌≡◌, ◌<◌, ◌≤◌}
use Rattle.migrator.proofs.Opening.{frames_until}
use Rattle.migrator.proofs.image.take_frames.Given as goal

abbrev pub invariant-loop-number : goal.invariant-loop-number
invariant-loop-number g l =
    ReadsOnly (g.D.Device.disk l.fn.device) (g.D.Device.disk l.device) × ((g.D.Device.disk l.device).failures
    ≡ (g.D.Device.disk l.fn.device).failures)
    × ((n : ℕ) → n < l.number → IsSpelt (g.D.Device.disk l.fn.device).seen l.plan l.header.age l.header.generation l.directory n)
    × g.I.Intake.Took l.taken (frames_until (g.D.Device.disk l.fn.device).seen l.plan l.header.generation l.directory l.number)
    × (count_of l.plan ≤ g.I.Intake.room l.taken)
