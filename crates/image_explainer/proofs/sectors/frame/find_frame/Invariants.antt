use Rattle.image_explainer.proofs.Names.{ℕ, ReadsOnly, IsWholeFrame}
use Rattle.std.proofs.Common.{◌≡◌, ◌<◌}
use Rattle.image_explainer.proofs.sectors.frame.find_frame.Given as goal

abbrev pub invariant-loop-number : goal.invariant-loop-number
invariant-loop-number g l =
    ((m : ℕ) → m < l.number → IsWholeFrame (g.D.Device.disk l.fn.device).seen l.plan l.header l.directory m)
    × ReadsOnly (g.D.Device.disk l.fn.device) (g.D.Device.disk l.device)
    × ((g.D.Device.disk l.device).failures ≡ (g.D.Device.disk l.fn.device).failures)
