use Rattle.image_explainer.proofs.Names.{ReadsOnly, AreRightBefore}
use Rattle.std.proofs.Common.{◌≡◌}
use Rattle.image_explainer.proofs.sectors.unit.find_unit.Given as goal

abbrev pub invariant-loop-number : goal.invariant-loop-number
invariant-loop-number g l =
    AreRightBefore (g.D.Device.disk l.fn.device).seen l.plan l.generation l.directory l.number
    × ReadsOnly (g.D.Device.disk l.fn.device) (g.D.Device.disk l.device)
    × ((g.D.Device.disk l.device).failures ≡ (g.D.Device.disk l.fn.device).failures)
