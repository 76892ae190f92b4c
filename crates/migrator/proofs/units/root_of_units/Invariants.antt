use Rattle.migrator.proofs.Names.{ReadsOnly, AreUnits}
use Rattle.std.proofs.Common.{◌≡◌}
use Rattle.migrator.proofs.units.root_of_units.Given as goal

abbrev pub invariant-loop-number : goal.invariant-loop-number
invariant-loop-number g l =
    ReadsOnly (g.D.Device.disk l.fn.device) (g.D.Device.disk l.device) × ((g.D.Device.disk l.device).failures
    ≡ (g.D.Device.disk l.fn.device).failures)
    × AreUnits (g.D.Device.disk l.fn.device).seen l.plan l.generation l.directory l.number l.root
