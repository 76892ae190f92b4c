use Rattle.migrator.proofs.Names.{ReadsOnly, take, root_of, units_in}
use Rattle.std.proofs.Common.{◌≡◌}
use Rattle.migrator.proofs.next_root.with_entries.Given as goal

abbrev pub invariant-loop-index : goal.invariant-loop-index
invariant-loop-index g l =
    ReadsOnly (g.D.Device.disk l.fn.device) (g.D.Device.disk l.device) × ((g.D.Device.disk l.device).failures
    ≡ (g.D.Device.disk l.fn.device).failures)
    × (l.root ≡ root_of (units_in (g.D.Device.disk l.fn.device).seen l.plan l.generation (take l.index l.entries)))
