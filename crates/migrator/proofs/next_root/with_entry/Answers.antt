use Rattle.migrator.proofs.Names.{IfOk-weaker}
use Rattle.migrator.proofs.NextUnits.{root_passed, root_replaced}
use Rattle.migrator.proofs.next_root.with_entry.Goals as goal

pub returns-then-not-is_first-clause-root : goal.returns-then-not-is_first-clause-root
returns-then-not-is_first-clause-root g c =
    root_passed (g.D.Device.disk c.args.device.now).seen c.args.plan.now c.args.generation c.args.entries.now c.args.index
    c.requires.within c.requires.sealed (c.is_first.ensures.no c.if-not-is_first.true) c.requires.root

pub returns-clause-root : goal.returns-clause-root
returns-clause-root g c =
    let fits = rw c.new-home.ensures at c.first-first.ensures.plan in
    let start = rw c.new-home.ensures at c.first-first.ensures.first in
    let place = rw c.new-log.ensures at c.slot_sector-at.ensures.value in
    IfOk-weaker c.replaced.result _ _
    (λ new step. root_replaced (g.D.Device.disk c.args.device.now).seen c.args.plan.now c.args.generation c.args.entries.now
    c.args.index c.requires.within c.requires.sealed
    fits c.requires.directory (c.is_first.ensures.yes c.if-not-is_first.false) start place c.requires.root step) c.replaced.ensures.root
