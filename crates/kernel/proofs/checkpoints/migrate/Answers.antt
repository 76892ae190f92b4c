use Rattle.kernel.proofs.Names.{err_from_is_err_and}
use Rattle.device.proofs.Moments.{counted_ok}
use Rattle.kernel.proofs.Acts.{migrate_failed, migrate_went, unfailed}
use Rattle.kernel.proofs.checkpoints.migrate.Goals as goal

pub returns-clause-serves : goal.returns-clause-serves
returns-clause-serves g c =
    let said = c.in_ok-left.ensures in
    let failures = g.met.S.ObjectStore.failures_are in
    migrate_went _ _ _ g.met.D.Device.only_now g.met.S.ObjectStore.sound_holds c.args.live.now c.migrate.new.self
    said.size c.args.count said.any_moment
    (said.same (unfailed (failures c.args.live.now.store) (failures c.migrate.new.self) (counted_ok said.cause))) c.in_ok-left.left
    said.left
    said.snapshots said.usable

pub returns-in_err-left-clause-serves : goal.returns-in_err-left-clause-serves
returns-in_err-left-clause-serves g c =
    let said = c.in_err-left.ensures in
    let p = err_from_is_err_and c.from_residual.result c.from_residual.ensures.1 in
    rw (p.1, p.2)
    (migrate_failed _ _ _ g.met.D.Device.only_now g.met.S.ObjectStore.sound_holds c.args.live.now c.migrate.new.self
    said.size c.args.count said.any_moment)
