use Rattle.kernel.proofs.Names.{err_from_is_err_and, length, ap, arith}
use Rattle.device.proofs.Moments.{counted_ok}
use Rattle.kernel.proofs.Acts.{bad_number, evict_failed, evicted, unfailed}
use Rattle.kernel.proofs.Stages.{keepable_most}
use Rattle.kernel.proofs.serving.evict.Goals as goal

pub returns-then-number-count-clause-serves : goal.returns-then-number-count-clause-serves
returns-then-number-count-clause-serves g c =
    bad_number _ _ _ g.met.D.Device.only_now g.met.S.ObjectStore.sound_holds c.args.live.now c.args.number
    (omega (arith, c.if-number-count.true, c.count.ensures, ap length c.table.ensures))

pub evict-requires-clause-may : goal.evict-requires-clause-may
evict-requires-clause-may g c =
    let up = c.requires in
    record {
      usable = (g.met.S.ObjectStore.usable_is c.args.live.now.store).1 up.1.store;
      keepable = keepable_most up.0 (g.S.Frames.parts c.args.live.now.store) c.args.live.now.age up.1.sound.geometry up.1.sound.now;
    }

pub returns-clause-serves : goal.returns-clause-serves
returns-clause-serves g c =
    let said = c.in_ok-evict.ensures in
    let before = g.met.S.ObjectStore.failures_are c.args.live.now.store in
    let after = g.met.S.ObjectStore.failures_are c.evict.new.self in
    evicted _ _ _ g.met.D.Device.only_now g.met.S.ObjectStore.sound_holds c.args.live.now c.evict.new.self
    (g.met.S.ObjectStore.continues c.args.live.now.store c.evict.new.self said.continues)
    before after (said.same (unfailed before after (counted_ok said.cause))) c.args.number
    (omega (arith, c.if-number-count.false, c.count.ensures, ap length c.table.ensures))

pub returns-in_err-evict-clause-serves : goal.returns-in_err-evict-clause-serves
returns-in_err-evict-clause-serves g c =
    let p = err_from_is_err_and c.from_residual.result c.from_residual.ensures.1 in
    rw (p.1, p.2)
    (evict_failed _ _ _ g.met.D.Device.only_now g.met.S.ObjectStore.sound_holds c.args.live.now c.evict.new.self
    (g.met.S.ObjectStore.continues c.args.live.now.store c.evict.new.self c.in_err-evict.ensures.continues) c.args.number)
