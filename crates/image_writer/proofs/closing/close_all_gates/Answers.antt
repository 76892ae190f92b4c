use Rattle.image_writer.proofs.OldGates.{closing_on, none_on, sync_read}
use Rattle.image_writer.proofs.closing.close_all_gates.Goals as goal

pub returns-in_err-close_named-clause-any_moment : goal.returns-in_err-close_named-clause-any_moment
returns-in_err-close_named-clause-any_moment g c =
    let old = g.D.Device.disk c.args.device.now in
    let synced = g.D.Device.disk c.sync.new.self in
    let mid = g.D.Device.disk c.old_version.new.device in
    closing_on old mid (g.D.Device.disk c.close_named.new.device)
    (λ x left. c.sync.ensures.crash x (c.old_version.ensures.reads.crash x left))
    (sync_read old synced mid (g.met.D.Device.only_now c.args.device.now) c.sync.ensures.crash c.sync.ensures.time
    c.old_version.ensures.reads.any_moment)
    c.close_named.ensures.any_moment

pub returns-clause-any_moment : goal.returns-clause-any_moment
returns-clause-any_moment g c =
    let old = g.D.Device.disk c.args.device.now in
    let synced = g.D.Device.disk c.sync.new.self in
    let mid = g.D.Device.disk c.old_version.new.device in
    let closed = g.D.Device.disk c.close_named.new.device in
    none_on old closed (g.D.Device.disk c.close_others.new.device)
    (closing_on old mid closed
    (λ x left. c.sync.ensures.crash x (c.old_version.ensures.reads.crash x left))
    (sync_read old synced mid (g.met.D.Device.only_now c.args.device.now) c.sync.ensures.crash c.sync.ensures.time
    c.old_version.ensures.reads.any_moment)
    c.close_named.ensures.any_moment)
    c.close_others.ensures.any_moment
