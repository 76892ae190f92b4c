use Rattle.image_builder.proofs.Names.{ap, arith, err_from_is_err_and, Plan}
use Rattle.image_builder.proofs.Images.{nothing_written}
use Rattle.image_builder.proofs.Refusals.{accepted, failed_refused, small_refused}
use Rattle.image_builder.proofs.writing.build_described.Goals as goal

pub returns-in_err-world-clause-refused : goal.returns-in_err-world-clause-refused
returns-in_err-world-clause-refused g c =
    let p = err_from_is_err_and c.from_residual.result c.from_residual.ensures.1 in
    rw (p.1, p.2) (c.in_err-world.ensures.refused.refused (g.D.Device.disk c.args.device.now).sectors)

pub returns-then-sectors-total-clause-refused : goal.returns-then-sectors-total-clause-refused
returns-then-sectors-total-clause-refused g c =
    let total = ap (λ (p : Plan). p.total) c.requires.plan in
    small_refused c.args.description.now c.requires.limits c.in_ok-world.ensures.sound (g.D.Device.disk c.args.device.now).sectors
    (λ enough. omega (arith, enough, total, c.total.ensures.value, c.sectors-sectors.ensures.count, c.if-sectors-total.true))

pub returns-clause-refused : goal.returns-clause-refused
returns-clause-refused g c =
    let d = c.args.description.now in
    let sectors = (g.D.Device.disk c.args.device.now).sectors in
    let total = ap (λ (p : Plan). p.total) c.requires.plan in
    failed_refused d sectors c.write.result
    (accepted d c.requires.limits c.in_ok-world.ensures.sound sectors
    (omega (arith, total, c.total.ensures.value, c.sectors-sectors.ensures.count, c.if-sectors-total.false)))
    c.write.ensures.refused

pub returns-then-sectors-total-clause-any_moment : goal.returns-then-sectors-total-clause-any_moment
returns-then-sectors-total-clause-any_moment g c = nothing_written c.args.description.now (g.D.Device.disk c.args.device.now)
    (g.met.D.Device.only_now c.args.device.now)

pub returns-in_err-world-clause-any_moment : goal.returns-in_err-world-clause-any_moment
returns-in_err-world-clause-any_moment g c = nothing_written c.args.description.now (g.D.Device.disk c.args.device.now)
    (g.met.D.Device.only_now c.args.device.now)
