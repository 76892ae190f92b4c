use Rattle.image_builder.proofs.Names.{err_from_is_err_and, table_view}
use Rattle.image_builder.proofs.Images.{nothing_written_of}
use Rattle.image_builder.proofs.Refusals.{size_refuses}
use Rattle.image_builder.proofs.building.build.Goals as goal

pub returns-in_err-blueprint-clause-refused : goal.returns-in_err-blueprint-clause-refused
returns-in_err-blueprint-clause-refused g c =
    let p = err_from_is_err_and c.from_residual.result c.from_residual.ensures.1 in
    rw (p.1, p.2) (size_refuses (table_view c.args.table.now) (g.D.Device.disk c.args.device.now).sectors _
    c.in_err-blueprint.ensures.refused)

pub returns-in_err-blueprint-clause-any_moment : goal.returns-in_err-blueprint-clause-any_moment
returns-in_err-blueprint-clause-any_moment g c = nothing_written_of (table_view c.args.table.now) (g.D.Device.disk c.args.device.now)
    (g.met.D.Device.only_now c.args.device.now)
