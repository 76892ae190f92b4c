use Rattle.image_builder.proofs.Names.{subst, sym, IsDescription}
use Rattle.image_builder.proofs.Images.{left_of}
use Rattle.image_builder.proofs.Refusals.{built_from, refused_from}
use Rattle.image_builder.proofs.blueprint.Blueprint.build.Goals as goal

pub returns-clause-built : goal.returns-clause-built
returns-clause-built g c table is =
    built_from table c.self.inside.description (g.D.Device.disk c.args.device.now) (g.D.Device.disk c.build_described.new.device)
    c.build_described.result
    (subst (IsDescription table) (sym c.self.view_is) is) c.build_described.ensures.built

pub returns-clause-refused : goal.returns-clause-refused
returns-clause-refused g c table is =
    refused_from table c.self.inside.description (g.D.Device.disk c.args.device.now).sectors c.build_described.result
    (subst (IsDescription table) (sym c.self.view_is) is) c.build_described.ensures.refused

pub returns-clause-any_moment : goal.returns-clause-any_moment
returns-clause-any_moment g c table is =
    left_of table c.self.inside.description {old = g.D.Device.disk c.args.device.now} {new = g.D.Device.disk c.build_described.new.device}
    (subst (IsDescription table) (sym c.self.view_is) is) c.build_described.ensures.any_moment
