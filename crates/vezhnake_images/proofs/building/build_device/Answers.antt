use Rattle.vezhnake_images.proofs.Names.{Err, ap, subst, sym, BuildFault, RefusesTable}
use Rattle.std.proofs.Common.{◌∙◌}
use Rattle.vezhnake_images.proofs.Built.{unbuilt}
use Rattle.vezhnake_images.proofs.building.build_device.Goals as goal

pub returns-in-Ok-build-clause-ok : goal.returns-in-Ok-build-clause-ok
returns-in-Ok-build-clause-ok c table is = record {
  before = c.in-Ok.device;
  built = c.in-Ok-build.ensures.built table is;
  size = c.in-Ok-build.ensures.size ∙ c.in-Ok.ensures ∙ c.sectors.ensures.value;
}

pub returns-in-Err-clause-err : goal.returns-in-Err-clause-err
returns-in-Err-clause-err c table is = subst (RefusesTable table) (sym c.status_of.ensures)
    (unbuilt table c.args.blueprint.now c.in-Ok.device c.build.new.device c.in-Err.fault is (c.in-Ok.ensures ∙ c.sectors.ensures.value)
    (c.in-Err.ensures.refused table is) (λ failed. c.in-Err.ensures.cause.0 (ap (λ (f : BuildFault). Err f) failed)))
