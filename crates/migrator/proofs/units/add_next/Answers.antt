use Rattle.migrator.proofs.Names.{err_from_is_err_and, sym}
use Rattle.std.proofs.Common.{◌∙◌}
use Rattle.migrator.proofs.Opening.{reads_none}
use Rattle.migrator.proofs.SealedUnits.{unit_refused, units_more, units_same}
use Rattle.migrator.proofs.units.add_next.Goals as goal

pub returns-in_ok-seal-clause-found : goal.returns-in_ok-seal-clause-found
returns-in_ok-seal-clause-found g c =
    let begun = rw c.new-home.ensures at c.begins_unit-begins.ensures.value in
    units_more c.requires.units (sym begun ∙ c.if-begins.true) c.in_ok-seal.ensures.found c.in_ok-seal.ensures.seal c.add_last.ensures

pub returns-else-begins-clause-found : goal.returns-else-begins-clause-found
returns-else-begins-clause-found g c =
    let begun = rw c.new-home.ensures at c.begins_unit-begins.ensures.value in
    units_same c.requires.units (sym begun ∙ c.if-begins.false)

pub returns-else-begins-clause-reads : goal.returns-else-begins-clause-reads
returns-else-begins-clause-reads g c = reads_none (g.met.D.Device.only_now c.args.device.now)

pub returns-in_err-seal-clause-refused : goal.returns-in_err-seal-clause-refused
returns-in_err-seal-clause-refused g c =
    let begun = rw c.new-home.ensures at c.begins_unit-begins.ensures.value in
    let p = err_from_is_err_and c.from_residual.result c.from_residual.ensures.1 in
    rw (p.1, p.2) (unit_refused (g.D.Device.disk c.args.device.now).seen c.args.plan.now c.args.generation c.args.directory.now
    c.args.number c.in_err-seal.field-0.0 c.requires.object (sym begun ∙ c.if-begins.true) c.in_err-seal.ensures.refused)
