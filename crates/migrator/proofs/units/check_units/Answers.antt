use Rattle.migrator.proofs.Names.{refl, rules, sym, subst, err_from_is_err_and, false≢true, HasUnits, Sums, sums_equal}
use Rattle.std.proofs.Common.{◌≡◌, ◌∙◌}
use Rattle.migrator.proofs.SealedUnits.{other_root, refused_for}
use Rattle.migrator.proofs.units.check_units.Goals as goal

pub returns-then-eq-clause-found : goal.returns-then-eq-clause-found
returns-then-eq-clause-found g c =
    let same : c.in_ok-root.root ≡ c.args.header.root = search rules in
    subst (λ (r : Sums). HasUnits (g.D.Device.disk c.args.device.now).seen c.args.plan.now r c.args.header.header.generation
    c.args.directory.now) same c.in_ok-root.ensures.found

pub returns-else-eq-clause-refused : goal.returns-else-eq-clause-refused
returns-else-eq-clause-refused g c = (
  refl,
  c.requires.sealed,
  other_root c.in_ok-root.ensures.found (λ same. false≢true
      (sym c.if-eq.false ∙ c.eq.ensures ∙ sums_equal c.in_ok-root.root c.args.header.root same)),
)

pub returns-in_err-root-clause-refused : goal.returns-in_err-root-clause-refused
returns-in_err-root-clause-refused g c =
    let p = err_from_is_err_and c.from_residual.result c.from_residual.ensures.1 in
    rw (p.1, p.2) (refused_for (g.D.Device.disk c.args.device.now).seen c.args.plan.now c.args.header.root
    c.args.header.header.generation c.args.directory.now c.in_err-root.field-0.0 c.requires.sealed c.in_err-root.ensures.refused)
