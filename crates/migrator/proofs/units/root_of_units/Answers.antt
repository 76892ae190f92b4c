use Rattle.migrator.proofs.Names.{ℕ, refl, rules, sym, subst, err_from_is_err_and, Geometry, Image, agrees_is, AreUnits, HasBadUnit}
use Rattle.std.proofs.Common.{◌≡◌, ◌∙◌, ◌+◌}
use Rattle.migrator.proofs.Opening.{reads_more, reads_none}
use Rattle.migrator.proofs.SealedUnits.{units_all, units_none}
use Rattle.migrator.proofs.units.root_of_units.Goals as goal

pub loop-number-init : goal.loop-number-init
loop-number-init g c = (reads_none (g.met.D.Device.only_now c.args.device.now), refl, units_none c.empty_root-root.ensures)

pub add_next-requires-clause-units : goal.add_next-requires-clause-units
add_next-requires-clause-units g c =
    let seen = agrees_is (g.D.Device.disk c.loop-number.device).seen (g.D.Device.disk c.args.device.now).seen c.loop-number.invariant.0.seen
    in
    subst (λ (i : Image). AreUnits i c.args.plan.now c.args.generation c.args.directory.now c.loop-number.number c.loop-number.root)
    (sym seen)
    c.loop-number.invariant.2

pub loop-number-preserved : goal.loop-number-preserved
loop-number-preserved g c =
    let seen = agrees_is (g.D.Device.disk c.loop-number.device).seen (g.D.Device.disk c.args.device.now).seen c.loop-number.invariant.0.seen
    in
    let same : (g.D.Device.disk c.add_next.new.device).failures ≡ (g.D.Device.disk c.loop-number.device).failures = search rules in (
      reads_more c.loop-number.invariant.0 c.add_next.ensures.reads,
      same ∙ c.loop-number.invariant.1,
      subst (λ (i : Image). AreUnits i c.args.plan.now c.args.generation c.args.directory.now (c.loop-number.number + 1)
          c.in_ok-more.more) seen c.in_ok-more.ensures.found,
    )

pub returns-in_err-more-clause-reads : goal.returns-in_err-more-clause-reads
returns-in_err-more-clause-reads g c = reads_more c.loop-number.invariant.0 c.add_next.ensures.reads

pub returns-in_err-more-clause-refused : goal.returns-in_err-more-clause-refused
returns-in_err-more-clause-refused g c =
    let seen = agrees_is (g.D.Device.disk c.loop-number.device).seen (g.D.Device.disk c.args.device.now).seen c.loop-number.invariant.0.seen
    in
    let bad = subst (λ (i : Image). HasBadUnit i c.args.plan.now c.args.generation c.args.directory.now c.in_err-more.field-0.0) seen
    c.in_err-more.ensures.refused in
    let p = err_from_is_err_and c.from_residual.result c.from_residual.ensures.1 in
    rw (p.1, p.2) bad

pub returns-clause-found : goal.returns-clause-found
returns-clause-found g c =
    let end : c.loop-number.number ≡ c.geometry-geometry.result.nodes + c.geometry-geometry.result.pages = search rules in
    let done = subst (λ (x : Geometry). c.loop-number.number ≡ x.nodes + x.pages) c.geometry-geometry.ensures.value end in
    units_all (subst (λ (k : ℕ). AreUnits (g.D.Device.disk c.args.device.now).seen c.args.plan.now c.args.generation c.args.directory.now k
    c.loop-number.root) done c.loop-number.invariant.2)
