use Rattle.migrator.proofs.Names.{ap, arith, Shape}
use Rattle.migrator.proofs.ReadSeals.{header_alone, whole_cluster}
use Rattle.migrator.proofs.unit_seals.unit_sectors.Goals as goal

pub returns-then-shape-clause-value : goal.returns-then-shape-clause-value
returns-then-shape-clause-value c =
    (header_alone c.args.plan.now c.args.number c.shape-shape.result c.shape-shape.ensures.value c.if-shape.true).0

pub returns-then-shape-clause-inside : goal.returns-then-shape-clause-inside
returns-then-shape-clause-inside c =
    (header_alone c.args.plan.now c.args.number c.shape-shape.result c.shape-shape.ensures.value c.if-shape.true).1

pub returns-else-shape-clause-value : goal.returns-else-shape-clause-value
returns-else-shape-clause-value c =
    (whole_cluster c.args.plan.now c.args.number c.shape-shape.result c.requires.sealed c.shape-shape.ensures.value c.if-shape.false).0

pub returns-else-shape-clause-some : goal.returns-else-shape-clause-some
returns-else-shape-clause-some c =
    let eight =
    (whole_cluster c.args.plan.now c.args.number c.shape-shape.result c.requires.sealed c.shape-shape.ensures.value c.if-shape.false).1 in
    omega (arith, eight)

pub returns-else-shape-clause-few : goal.returns-else-shape-clause-few
returns-else-shape-clause-few c =
    let eight =
    (whole_cluster c.args.plan.now c.args.number c.shape-shape.result c.requires.sealed c.shape-shape.ensures.value c.if-shape.false).1 in
    omega (arith, eight)

pub returns-else-shape-clause-inside : goal.returns-else-shape-clause-inside
returns-else-shape-clause-inside c = omega (arith, ap (λ (s : Shape). s.sectors) c.shape-shape.ensures.value)
