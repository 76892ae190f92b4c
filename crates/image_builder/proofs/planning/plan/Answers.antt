use Rattle.image_builder.proofs.Names.{refl, limit_refuted}
use Rattle.image_builder.proofs.planning.plan.Goals as goal

pub returns-in-Some-clause-refused : goal.returns-in-Some-clause-refused
returns-in-Some-clause-refused c = (refl, limit_refuted c.args.description.now c.in-Some.field-0 c.in-Some.ensures)
