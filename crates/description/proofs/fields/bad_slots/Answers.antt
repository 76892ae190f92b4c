use Rattle.description.proofs.FieldFlaws.{are_slots}
use Rattle.description.proofs.fields.bad_slots.Goals as goal

pub returns-in-None : goal.returns-in-None
returns-in-None c = are_slots c.args.first c.args.slots.now c.in_default.ensures c.in-None.ensures
