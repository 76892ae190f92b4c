use Rattle.std.proofs.Common.{Err}
use Rattle.queries.proofs.explaining.explain_description.Goals as goal

pub returns-in-Err : goal.returns-in-Err
returns-in-Err g c = (
  Err c.in-Err.fault,
  c.status.ensures.status,
  c.status.ensures.reported,
  c.in-Err.ensures c.args.text.now c.explained.ensures,
)
