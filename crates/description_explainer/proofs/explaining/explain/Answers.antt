use Rattle.description_explainer.proofs.Names.{table_view}
use Rattle.description_explainer.proofs.explaining.explain.Goals as goal

pub returns : goal.returns
returns c = c.unread.ensures (table_view c.args.table.now) c.in-Err.ensures
