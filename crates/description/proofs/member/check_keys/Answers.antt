use Rattle.description.proofs.Names.{sym, map, table_view}
use Rattle.description.proofs.FirstFlaws.{all_known}
use Rattle.description.proofs.member.check_keys.Goals as goal

pub returns-in-None : goal.returns-in-None
returns-in-None c = all_known (map (λ k. k.now) c.args.known.now) (table_view c.args.table.now) (sym c.in-None.ensures)
