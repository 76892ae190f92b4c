use Rattle.description.proofs.Names.{table_view, refl, Log, Nodes, Pages}
use Rattle.description.proofs.FirstFlaws.{passed, value_in}
use Rattle.description.proofs.read.read_geometry.Goals as goal
use Rattle.description.specs.declared.place.TableName.TheVariants as name

pub returns-in_err-nodes : goal.returns-in_err-nodes
returns-in_err-nodes c = passed _ _ _ _ _ c.from_residual.ensures.1 c.in_err-nodes.ensures
    (value_in name.Whole Nodes (table_view c.args.table.now) (c.requires, 0, refl, tt) _ refl (λ fits. fits))

pub returns-in_err-pages : goal.returns-in_err-pages
returns-in_err-pages c = passed _ _ _ _ _ c.from_residual-in_err-pages.ensures.1 c.in_err-pages.ensures
    (value_in name.Whole Pages (table_view c.args.table.now) (c.requires, 1, refl, ((_, c.in_ok-nodes.ensures), tt)) _ refl (λ fits. fits))

pub returns-in_err-log : goal.returns-in_err-log
returns-in_err-log c = passed _ _ _ _ _ c.from_residual-in_err-log.ensures.1 c.in_err-log.ensures
    (value_in name.Whole Log (table_view c.args.table.now) (
      c.requires,
      2,
      refl,
      ((_, c.in_ok-nodes.ensures), ((_, c.in_ok-pages.ensures), tt)),
    ) _ refl (λ fits. fits))
