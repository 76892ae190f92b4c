use Rattle.reach.proofs.Names.{refl}
use Rattle.reach.proofs.Sources.{grows_by}
use Rattle.reach.proofs.changing.add_leading.Goals as goal

pub returns-then-leads_into-clause-grows : goal.returns-then-leads_into-clause-grows
returns-then-leads_into-clause-grows c = let leads = c.if-leads_into.ensures.some refl in
    grows_by _ _ _ _ _ leads.1 c.add_owners.ensures.adds
