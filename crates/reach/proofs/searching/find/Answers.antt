use Rattle.reach.proofs.Finding.{finds_by}
use Rattle.reach.proofs.searching.find.Goals as goal

pub returns-in-Some : goal.returns-in-Some
returns-in-Some c = finds_by _ _ _ _ _ _ _ _ c.in-Some.ensures.some c.add.ensures
