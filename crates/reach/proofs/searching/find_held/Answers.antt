use Rattle.reach.proofs.Finding.{held_next}
use Rattle.reach.proofs.searching.find_held.Goals as goal

pub loop-index-preserved : goal.loop-index-preserved
loop-index-preserved c = held_next _ _ _ _ _ _ _ _ c.loop-index.invariant c.find.ensures
