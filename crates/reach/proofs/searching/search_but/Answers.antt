use Rattle.std.proofs.Common.{refl}
use Rattle.reach.proofs.Searches.{begun_next, begun_none, searched_next}
use Rattle.reach.proofs.searching.search_but.Goals as goal

pub loop-start-init : goal.loop-start-init
loop-start-init c = begun_none _ _ _ _ c.in_ok-levels.ensures.found refl c.in_ok-levels.ensures.greatest

pub loop-start-preserved : goal.loop-start-preserved
loop-start-preserved c = begun_next _ _ _ _ _ c.loop-start.invariant c.begin.ensures c.loop-start-test.true

pub loop-level-preserved : goal.loop-level-preserved
loop-level-preserved c = searched_next _ _ _ _ _ _ c.loop-level.invariant c.follow_level.ensures
