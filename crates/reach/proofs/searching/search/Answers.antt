use Rattle.reach.proofs.Searches.{searched_without}
use Rattle.reach.proofs.searching.search.Goals as goal

pub returns : goal.returns
returns c =
    let searched = c.in_ok-levels.ensures in
    (searched.0, searched.1, searched_without _ _ _ _ _ _ _ c.in_ok-set.ensures.each searched.2)
