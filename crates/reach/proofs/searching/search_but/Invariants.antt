use Rattle.reach.proofs.Names.{is_marked, IsSearched, missing, links}
use Rattle.std.proofs.Common.{◌+◌, ◌-◌}
use Rattle.reach.proofs.Searches.{Begun}
use Rattle.reach.proofs.searching.search_but.Given as goal

abbrev pub invariant-loop-start : goal.invariant-loop-start
invariant-loop-start l = Begun l.objects l.starts l.start-index l.levels

abbrev pub invariant-loop-level : goal.invariant-loop-level
invariant-loop-level l = IsSearched l.objects (links l.purpose (is_marked l.trusted)) l.starts l.level l.levels

abbrev pub decreases-loop-level : goal.decreases-loop-level
decreases-loop-level l = (missing l.levels.found.items + l.levels.greatest + 1) - l.level
