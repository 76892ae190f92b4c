use Rattle.reach.proofs.Names.{is_marked, FindsBy, IsHeldIn, links}
use Rattle.reach.proofs.searching.find_held.Given as goal

abbrev pub invariant-loop-index : goal.invariant-loop-index
invariant-loop-index l = FindsBy (IsHeldIn (links l.purpose (is_marked l.trusted)) l.slots l.index l.from) l.level l.fn.levels l.levels
