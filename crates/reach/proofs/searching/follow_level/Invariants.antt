use Rattle.reach.proofs.Names.{is_marked, FindsBy, IsFromLevel, links}
use Rattle.std.proofs.Common.{◌+◌}
use Rattle.reach.proofs.searching.follow_level.Given as goal

abbrev pub invariant-loop-number : goal.invariant-loop-number
invariant-loop-number l = FindsBy (IsFromLevel l.objects (links l.purpose (is_marked l.trusted)) l.fn.levels l.level l.number) (l.level + 1)
    l.fn.levels l.levels
