use Rattle.reach.specs.Levels.{FindsBy, IsOwnedBelow}
use Rattle.reach.proofs.searching.find_owned.Given as goal

abbrev pub invariant-loop-number : goal.invariant-loop-number
invariant-loop-number l = FindsBy (IsOwnedBelow l.objects l.number l.bank) l.level l.fn.levels l.levels
