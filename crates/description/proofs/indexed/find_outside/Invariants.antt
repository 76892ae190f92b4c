use Rattle.description.proofs.Names.{take, All}
use Rattle.std.proofs.Common.{◌<◌, ◌≤◌}
use Rattle.description.proofs.indexed.find_outside.Given as goal

abbrev pub invariant-loop-i : goal.invariant-loop-i
invariant-loop-i g l = All (λ n. (l.first ≤ n) × (n < l.end)) (take l.i (g.N.Numbers.numbers l.numbers))
