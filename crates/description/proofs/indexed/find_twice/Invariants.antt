use Rattle.description.proofs.Names.{AreDistinct, All, take}
use Rattle.std.proofs.Common.{◌≤◌}
use Rattle.description.proofs.indexed.find_twice.Given as goal

-- the first j numbers are distinct, and none is above `most`
abbrev pub invariant-loop-j : goal.invariant-loop-j
invariant-loop-j g l =
    AreDistinct (take l.j (g.N.Numbers.numbers l.numbers)) × All (λ n. n ≤ l.most) (take l.j (g.N.Numbers.numbers l.numbers))
