use Rattle.description.proofs.Names.{Contains, take}
use Rattle.description.proofs.indexed.find_before.Given as goal

-- the first i numbers differ from `number`
abbrev pub invariant-loop-i : goal.invariant-loop-i
invariant-loop-i g l = Contains (take l.i (g.N.Numbers.numbers l.numbers)) l.number → ⊥
