use Rattle.description.proofs.Names.{take, All, IfNamed}
use Rattle.description.proofs.targets.first_failing.Given as goal

-- the first i capabilities pass
abbrev pub invariant-loop-i : goal.invariant-loop-i
invariant-loop-i g l = All (λ s. IfNamed (g.N.Naming.Passes l.naming) s.capability) (take l.i l.slots)
