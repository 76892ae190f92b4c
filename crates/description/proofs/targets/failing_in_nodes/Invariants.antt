use Rattle.description.proofs.Names.{take, All, AllIn}
use Rattle.description.proofs.targets.failing_in_nodes.Given as goal

-- the capabilities of the first k nodes pass
abbrev pub invariant-loop-k : goal.invariant-loop-k
invariant-loop-k g l = All (λ n. AllIn (g.N.Naming.Passes l.naming) n.slots.items) (take l.k l.nodes)
