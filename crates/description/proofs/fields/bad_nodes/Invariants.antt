use Rattle.description.proofs.Names.{take, All, AreSlots}
use Rattle.description.proofs.fields.bad_nodes.Given as goal

-- the slots of the first k nodes are valid
abbrev pub invariant-loop-k : goal.invariant-loop-k
invariant-loop-k l = All (λ n. AreSlots 0 n.slots.items) (take l.k l.nodes)
