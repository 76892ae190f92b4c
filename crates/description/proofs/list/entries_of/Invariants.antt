use Rattle.description.proofs.Names.{take, items_view, AreItems}
use Rattle.description.proofs.list.entries_of.Given as goal

-- the first i values were read as these items
abbrev pub invariant-loop-i : goal.invariant-loop-i
invariant-loop-i g l = AreItems g.T.FromValue.IsSaid (items_view (take l.i l.items.items)) l.list.items
