use Rattle.description.proofs.Names.{take, items_view, AreItems, IsTable}
use Rattle.description.proofs.list.objects_of.Given as goal

-- the first i tables were read as these objects
abbrev pub invariant-loop-i : goal.invariant-loop-i
invariant-loop-i g l = AreItems (IsTable g.T.FromTable.IsRead) (items_view (take l.i l.items.items)) l.list.items
