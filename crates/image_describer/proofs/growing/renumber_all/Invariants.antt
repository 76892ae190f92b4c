use Rattle.image_describer.proofs.Names.{moved, ZipBelow}
use Rattle.image_describer.proofs.growing.renumber_all.Given as goal

abbrev pub invariant-loop-entry : goal.invariant-loop-entry
invariant-loop-entry g l = ZipBelow (g.T.Renumbered.IsMoved (moved l.old l.new)) l.entry-index l.fn.entries l.entries
