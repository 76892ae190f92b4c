use Rattle.image_drawer.proofs.Names.{is_marked, ZipBelow}
use Rattle.image_drawer.proofs.restricting.restrict_all.Given as goal

abbrev pub invariant-loop-entry : goal.invariant-loop-entry
invariant-loop-entry g l = ZipBelow (g.T.Restricted.IsPartOf (is_marked l.inside)) l.entry-index l.fn.entries l.entries
