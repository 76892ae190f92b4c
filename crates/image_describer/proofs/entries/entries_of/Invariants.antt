use Rattle.image_describer.proofs.Naming.{NamesBefore}
use Rattle.image_describer.proofs.entries.entries_of.Given as goal

abbrev pub invariant-loop-i : goal.invariant-loop-i
invariant-loop-i g l = NamesBefore g.E.SparseEntry.index g.E.SparseEntry.value g.E.SparseEntry.default l.items l.i l.entries.items
