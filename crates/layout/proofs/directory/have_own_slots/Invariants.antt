use Rattle.layout.proofs.Directories.{IsUsed}
use Rattle.layout.proofs.directory.have_own_slots.Given as goal

abbrev pub invariant-loop-entry : goal.invariant-loop-entry
invariant-loop-entry l = IsUsed l.entries l.used l.entry-index
