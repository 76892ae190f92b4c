use Rattle.layout.proofs.Directories.{RisingBelow}
use Rattle.layout.proofs.directory.are_rising.Given as goal

abbrev pub invariant-loop-i : goal.invariant-loop-i
invariant-loop-i l = RisingBelow l.entries l.i
