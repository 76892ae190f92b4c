use Rattle.script.proofs.LineFaults.{Taken}
use Rattle.script.proofs.line_fault.operands_fault.Given as goal

abbrev pub invariant-loop-index : goal.invariant-loop-index
invariant-loop-index l = Taken l.registers l.fn.words l.index l.words
