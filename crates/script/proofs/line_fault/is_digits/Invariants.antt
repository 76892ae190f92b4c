use Rattle.script.proofs.Names.{take, AllDigits}
use Rattle.script.proofs.line_fault.is_digits.Given as goal

abbrev pub invariant-loop-index : goal.invariant-loop-index
invariant-loop-index l = AllDigits 10 (take l.index l.word)
