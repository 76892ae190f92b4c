use Rattle.std.proofs.Common.{arith, sym, ◌∙◌}
use Rattle.script.proofs.LineFaults.{no_number, operand_here, register_fault, word_fault_here}
use Rattle.script.proofs.line_fault.operand_fault.Goals as goal

pub number_fault-requires : goal.number_fault-requires
number_fault-requires c = no_number c.args.words.now c.next.new.self c.in-Some.word.now (sym c.copy-ahead.ensures ∙ c.in-Some.ensures)
    c.in-None-number.ensures

pub returns-in-None-number-clause-fault : goal.returns-in-None-number-clause-fault
returns-in-None-number-clause-fault c = word_fault_here _ _ _ _ _ _ (sym c.copy-ahead.ensures ∙ c.in-Some.ensures) c.number_fault.ensures

pub returns-then-number-most-clause-fault : goal.returns-then-number-most-clause-fault
returns-then-number-most-clause-fault c =
    register_fault c.args.is_register c.args.words.now c.number.new.self c.in-Some-number.number c.greatest-most.result
    c.in-Some-number.ensures
    c.greatest-most.ensures c.if-number-most.true c.args.place

pub returns-else-number-most-clause-none : goal.returns-else-number-most-clause-none
returns-else-number-most-clause-none c = operand_here _ _ _ _ _ c.in-Some-number.ensures c.greatest-most.ensures
    (omega (arith, c.if-number-most.false))
