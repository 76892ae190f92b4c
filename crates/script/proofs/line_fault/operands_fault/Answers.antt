use Rattle.std.proofs.Common.{arith, refl, ◌∙◌, sym}
use Rattle.script.proofs.LineFaults.{empty_behind_table, fault_in_table, one_taken}
use Rattle.script.proofs.line_fault.operands_fault.Goals as goal

pub returns-in-Some-clause-fault : goal.returns-in-Some-clause-fault
returns-in-Some-clause-fault c =
    let why = c.in-Some.ensures.fault in
    fault_in_table _ _ c.operands-registers.ensures _ _ _ c.loop-index.invariant why.1 _ why.0 _ c.loop-index-test.true why.2 refl why.3

pub loop-index-preserved : goal.loop-index-preserved
loop-index-preserved c =
    let fine = c.in_default.ensures.none in
    one_taken _ _ _ _ _ _ c.loop-index-test.true c.loop-index.invariant fine.1 fine.2

pub returns-then-is_empty-2-clause-fault : goal.returns-then-is_empty-2-clause-fault
returns-then-is_empty-2-clause-fault c = empty_behind_table _ _ c.operands-registers.ensures _ _ _ c.loop-index.invariant
    (omega (arith, c.loop-index-test.false)) _ _ _ c.in_ok-word.ensures refl (sym c.is_empty-2.ensures ∙ c.if-is_empty-2.true)
