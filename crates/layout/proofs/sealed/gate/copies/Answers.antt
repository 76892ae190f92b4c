use Rattle.std.proofs.Common.{arith, ◌∙◌}
use Rattle.layout.proofs.NumberedGates.{counted_here, counted_not, few_counted}
use Rattle.layout.proofs.sealed.gate.copies.Goals as goal
use Rattle.layout.proofs.sealed.gate.copies.Goals.{then-other-number, else-other-number}

pub overflow_add-count : goal.overflow_add-count
overflow_add-count c =
    omega (
      arith,
      c.requires,
      few_counted c.args.number c.args.numbers.now c.loop-other.other-index c.loop-other.count c.loop-other-test.true
          c.loop-other.invariant,
    )

pub loop-other-preserved : goal.loop-other-preserved
loop-other-preserved c =
    let xs = c.args.numbers.now in
    let i = c.loop-other.other-index in
    elim c.if-other-number.branch [
      | then-other-number w ↦
          w.count-is ∙ counted_here c.args.number xs i c.loop-other.count c.loop-other-test.true c.loop-other.invariant
          w.if-other-number.true
      | else-other-number w ↦
          w.count-is ∙ counted_not c.args.number xs i c.loop-other.count c.loop-other-test.true c.loop-other.invariant
          w.if-other-number.false
    ]
