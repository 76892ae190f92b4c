use Rattle.layout.proofs.GateCopies.{no_majority}
use Rattle.layout.proofs.sealed.gate.majority.Goals as goal

pub returns-clause-none : goal.returns-clause-none
returns-clause-none c = no_majority c.args.numbers.now c.loop-number.number-index c.loop-number-test.false c.loop-number.invariant
