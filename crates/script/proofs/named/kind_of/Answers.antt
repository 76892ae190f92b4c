use Rattle.std.proofs.Common.{arith}
use Rattle.script.proofs.Tables.{no_kind_left}
use Rattle.script.proofs.named.kind_of.Goals as goal

pub returns-clause-none : goal.returns-clause-none
returns-clause-none c = no_kind_left c.args.word.now (λ i small. c.loop-kind.invariant i (omega (arith, small, c.loop-kind-test.false)))
