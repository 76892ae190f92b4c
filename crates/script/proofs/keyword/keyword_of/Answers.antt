use Rattle.std.proofs.Common.{arith}
use Rattle.script.proofs.Tables.{no_keyword_left}
use Rattle.script.proofs.keyword.keyword_of.Goals as goal

pub returns-clause-none : goal.returns-clause-none
returns-clause-none c = no_keyword_left c.args.word.now (λ i small. c.loop-keyword.invariant i
    (omega (arith, small, c.loop-keyword-test.false)))
