use Rattle.std.proofs.Common.{arith}
use Rattle.script.proofs.ShortNumbers.{one_digit}
use Rattle.script.proofs.short.number_before.Goals as goal

pub returns-then-pair-le-NINE_AND_SPACE-clause-reads : goal.returns-then-pair-le-NINE_AND_SPACE-clause-reads
returns-then-pair-le-NINE_AND_SPACE-clause-reads c =
    one_digit c.args.text.now c.args.at _ (omega (arith, c.requires.room, c.requires.more))
    ((omega (arith, c.two_at-pair.ensures), omega (arith, c.two_at-pair.ensures)), omega (arith, c.two_at-pair.ensures))
    (omega (arith, c.two_at-pair.ensures))
