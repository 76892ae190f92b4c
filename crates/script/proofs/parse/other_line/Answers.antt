use Rattle.script.proofs.Names.{ap, inr, arith, length, length-spelling}
use Rattle.script.proofs.Spellings.{no_spelling, reads_said}
use Rattle.script.proofs.parse.other_line.Goals as goal

pub returns-then-line-gt-LONGEST_LINE-clause-reads : goal.returns-then-line-gt-LONGEST_LINE-clause-reads
returns-then-line-gt-LONGEST_LINE-clause-reads c = λ d fits spelt. absurd (omega (arith, length-spelling d fits, ap length spelt))

pub returns-in-Some-clause-reads : goal.returns-in-Some-clause-reads
returns-in-Some-clause-reads c = reads_said c.args.line.now c.in-Some.command c.in-Some.ensures.found

pub returns-in-None-clause-says : goal.returns-in-None-clause-says
returns-in-None-clause-says c = inr (grind arith, λ d fits. no_spelling c.args.line.now d fits (c.in-None.ensures.none d fits))

pub returns-in-None-clause-reads : goal.returns-in-None-clause-reads
returns-in-None-clause-reads c = λ d fits spelt. absurd (no_spelling c.args.line.now d fits (c.in-None.ensures.none d fits) spelt)
