use Rattle.script.proofs.Names.{rules, arith, digit_at, first_word}
use Rattle.script.proofs.FirstWords.{goes_on, word_reads}
use Rattle.script.proofs.Numbers.{value_more, word_great}
use Rattle.script.proofs.number.value_in_front.Goals as goal

pub returns-then-not-is_ascii_digit-clause-none : goal.returns-then-not-is_ascii_digit-clause-none
returns-then-not-is_ascii_digit-clause-none c = λ digits.
    let past = goes_on c.args.text.now c.loop-size.size c.loop-size.invariant.first c.loop-size-test.true c.if-byte-eq32.false in
    let reads = word_reads c.args.text.now c.loop-size.size past in
    let digit = digit_at (first_word c.args.text.now) c.loop-size.size digits reads.0 in
    absurd (omega (arith, digit, reads.1, c.if-not-is_ascii_digit.ensures.cases))

pub returns-in_err-number-clause-none : goal.returns-in_err-number-clause-none
returns-in_err-number-clause-none c = search (rules, goes_on, word_great)

pub loop-size-preserved : goal.loop-size-preserved
loop-size-preserved c = search (rules, goes_on, value_more)
